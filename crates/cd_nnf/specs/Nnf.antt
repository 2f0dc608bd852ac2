-- The negation normal form of a class expression, in which `Minus` stands before names alone.
use Rattle.std.specs.Prelude.{◌≡◌, ℕ, Bool, true, false, not, map}
use Rattle.std.specs.List.{list_all}
use Rattle.cd_meaning.specs.declared.expression.Expr.{Expr}
use Rattle.cd_meaning.specs.declared.expression.Expr.TheVariants.{Name, Meet, Join, Minus, SomeOf, AllOf}
use Rattle.cd_meaning.specs.declared.expression.Expr.TheOpen.{Expr-F}
use Rattle.cd_meaning.specs.declared.expression.Expr.TheFolds.{fold-Expr}
use Rattle.cd_meaning.specs.declared.interpretation.Interpretation.{Interpretation}
use Rattle.cd_meaning.specs.Membership.{member}

-- the two normal forms of an expression: its own, and that of its complement
pub record Forms : Type 0 where
  pub plain : Expr
  pub negated : Expr

-- both normal forms from those of the parts: under a complement intersection and union change places, and so do the two quantifiers
abbrev pub forms_by_parts : Expr-F Forms → Forms
forms_by_parts (Expr-F.Name c) = record { plain = Name c; negated = Minus (Name c) }
forms_by_parts (Expr-F.Meet parts) =
    record {
      plain = Meet (map (λ part. part.plain) parts);
      negated = Join (map (λ part. part.negated) parts);
    }
forms_by_parts (Expr-F.Join parts) =
    record {
      plain = Join (map (λ part. part.plain) parts);
      negated = Meet (map (λ part. part.negated) parts);
    }
forms_by_parts (Expr-F.Minus part) = record { plain = part.negated; negated = part.plain }
forms_by_parts (Expr-F.SomeOf r part) =
    record { plain = SomeOf r part.plain; negated = AllOf r part.negated }
forms_by_parts (Expr-F.AllOf r part) =
    record { plain = AllOf r part.plain; negated = SomeOf r part.negated }

-- both normal forms of an expression
abbrev pub forms : Expr → Forms
forms = fold-Expr Forms forms_by_parts

-- the normal form of an expression
abbrev pub nnf : Expr → Expr
nnf e = (forms e).plain

-- the normal form of its complement
abbrev pub nnf_not : Expr → Expr
nnf_not e = (forms e).negated

-- what an expression looks like: whether it is a name, and whether in it `Minus` stands before names alone
pub record Shape : Type 0 where
  pub is_name : Bool
  pub is_normal : Bool

-- the shape of an expression from those of the parts
abbrev pub shape_by_parts : Expr-F Shape → Shape
shape_by_parts (Expr-F.Name c) = record { is_name = true; is_normal = true }
shape_by_parts (Expr-F.Meet parts) =
    record { is_name = false; is_normal = list_all (λ part. part.is_normal) parts }
shape_by_parts (Expr-F.Join parts) =
    record { is_name = false; is_normal = list_all (λ part. part.is_normal) parts }
shape_by_parts (Expr-F.Minus part) = record { is_name = false; is_normal = part.is_name }
shape_by_parts (Expr-F.SomeOf r part) = record { is_name = false; is_normal = part.is_normal }
shape_by_parts (Expr-F.AllOf r part) = record { is_name = false; is_normal = part.is_normal }

-- whether `Minus` stands before names alone
abbrev pub is_nnf : Expr → Bool
is_nnf e = (fold-Expr Shape shape_by_parts e).is_normal

-- the normal form has the members of the expression
abbrev pub NnfHasTheMembers : Type 0
NnfHasTheMembers = (i : Interpretation) (e : Expr) (x : ℕ) → member i (nnf e) x ≡ member i e x

-- the normal form of the complement has the other elements
abbrev pub NnfNotHasTheOthers : Type 0
NnfNotHasTheOthers = (i : Interpretation) (e : Expr) (x : ℕ)
    → member i (nnf_not e) x ≡ not (member i e x)

-- in both normal forms `Minus` stands before names alone
abbrev pub NnfHasNamesUnderMinus : Type 0
NnfHasNamesUnderMinus = (e : Expr) → (is_nnf (nnf e) ≡ true) × (is_nnf (nnf_not e) ≡ true)
