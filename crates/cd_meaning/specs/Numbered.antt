-- The numbers of classes and of roles in an axiom.
use Rattle.std.specs.Prelude.{ℕ, Bool, ◌&&◌, nat_lt}
use Rattle.std.specs.List.{list_all}
use Rattle.cd_meaning.specs.declared.expression.Expr.{Expr}
use Rattle.cd_meaning.specs.declared.expression.Expr.TheOpen.{Expr-F}
use Rattle.cd_meaning.specs.declared.expression.Expr.TheFolds.{fold-Expr}
use Rattle.cd_meaning.specs.declared.expression.Axiom.{Axiom}
use Rattle.cd_meaning.specs.declared.expression.Axiom.TheVariants.{SubClass, SameClasses, Disjoint, DisjointUnion, SubRole, SameRoles, Domain, Range}

-- from whether the parts are
abbrev pub below_by_parts : ℕ → ℕ → Expr-F Bool → Bool
below_by_parts classes roles (Expr-F.Name c) = nat_lt c classes
below_by_parts classes roles (Expr-F.Meet parts) = list_all (λ part. part) parts
below_by_parts classes roles (Expr-F.Join parts) = list_all (λ part. part) parts
below_by_parts classes roles (Expr-F.Minus part) = part
below_by_parts classes roles (Expr-F.SomeOf r part) = nat_lt r roles && part
below_by_parts classes roles (Expr-F.AllOf r part) = nat_lt r roles && part

-- the expression's classes and roles are below these numbers
abbrev pub is_in_range : ℕ → ℕ → Expr → Bool
is_in_range classes roles = fold-Expr Bool (below_by_parts classes roles)

-- the axiom's classes and roles are below these numbers
abbrev pub has_numbers_below : ℕ → ℕ → Axiom → Bool
has_numbers_below n m (SubClass c d) = is_in_range n m c && is_in_range n m d
has_numbers_below n m (SameClasses l) = list_all (is_in_range n m) l
has_numbers_below n m (Disjoint l) = list_all (is_in_range n m) l
has_numbers_below n m (DisjointUnion a l) = nat_lt a n && list_all (is_in_range n m) l
has_numbers_below n m (SubRole r s) = nat_lt r m && nat_lt s m
has_numbers_below n m (SameRoles l) = list_all (λ r. nat_lt r m) l
has_numbers_below n m (Domain r c) = nat_lt r m && is_in_range n m c
has_numbers_below n m (Range r c) = nat_lt r m && is_in_range n m c
