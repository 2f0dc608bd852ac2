-- Operands that can be completed.
use Rattle.std.proofs.Common.{◌≡◌, ◌⊎◌, ℕ, zero, suc, ◌-◌, ◌≤◌, Bool, true, false, List, [], ◌∷◌, ◌++◌, map, length, codes, refl, ap, subst, inl, inr, arith, append_assoc, length-append}
use Rattle.std.specs.Prelude.{Some}
use Rattle.std.proofs.lemmas.List.{nil_from_length}
use Rattle.cd_meaning.specs.declared.expression.Expr.{Expr}
use Rattle.cd_meaning.specs.declared.expression.Axiom.TheVariants.{SubClass, SameClasses, Disjoint, DisjointUnion, SubRole, SameRoles, Domain, Range}
use Rattle.cd_meaning.specs.declared.expression.Expr.TheVariants.{Name, Meet, Join, Minus, SomeOf, AllOf}
use Rattle.cd_names.specs.Names.{number}
use Rattle.cd_syntax.specs.declared.item.Item.{Item}
use Rattle.cd_syntax.specs.declared.item.Item.TheVariants.{FullIri}
use Rattle.cd_syntax.specs.declared.known.Known.{Known}
use Rattle.cd_syntax.specs.declared.operands.Made.{Made}
use Rattle.cd_grammar.specs.declared.symbol.Frame.{Frame}
use Rattle.cd_syntax.specs.declared.words.AxiomForm.{AxiomForm}
use Rattle.cd_syntax.specs.declared.words.AxiomForm.TheVariants.{SubClassOf, EquivalentClasses, DisjointClasses, SubObjectPropertyOf, EquivalentObjectProperties, ObjectPropertyDomain, ObjectPropertyRange}
use Rattle.cd_syntax.specs.declared.words.ExprForm.TheVariants.{ObjectIntersectionOf, ObjectUnionOf, ObjectComplementOf, ObjectSomeValuesFrom, ObjectAllValuesFrom}
use Rattle.cd_syntax.specs.declared.words.Form.{Form}
use Rattle.cd_syntax.specs.Grammar.{with_axiom, with_class, with_role}
use Rattle.cd_syntax.proofs.ItemGrammar.{Wanted, ClassOf, RoleOf, ExprOf, Leads, head_of, operands}
use Rattle.cd_syntax.specs.Operands.{heads_of, has_more_heads, parts_of, has_more_parts, has_class_head, made_of}
use Rattle.cd_grammar.proofs.Fills.{Completes, last_of, handed_by}

-- ---- derivations beside each other

-- a derivation, with the same wanted behind it
beside : (most : ℕ) (known : Known) (wanted : List Wanted) (items : List Item) (known' : Known) (wanted' rest : List Wanted)
    → Leads most known wanted items known' wanted' → Leads most known (wanted ++ rest) items known' (wanted' ++ rest)
beside most known wanted items known' wanted' rest Leads.here = Leads.here
beside most known wanted items known' wanted' rest (Leads.one {after = a} {wanted = w} {items = is} s r) = Leads.one s (beside most a w is known' wanted' rest r)
beside most known wanted items known' wanted' rest (Leads.line {wanted = w} {items = is} parts l r) =
    Leads.line parts l (subst (λ (all : List Wanted). Leads most known all is known' (wanted' ++ rest)) (append_assoc parts w rest)
    (beside most known (parts ++ w) is known' wanted' rest r))

-- two derivations, one behind the other
followed : (most : ℕ) (known : Known) (wanted : List Wanted) (items : List Item) (after : Known) (wanted' : List Wanted) (more : List Item) (known' : Known) (wanted'' : List Wanted)
    → Leads most known wanted items after wanted' → Leads most after wanted' more known' wanted'' → Leads most known wanted (items ++ more) known' wanted''
followed most known wanted items after wanted' more known' wanted'' Leads.here next = next
followed most known wanted items after wanted' more known' wanted'' (Leads.one {after =
    a} {wanted = w} {items = is} s r) next = Leads.one s (followed most a w is after wanted' more known' wanted'' r next)
followed most known wanted items after wanted' more known' wanted'' (Leads.line {wanted = w} {items = is} parts l r) next =
    Leads.line parts l (followed most known (parts ++ w) is after wanted' more known' wanted'' r next)

-- what is wanted is met, and then what stands behind it
pub joined : (most : ℕ) (known : Known) (wanted : List Wanted) (items : List Item) (after : Known) (wanted' : List Wanted) (more : List Item) (known' : Known) (wanted'' : List Wanted)
    → Leads most known wanted items after [] → Leads most after wanted' more known' wanted'' → Leads most known (wanted ++ wanted') (items ++ more) known' wanted''
joined most known wanted items after wanted' more known' wanted'' first next =
    followed most known (wanted ++ wanted') items after wanted' more known' wanted'' (beside most known wanted items after [] wanted' first) next

-- ---- how many operands a form takes

-- so many heads and parts can be completed
abbrev pub IsPending : Form → ℕ → ℕ → Type 0
IsPending form heads parts =
    ((parts ≡ 0) × (has_more_heads form ≡ false → heads ≤ heads_of form)) ⊎ ((heads ≡ heads_of form) × (has_more_parts form ≡ false → parts ≤ parts_of form))

-- so many heads and parts are as many as the form takes
abbrev IsFull : Form → ℕ → ℕ → Type 0
IsFull form heads parts =
    (heads_of form ≤ heads) × (has_more_heads form ≡ false → heads ≤ heads_of form) × (parts_of form ≤ parts) × (has_more_parts form ≡ false → parts ≤ parts_of form)

-- operands that can be completed, and those that they lack
full_by : (form : Form) (heads heads' : List ℕ) (parts parts' : List Expr) → IsPending form (length heads) (length parts)
    → length heads' ≡ heads_of form - length heads → length parts' ≡ parts_of form - length parts → IsFull form (length (heads ++ heads')) (length (parts ++ parts'))
full_by form heads heads' parts parts' pending some many = simp length-append (grind arith)

-- so many expressions does a form hand to the operands around it
abbrev pub handed_on : Form → ℕ
handed_on (Form.Axiom form) = 0
handed_on (Form.Expr form) = 1

-- the operands make something, which is handed on as the form says
abbrev IsMade : Form → List ℕ → List Expr → Type 0
IsMade form heads parts = (made : Made) × (made_of form heads parts ≡ Some made) × (length (handed_by made) ≡ handed_on form)

-- as many operands as the form takes make an axiom or an expression
makes : (form : Form) (heads : List ℕ) (parts : List Expr) → IsFull form (length heads) (length parts) → IsMade form heads parts
makes (Form.Axiom SubClassOf) [] (c ∷ d ∷ []) full = (Made.Axiom (SubClass c d), refl, refl)
makes (Form.Axiom EquivalentClasses) [] (c ∷ d ∷ more) full = (Made.Axiom (SameClasses (c ∷ d ∷ more)), refl, refl)
makes (Form.Axiom DisjointClasses) [] (c ∷ d ∷ more) full = (Made.Axiom (Disjoint (c ∷ d ∷ more)), refl, refl)
makes (Form.Axiom AxiomForm.DisjointUnion) (a ∷ []) (c ∷ d ∷ more) full = (Made.Axiom (DisjointUnion a (c ∷ d ∷ more)), refl, refl)
makes (Form.Axiom SubObjectPropertyOf) (r ∷ s ∷ []) [] full = (Made.Axiom (SubRole r s), refl, refl)
makes (Form.Axiom EquivalentObjectProperties) (r ∷ s ∷ more) [] full = (Made.Axiom (SameRoles (r ∷ s ∷ more)), refl, refl)
makes (Form.Axiom ObjectPropertyDomain) (r ∷ []) (c ∷ []) full = (Made.Axiom (Domain r c), refl, refl)
makes (Form.Axiom ObjectPropertyRange) (r ∷ []) (c ∷ []) full = (Made.Axiom (Range r c), refl, refl)
makes (Form.Expr ObjectIntersectionOf) [] (c ∷ more) full = (Made.Expr (Meet (c ∷ more)), refl, refl)
makes (Form.Expr ObjectUnionOf) [] (c ∷ more) full = (Made.Expr (Join (c ∷ more)), refl, refl)
makes (Form.Expr ObjectComplementOf) [] (c ∷ []) full = (Made.Expr (Minus c), refl, refl)
makes (Form.Expr ObjectSomeValuesFrom) (r ∷ []) (c ∷ []) full = (Made.Expr (SomeOf r c), refl, refl)
makes (Form.Expr ObjectAllValuesFrom) (r ∷ []) (c ∷ []) full = (Made.Expr (AllOf r c), refl, refl)
makes form heads parts full = absurd (grind arith)

-- no operand came yet
pub pending_bare : (form : Form) → IsPending form 0 0
pending_bare form = inl (refl, λ few. omega arith)

-- ---- operands that complete others

-- the IRI of each class and role that is lacking
abbrev pub any_iri : List ℕ
any_iri = codes "x:"

abbrev pub any_name : Item
any_name = FullIri any_iri

-- one of these is met by an item, whatever is known
abbrev IsMet : {X : Type 0} → ℕ → (X → Wanted) → Type 0
IsMet {X} most wants = (known : Known) → (x : X) × (after : Known) × Leads most known (wants x ∷ []) (any_name ∷ []) after []

-- a class or a role
abbrev pub headed : Bool → ℕ → Wanted
headed is_class = elim is_class [ true ↦ ClassOf | false ↦ RoleOf ]

-- a class or a role is met
head_met : (most : ℕ) (is_class : Bool) → IsMet most (headed is_class)
head_met most true known = (number known.classes any_iri, with_class known any_iri, Leads.one (any_iri, refl, refl, refl) Leads.here)
head_met most false known = (number known.roles any_iri, with_role known any_iri, Leads.one (any_iri, refl, (λ e. cc), (λ e. cc), refl, refl) Leads.here)

-- so is an expression, by the name of a class
part_met : (most n : ℕ) → IsMet most (ExprOf n)
part_met most n known = (
  Name (number known.classes any_iri),
  with_class known any_iri,
  Leads.line (ClassOf (number known.classes any_iri) ∷ []) (inl (number known.classes any_iri, refl, refl)) (Leads.one (any_iri, refl, refl, refl) Leads.here),
)

-- so many of these are met by items
abbrev AreMet : {X : Type 0} → ℕ → (X → Wanted) → ℕ → Known → Type 0
AreMet {X} most wants n known = (xs : List X) × (length xs ≡ n) × (items : List Item) × (after : Known) × Leads most known (map wants xs) items after []

-- as many as one likes are met
are_met : {X : Type 0} → (most : ℕ) (wants : X → Wanted) → IsMet most wants → (n : ℕ) (known : Known) → AreMet most wants n known
are_met most wants each zero known = ([], refl, [], known, Leads.here)
are_met most wants each (suc n) known =
    let (x, a, first) = each known in
    let (xs, size, items, after, next) = are_met most wants each n a in
    (x ∷ xs, ap suc size, any_name ∷ items, after, joined most known (wants x ∷ []) (any_name ∷ []) a (map wants xs) items after [] first next)

-- what ends the operands is met
last_met : (most : ℕ) (known : Known) (made : Made) → (after : Known) × Leads most known (last_of made ∷ []) (Item.Closing ∷ []) after []
last_met most known (Made.Axiom a) = (with_axiom known a, Leads.one (refl, refl) Leads.here)
last_met most known (Made.Expr e) = (known, Leads.one (refl, refl) Leads.here)

-- items that complete the operands of the frame and the given ones
abbrev pub Finishes : ℕ → Known → Frame → List Expr → Type 0
Finishes most known frame given = (first : List Wanted) × (handed : List Expr) × (items : List Item) × (after : Known)
    × Completes frame given first handed × (length handed ≡ handed_on frame.form) × Leads most known first items after []

-- no head is lacking behind a part
in_order : (frame : Frame) (given : List Expr) (heads : List ℕ) → IsPending frame.form (length frame.heads) (length (frame.parts ++ given))
    → length heads ≡ heads_of frame.form - length frame.heads → (heads ≡ []) ⊎ (frame.parts ++ given ≡ [])
in_order frame given heads (inl (none, within)) size = inr (nil_from_length (frame.parts ++ given) none)
in_order frame given heads (inr (exact, within)) size = inl (nil_from_length heads (omega arith))

-- operands that can be completed are completed by some items
pub finishes : (most : ℕ) (known : Known) (frame : Frame) (given : List Expr) → IsPending frame.form (length frame.heads) (length (frame.parts ++ given))
    → Finishes most known frame given
finishes most known frame given pending =
    let (heads, some, items, a, first) = are_met most (head_of frame.form) (head_met most (has_class_head frame.form)) (heads_of frame.form - length frame.heads) known in
    let (parts, many, more, b, next) = are_met most (ExprOf frame.nesting) (part_met most frame.nesting) (parts_of frame.form - length (frame.parts ++ given)) a in
    let (made, is, size) = makes frame.form (frame.heads ++ heads) ((frame.parts ++ given) ++ parts)
    (full_by frame.form frame.heads heads (frame.parts ++ given) parts pending some many) in
    let (after, last) = last_met most b made in (
      operands frame.form frame.nesting heads parts ++ last_of made ∷ [],
      handed_by made,
      (items ++ more) ++ Item.Closing ∷ [],
      after,
      record { heads = heads; parts = parts; made = made; makes = is; in_order = in_order frame given heads pending some; wants = refl; hands = refl },
      size,
      joined most known (operands frame.form frame.nesting heads parts) (items ++ more) b (last_of made ∷ []) (Item.Closing ∷ []) after []
          (joined most known (map (head_of frame.form) heads) items a (map (ExprOf frame.nesting) parts) more b [] first next) last,
    )
