-- How far the numbers of what operands make go.
use Rattle.std.proofs.Common.{◌≡◌, ℕ, ◌≤◌, Bool, true, false, ◌&&◌, cond, IsTrue, List, [], ◌∷◌, map, refl, sym, subst, ◌∙◌, arith}
use Rattle.std.specs.Prelude.{Option, Some, None, nat_lt}
use Rattle.std.specs.List.{AllByRecursion, list_all}
use Rattle.std.specs.Option.{option_map}
use Rattle.std.proofs.lemmas.Bool.{and_parts, and_from, ltb-true, lt-ltb}
use Rattle.cd_meaning.specs.declared.expression.Axiom.{Axiom}
use Rattle.cd_meaning.specs.declared.expression.Axiom.TheVariants.{SubClass, SameClasses, Disjoint, DisjointUnion, SubRole, SameRoles, Domain, Range}
use Rattle.cd_meaning.specs.declared.expression.Expr.{Expr}
use Rattle.cd_meaning.specs.declared.expression.Expr.TheVariants.{Name, Meet, Join, Minus, SomeOf, AllOf, rolls-Name, rolls-Meet, rolls-Join, rolls-Minus, rolls-SomeOf, rolls-AllOf}
use Rattle.cd_meaning.specs.declared.expression.Expr.TheOpen.{Expr-F}
use Rattle.cd_meaning.specs.declared.expression.Expr.TheViews.{roll-Expr}
use Rattle.cd_meaning.specs.declared.expression.Expr.TheFolds.{map-Expr, ind-Expr}
use Rattle.cd_meaning.specs.Numbered.{is_in_range, has_numbers_below}
use Rattle.cd_meaning.specs.NodesTable.{below-Name, below-Meet, below-Join, below-Minus, below-SomeOf, below-AllOf}
use Rattle.cd_syntax.specs.declared.operands.Made.{Made}
use Rattle.cd_syntax.specs.declared.words.AxiomForm.{AxiomForm}
use Rattle.cd_syntax.specs.declared.words.AxiomForm.TheVariants.{SubClassOf, EquivalentClasses, DisjointClasses, SubObjectPropertyOf, EquivalentObjectProperties, ObjectPropertyDomain, ObjectPropertyRange}
use Rattle.cd_syntax.specs.declared.words.ExprForm.{ExprForm}
use Rattle.cd_syntax.specs.declared.words.ExprForm.TheVariants.{ObjectIntersectionOf, ObjectUnionOf, ObjectComplementOf, ObjectSomeValuesFrom, ObjectAllValuesFrom}
use Rattle.cd_syntax.specs.declared.words.Form.{Form}
use Rattle.cd_syntax.specs.Operands.{axiom_of, expression_of, has_class_head, made_of}

-- ---- with more numbers

all_weaker : {X : Type 0} (p q : X → Bool) (xs : List X) → AllByRecursion (λ x. p x ≡ true → q x ≡ true) xs → list_all p xs ≡ true → list_all q xs ≡ true
all_weaker p q [] more h = refl
all_weaker p q (x ∷ xs) more h =
    let both = and_parts (p x) (list_all p xs) h in
    and_from (q x) (list_all q xs) (more.0 both.0) (all_weaker p q xs more.1 both.1)

every : {X : Type 0} (P : X → Type 0) → ((x : X) → P x) → (xs : List X) → AllByRecursion P xs
every P holds [] = tt
every P holds (x ∷ xs) = (holds x, every P holds xs)

and_weaker : (a b c d : Bool) → (a ≡ true → c ≡ true) → (b ≡ true → d ≡ true) → (a && b) ≡ true → (c && d) ≡ true
and_weaker a b c d first second h = let both = and_parts a b h in and_from c d (first both.0) (second both.1)

lt_more : (k n n' : ℕ) → n ≤ n' → nat_lt k n ≡ true → nat_lt k n' ≡ true
lt_more k n n' more h = lt-ltb k n' (let less = ltb-true k n h in omega arith)

numbers_stay : (n n' : ℕ) → n ≤ n' → (numbers : List ℕ) → list_all (λ k. nat_lt k n) numbers ≡ true → list_all (λ k. nat_lt k n') numbers ≡ true
numbers_stay n n' more numbers h =
    all_weaker (λ k. nat_lt k n) (λ k. nat_lt k n') numbers
    (every (λ (k : ℕ). nat_lt k n ≡ true → nat_lt k n' ≡ true) (λ k. lt_more k n n' more) numbers) h

-- the operands of a form: a class or roles in range, and expressions
abbrev pub HaveNumbersBelow : ℕ → ℕ → Form → List ℕ → List Expr → Type 0
HaveNumbersBelow n m form heads parts = IsTrue (list_all (λ k. nat_lt k (cond (has_class_head form) n m)) heads) × IsTrue (list_all (is_in_range n m) parts)

module _ (n m n' m' : ℕ) (classes_more : n ≤ n') (roles_more : m ≤ m') where
  -- it is in range of more numbers too
  abbrev StaysBelow : Expr → Type 0
  StaysBelow e = is_in_range n m e ≡ true → is_in_range n' m' e ≡ true

  all_stay : (parts : List Expr) → AllByRecursion StaysBelow parts → list_all (is_in_range n m) parts ≡ true → list_all (is_in_range n' m') parts ≡ true
  all_stay parts stay = all_weaker (is_in_range n m) (is_in_range n' m') parts stay

  name_stays : (c : ℕ) → StaysBelow (Name c)
  name_stays c h = below-Name n' m' c ∙ lt_more c n n' classes_more (sym (below-Name n m c) ∙ h)

  meet_stays : (parts : List Expr) → AllByRecursion StaysBelow parts → StaysBelow (Meet parts)
  meet_stays parts stay h = below-Meet n' m' parts ∙ all_stay parts stay (sym (below-Meet n m parts) ∙ h)

  join_stays : (parts : List Expr) → AllByRecursion StaysBelow parts → StaysBelow (Join parts)
  join_stays parts stay h = below-Join n' m' parts ∙ all_stay parts stay (sym (below-Join n m parts) ∙ h)

  minus_stays : (part : Expr) → StaysBelow part → StaysBelow (Minus part)
  minus_stays part stays h = below-Minus n' m' part ∙ stays (sym (below-Minus n m part) ∙ h)

  both_stay : (r : ℕ) (part : Expr) → StaysBelow part → (nat_lt r m && is_in_range n m part) ≡ true → (nat_lt r m' && is_in_range n' m' part) ≡ true
  both_stay r part stays = and_weaker (nat_lt r m) (is_in_range n m part) (nat_lt r m') (is_in_range n' m' part) (lt_more r m m' roles_more) stays

  some_stays : (r : ℕ) (part : Expr) → StaysBelow part → StaysBelow (SomeOf r part)
  some_stays r part stays h = below-SomeOf n' m' r part ∙ both_stay r part stays (sym (below-SomeOf n m r part) ∙ h)

  all_of_stays : (r : ℕ) (part : Expr) → StaysBelow part → StaysBelow (AllOf r part)
  all_of_stays r part stays h = below-AllOf n' m' r part ∙ both_stay r part stays (sym (below-AllOf n m r part) ∙ h)

  each_stays : (parts : List ((e : Expr) × StaysBelow e)) → AllByRecursion StaysBelow (map (λ part. part.0) parts)
  each_stays [] = tt
  each_stays (part ∷ parts) = (part.1, each_stays parts)

  layer_stays : (layer : Expr-F ((e : Expr) × StaysBelow e)) → StaysBelow (roll-Expr (map-Expr ((e : Expr) × StaysBelow e) Expr (λ part. part.0) layer))
  layer_stays (Expr-F.Name c) = subst StaysBelow (sym (rolls-Name c)) (name_stays c)
  layer_stays (Expr-F.Meet parts) = let l = map (λ part. part.0) parts in subst StaysBelow (sym (rolls-Meet l)) (meet_stays l (each_stays parts))
  layer_stays (Expr-F.Join parts) = let l = map (λ part. part.0) parts in subst StaysBelow (sym (rolls-Join l)) (join_stays l (each_stays parts))
  layer_stays (Expr-F.Minus part) = subst StaysBelow (sym (rolls-Minus part.0)) (minus_stays part.0 part.1)
  layer_stays (Expr-F.SomeOf r part) = subst StaysBelow (sym (rolls-SomeOf r part.0)) (some_stays r part.0 part.1)
  layer_stays (Expr-F.AllOf r part) = subst StaysBelow (sym (rolls-AllOf r part.0)) (all_of_stays r part.0 part.1)

  stays_below : (e : Expr) → StaysBelow e
  stays_below = ind-Expr StaysBelow (λ x y is. subst (λ (z : Expr-F Expr). StaysBelow (roll-Expr z)) is (layer_stays y))

  expressions_stay : (parts : List Expr) → list_all (is_in_range n m) parts ≡ true → list_all (is_in_range n' m') parts ≡ true
  expressions_stay parts h = all_stay parts (every StaysBelow stays_below parts) h

  axiom_stays : (a : Axiom) → has_numbers_below n m a ≡ true → has_numbers_below n' m' a ≡ true
  axiom_stays (SubClass c d) h = and_weaker (is_in_range n m c) (is_in_range n m d) (is_in_range n' m' c) (is_in_range n' m' d) (stays_below c) (stays_below d) h
  axiom_stays (SameClasses l) h = expressions_stay l h
  axiom_stays (Disjoint l) h = expressions_stay l h
  axiom_stays (DisjointUnion a l) h =
      and_weaker (nat_lt a n) (list_all (is_in_range n m) l) (nat_lt a n') (list_all (is_in_range n' m') l) (lt_more a n n' classes_more) (expressions_stay l) h
  axiom_stays (SubRole r s) h = and_weaker (nat_lt r m) (nat_lt s m) (nat_lt r m') (nat_lt s m') (lt_more r m m' roles_more) (lt_more s m m' roles_more) h
  axiom_stays (SameRoles l) h = numbers_stay m m' roles_more l h
  axiom_stays (Domain r c) h = both_stay r c (stays_below c) h
  axiom_stays (Range r c) h = both_stay r c (stays_below c) h

  pub axioms_stay : (axioms : List Axiom) → list_all (has_numbers_below n m) axioms ≡ true → list_all (has_numbers_below n' m') axioms ≡ true
  axioms_stay axioms h =
      all_weaker (has_numbers_below n m) (has_numbers_below n' m') axioms
      (every (λ (a : Axiom). has_numbers_below n m a ≡ true → has_numbers_below n' m' a ≡ true) axiom_stays axioms) h

  pub operands_stay : (form : Form) (heads : List ℕ) (parts : List Expr) → HaveNumbersBelow n m form heads parts → HaveNumbersBelow n' m' form heads parts
  operands_stay form heads parts h =
      let Stay : Bool → Type 0 = λ t. list_all (λ k. nat_lt k (cond t n m)) heads ≡ true → list_all (λ k. nat_lt k (cond t n' m')) heads ≡ true in
      let heads_stay = elim (has_class_head form) as Stay [ true ↦ numbers_stay n n' classes_more heads | false ↦ numbers_stay m m' roles_more heads ] in
      (heads_stay h.0, expressions_stay parts h.1)

-- ---- what operands make

-- its numbers are in range
abbrev pub IsMadeBelow : ℕ → ℕ → Option Made → Type 0
IsMadeBelow n m None = Unit {0}
IsMadeBelow n m (Some (Made.Axiom a)) = has_numbers_below n m a ≡ true
IsMadeBelow n m (Some (Made.Expr e)) = is_in_range n m e ≡ true

module _ (n m : ℕ) where
  two_below : {X : Type 0} (p : X → Bool) (x y : X) → list_all p (x ∷ y ∷ []) ≡ true → (p x && p y) ≡ true
  two_below p x y h = let both = and_parts (p x) (p y && true) h in and_from (p x) (p y) both.0 (and_parts (p y) true both.1).0

  one_below : {X : Type 0} (p : X → Bool) (x : X) → list_all p (x ∷ []) ≡ true → p x ≡ true
  one_below p x h = (and_parts (p x) true h).0

  axiom_below : (form : AxiomForm) (heads : List ℕ) (parts : List Expr) → HaveNumbersBelow n m (Form.Axiom form) heads parts
      → IsMadeBelow n m (option_map Made.Axiom (axiom_of form heads parts))
  axiom_below SubClassOf [] (c ∷ d ∷ []) h = two_below (is_in_range n m) c d h.1
  axiom_below EquivalentClasses [] (c ∷ d ∷ more) h = h.1
  axiom_below DisjointClasses [] (c ∷ d ∷ more) h = h.1
  axiom_below AxiomForm.DisjointUnion (a ∷ []) (c ∷ d ∷ more) h =
      and_from (nat_lt a n) (list_all (is_in_range n m) (c ∷ d ∷ more)) (one_below (λ k. nat_lt k n) a h.0) h.1
  axiom_below SubObjectPropertyOf (r ∷ s ∷ []) [] h = two_below (λ k. nat_lt k m) r s h.0
  axiom_below EquivalentObjectProperties (r ∷ s ∷ more) [] h = h.0
  axiom_below ObjectPropertyDomain (r ∷ []) (c ∷ []) h =
      and_from (nat_lt r m) (is_in_range n m c) (one_below (λ k. nat_lt k m) r h.0) (one_below (is_in_range n m) c h.1)
  axiom_below ObjectPropertyRange (r ∷ []) (c ∷ []) h =
      and_from (nat_lt r m) (is_in_range n m c) (one_below (λ k. nat_lt k m) r h.0) (one_below (is_in_range n m) c h.1)
  axiom_below form heads parts h = tt

  expression_below : (form : ExprForm) (heads : List ℕ) (parts : List Expr) → HaveNumbersBelow n m (Form.Expr form) heads parts
      → IsMadeBelow n m (option_map Made.Expr (expression_of form heads parts))
  expression_below ObjectIntersectionOf [] (c ∷ more) h = below-Meet n m (c ∷ more) ∙ h.1
  expression_below ObjectUnionOf [] (c ∷ more) h = below-Join n m (c ∷ more) ∙ h.1
  expression_below ObjectComplementOf [] (c ∷ []) h = below-Minus n m c ∙ one_below (is_in_range n m) c h.1
  expression_below ObjectSomeValuesFrom (r ∷ []) (c ∷ []) h =
      below-SomeOf n m r c ∙ and_from (nat_lt r m) (is_in_range n m c) (one_below (λ k. nat_lt k m) r h.0) (one_below (is_in_range n m) c h.1)
  expression_below ObjectAllValuesFrom (r ∷ []) (c ∷ []) h =
      below-AllOf n m r c ∙ and_from (nat_lt r m) (is_in_range n m c) (one_below (λ k. nat_lt k m) r h.0) (one_below (is_in_range n m) c h.1)
  expression_below form heads parts h = tt

  form_below : (form : Form) (heads : List ℕ) (parts : List Expr) → HaveNumbersBelow n m form heads parts → IsMadeBelow n m (made_of form heads parts)
  form_below (Form.Axiom form) heads parts h = axiom_below form heads parts h
  form_below (Form.Expr form) heads parts h = expression_below form heads parts h

  -- what operands in range make is in range
  pub made_below : (form : Form) (heads : List ℕ) (parts : List Expr) (o : Option Made) → made_of form heads parts ≡ o
      → HaveNumbersBelow n m form heads parts → IsMadeBelow n m o
  made_below form heads parts o makes h = subst (IsMadeBelow n m) makes (form_below form heads parts h)
