-- Exact answers: what is derived is true, and the canonical interpretation is against the rest.
use Rattle.std.proofs.Common.{◌≡◌, ℕ, ◌<◌, ◌⊎◌, Bool, List, [], ◌∷◌, refl, sym, subst, inl, inr, arith}
use Rattle.std.specs.List.{list_any}
use Rattle.std.proofs.lemmas.Bool.{both_ways, cases_Bool}
use Rattle.cd_base.specs.Lists.{OneOf}
use Rattle.cd_base.specs.Keys.{plain, negated}
use Rattle.cd_base.specs.declared.normal.Normal.{Normal}
use Rattle.cd_base.proofs.Keys.{key_with_cases, key_with_new, key_with_old}
use Rattle.cd_base.proofs.Members.{any_member, any_by_member}
use Rattle.cd_meaning.specs.declared.interpretation.Interpretation.{Interpretation}
use Rattle.cd_meaning.specs.NormalAxioms.{in_atom, IsNormalModel}
use Rattle.cd_clause.specs.declared.elem.Elem.{Elem}
use Rattle.cd_clause.specs.Derivations.{Derived, start_key}
use Rattle.cd_model.specs.Meaning.{IsIn, Meets, TrueElem}
use Rattle.cd_model.specs.Canonical.{IsClosure, RolesInRange, IsOpen, StandsFor, has_empty}
use Rattle.cd_model.specs.Exactness.{AllInSome, Exact, IsTest, Exactness}
use Rattle.cd_model.specs.Saturated.{Saturated}
use Rattle.cd_model.proofs.Choice.{has_empty-true, has_empty-false}
use Rattle.cd_model.proofs.Complete.{completeness}
use Rattle.cd_model.proofs.Sound.{sound}

-- the literals of a key that may be started

start_plain : (a : ℕ) (others : List ℕ) → OneOf (plain a) (start_key a others)
start_plain a [] = inl refl
start_plain a (b ∷ bs) = key_with_old (negated b) (plain a) (start_key a bs) (start_plain a bs)

start_negated : (a b : ℕ) (others : List ℕ) → OneOf b others → OneOf (negated b) (start_key a others)
start_negated a b [] m = absurd m
start_negated a b (c ∷ cs) (inl q) = subst (λ z. OneOf (negated z) (start_key a (c ∷ cs))) (sym q) (key_with_new (negated c) (start_key a cs))
start_negated a b (c ∷ cs) (inr m) = key_with_old (negated c) (negated b) (start_key a cs) (start_negated a b cs m)

plain_start : (a b : ℕ) (others : List ℕ) → OneOf (plain b) (start_key a others) → a ≡ b
plain_start a b [] (inl e) = omega arith
plain_start a b [] (inr m) = absurd m
plain_start a b (c ∷ cs) m = elim (key_with_cases (negated c) (plain b) (start_key a cs) m) [ inl e ↦ absurd (omega arith) | inr k ↦ plain_start a b cs k ]

negated_start : (a b : ℕ) (others : List ℕ) → OneOf (negated b) (start_key a others) → OneOf b others
negated_start a b [] (inl e) = absurd (omega arith)
negated_start a b [] (inr m) = absurd m
negated_start a b (c ∷ cs) m = elim (key_with_cases (negated c) (negated b) (start_key a cs) m) [
  | inl e ↦ inl (omega arith)
  | inr k ↦ inr (negated_start a b cs k)
]

meets_start : (i : Interpretation) (a : ℕ) (others : List ℕ) (x : ℕ) → IsIn i a x → ((b : ℕ) → OneOf b others → IsIn i b x → ⊥) → Meets i x (start_key a others)
meets_start i a others x h d = record {
  plains = λ b m. subst (λ z. IsIn i z x) (plain_start a b others m) h;
  negateds = λ b m t. d b (negated_start a b others m) t;
}

empty_cases : (live : List (List Elem)) → OneOf [] live ⊎ (OneOf [] live → ⊥)
empty_cases live = elim (cases_Bool (has_empty live)) [ inl t ↦ inl (has_empty-true live t) | inr f ↦ inr (λ m. has_empty-false live f [] m refl) ]

module _ (n : Normal) (below : ℕ → ℕ → Bool) (closure : IsClosure n below) (roles : RolesInRange n) (keys : List (List ℕ)) (live : List ℕ → List (List Elem)) (sat : Saturated n keys live)
    (derived : (h : List ℕ) → OneOf h keys → (c : List Elem) → OneOf c (live h) → Derived n h c) (a : ℕ) (others : List ℕ) (here : OneOf (start_key a others) keys) where
  abbrev key : List ℕ
  key = start_key a others

  -- an element against what the context leaves open
  record Counter : Type 0 where
    i : Interpretation
    holds : IsNormalModel n i
    x : ℕ
    stands : StandsFor n i key (live key) x

  counter : (OneOf [] (live key) → ⊥) → Counter
  counter o =
      let op : IsOpen keys live key = record { here = here; open_still = o } in
      let w = completeness n below closure roles keys live sat key op in
      let e = w.2.element key op in
      record { i = w.0; holds = w.2.holds; x = e.0; stands = e.1 }

  -- what is in the atom and in none of the others is nowhere, where the context has the empty clause
  none_left : OneOf [] (live key) → (i : Interpretation) → IsNormalModel n i → (x : ℕ) → x < i.size → IsIn i a x → ((b : ℕ) → OneOf b others → IsIn i b x → ⊥) → ⊥
  none_left m i model x l t d = (sound n key [] (derived key here [] m) i model x l (meets_start i a others x t d)).1

  empty_some : OneOf [] (live key) → AllInSome n a others
  empty_some m i model x l t = elim (cases_Bool (list_any (λ b. in_atom i b x) others)) [
    | inl e ↦ any_member (λ b. in_atom i b x) others e
    | inr f ↦ absurd (none_left m i model x l t (λ b k j. both_ways (list_any (λ b. in_atom i b x) others) f (any_by_member (λ b. in_atom i b x) others b k j)))
  ]

  pub test : IsTest n a others (live key)
  test = record {
    empty_some = empty_some;
    some_empty = λ every. elim (empty_cases (live key)) [
      | inl m ↦ m
      | inr o ↦ (let c = counter o in
          let b = every c.i c.holds c.x c.stands.below (c.stands.meets.plains a (start_plain a others)) in
          absurd (c.stands.meets.negateds b.0 (start_negated a b.0 others b.1) b.2))
    ];
    one_all = λ b e m i model x l t.
        (let s = empty_some m i model x l t in
        elim (subst (OneOf s.0) e s.1) [ inl q ↦ subst (λ z. IsIn i z x) q s.2 | inr z ↦ absurd z ]);
    open_none = λ o b m every.
        (let c = counter o in
        c.stands.meets.negateds b (start_negated a b others m) (every c.i c.holds c.x c.stands.below (c.stands.meets.plains a (start_plain a others))));
  }

  pub exact_alone : others ≡ [] → Exact n a (live key)
  exact_alone e = record {
    empty_none = λ m i model x l t. none_left m i model x l t (λ b k j. subst (OneOf b) e k);
    none_empty = λ none. test.some_empty (λ i model x l t. absurd (none i model x l t));
    single_all = λ b s i model x l t.
        (let w = sound n key s.0 (derived key here s.0 s.1) i model x l (meets_start i a others x t (λ c k j. subst (OneOf c) e k)) in
        elim (s.2.0 w.0 w.1) [ inl q ↦ subst (TrueElem i x) q w.2 | inr z ↦ absurd z ]);
    all_chosen = λ o b every.
        (let c = counter o in
        c.stands.chosen b (every c.i c.holds c.x c.stands.below (c.stands.meets.plains a (start_plain a others))));
  }

pub exact : Exactness
exact n below closure roles keys live sat derived = record {
  exact = λ a here. exact_alone n below closure roles keys live sat derived a [] here refl;
  test = λ a others here. test n below closure roles keys live sat derived a others here;
}
