-- What the rules derive where each 2 has an edge to a 4, and whoever has an edge to a 4 is a 5; with the axiom `4 -> 3 4` too, which says nothing.
use Rattle.std.proofs.Common.{◌≡◌, ℕ, true, List, [], ◌∷◌, get_or, refl, sym, subst, inl, inr, arith}
use Rattle.cd_base.specs.Keys.{plain, negated}
use Rattle.cd_base.specs.Lists.{OneOf}
use Rattle.cd_base.specs.Normal.{same}
use Rattle.cd_base.specs.declared.normal.Normal.{Normal}
use Rattle.cd_clause.specs.declared.elem.Elem.{Elem}
use Rattle.cd_clause.specs.declared.elem.Elem.TheVariants.{Plain, Exist}
use Rattle.cd_clause.specs.Derivations.{Reachable, Derived, HasCase, HasDerived, HasSure}
use Rattle.cd_clause.specs.Dictionary.{is_at_most}
use Rattle.cd_clause.specs.Elements.{Eligible, rank}
use Rattle.cd_clause.specs.Rules.{by_init, by_neg, by_con, by_ex, by_back}
use Rattle.cd_clause.proofs.Derive.{derived_closed}
use Rattle.cd_clause.proofs.Dictionary.{at_most_refl}
use Rattle.cd_context.specs.declared.facts.Fact.TheVariants.{Link, Back, Sure, Dead}
use Rattle.cd_context.specs.Justified.{Justified}

module _ (n : Normal) where
  -- an element alone in a clause is eligible
  alone : (e : Elem) → Eligible n e (e ∷ [])
  alone e = record {
    isin = inl refl;
    top = λ f m. elim m [ inl q ↦ subst (λ (x : Elem). is_at_most (rank n x) (rank n e) ≡ true) (sym q) (at_most_refl (rank n e)) | inr k ↦ absurd k ];
  }

  -- an existential beside an atom is eligible
  above : (a r : ℕ) (k : List ℕ) → Eligible n (Exist r k) (Plain a ∷ Exist r k ∷ [])
  above a r k = record {
    isin = inr (inl refl);
    top = λ f m. elim m [
      | inl q ↦ subst (λ (x : Elem). is_at_most (rank n x) (1 ∷ r ∷ k) ≡ true) (sym q) refl
      | inr l ↦ elim l [ inl q ↦ subst (λ (x : Elem). is_at_most (rank n x) (1 ∷ r ∷ k) ≡ true) (sym q) (at_most_refl (1 ∷ r ∷ k)) | inr z ↦ absurd z ]
    ];
  }

  in_key : (a : ℕ) (key : List ℕ) → OneOf (plain a) key → Derived n key (Plain a ∷ [])
  in_key a key m = derived_closed n key (Plain a ∷ []) (by_init a m (λ x u. u, λ x u. u))

  module _ (edge : OneOf (record { atom = 2; role = 0; other = 4 }) n.n2) where
    edge_to_four : Derived n (plain 2 ∷ []) (Exist 0 (plain 4 ∷ []) ∷ [])
    edge_to_four = derived_closed n (plain 2 ∷ []) (Exist 0 (plain 4 ∷ []) ∷ [])
        (by_ex (record { atom = 2; role = 0; other = 4 }) (Plain 2 ∷ []) edge (in_key 2 (plain 2 ∷ []) (inl refl)) (alone (Plain 2)) (λ x u. u, λ x u. u))

    edge_of_two : (key k : List ℕ) → key ≡ plain 2 ∷ [] → k ≡ plain 4 ∷ [] → HasDerived n key (Exist 0 k)
    edge_of_two key k p q =
        subst (λ (x : List ℕ). HasDerived n x (Exist 0 k)) (sym p) (subst (λ (y : List ℕ). HasDerived n (plain 2 ∷ []) (Exist 0 y)) (sym q)
        (Exist 0 (plain 4 ∷ []) ∷ [], edge_to_four, alone (Exist 0 (plain 4 ∷ []))))

    pub link_justified : (key h : List ℕ) → key ≡ plain 4 ∷ [] → h ≡ plain 2 ∷ [] → Reachable n h → Justified n key (Link h 0)
    link_justified key h p q reachable = (reachable, edge_of_two h key q p)

    pub sure_justified : (key k : List ℕ) → key ≡ plain 2 ∷ [] → k ≡ plain 4 ∷ [] → Reachable n key → Justified n key (Sure 0 k 4)
    sure_justified key k p q reachable = (
      reachable,
      edge_of_two key k p q,
      subst (λ (y : List ℕ). HasSure n y 4) (sym q) (Plain 4 ∷ [], in_key 4 (plain 4 ∷ []) (inl refl), (λ x u. u, λ x u. u)),
    )

    module _ (ranks : n.ranks ≡ []) (idle : OneOf (record { left = 4 ∷ []; right = 3 ∷ 4 ∷ [] }) n.n1) where
      same_atom : (a b : ℕ) → Plain a ≡ Plain b → a ≡ b
      same_atom a b e = cc

      three_not_four : Plain 3 ≡ Plain 4 → ⊥
      three_not_four e = let q = same_atom 3 4 e in omega (arith, q)

      abbrev both : List Elem
      both = Plain 3 ∷ Plain 4 ∷ []

      -- 4 is the greatest of a clause with 3 in its own context
      case_of_four : HasCase n (plain 4 ∷ []) 4
      case_of_four = (
        both,
        derived_closed n (plain 4 ∷ []) both
            (by_con (record { left = 4 ∷ []; right = 3 ∷ 4 ∷ [] }) [] idle
            (Plain 4 ∷ [], in_key 4 (plain 4 ∷ []) (inl refl), alone (Plain 4), record { tail = []; rests = refl; is = refl })
            (λ x u. u, λ x u. u)),
        (
          record {
            isin = inr (inl refl);
            top = λ f m. elim m [
              | inl q ↦ subst (λ (x : Elem). is_at_most (rank n x) (rank n (Plain 4)) ≡ true) (sym q)
                  (subst (λ (z : List ℕ). is_at_most (0 ∷ get_or z 3 0 ∷ 3 ∷ []) (0 ∷ get_or z 4 0 ∷ 4 ∷ []) ≡ true) (sym ranks) refl)
              | inr l ↦ elim l [ inl q ↦ subst (λ (x : Elem). is_at_most (rank n x) (rank n (Plain 4)) ≡ true) (sym q) (at_most_refl (rank n (Plain 4))) | inr z ↦ absurd z ]
            ];
          },
          λ s. elim (s.0 (Plain 3) (inl refl)) [ inl q ↦ three_not_four q | inr z ↦ z ],
        ),
      )

      pub back_justified : (key k : List ℕ) → key ≡ plain 2 ∷ [] → k ≡ plain 4 ∷ [] → Reachable n key → Justified n key (Back 0 k 4)
      back_justified key k p q reachable = (reachable, edge_of_two key k p q, subst (λ (y : List ℕ). HasCase n y 4) (sym q) case_of_four)

      module _ (back : OneOf (record { atom = 4; role = 0; other = 5 }) n.n3) where
        five_or_edge : Derived n (plain 2 ∷ []) (Plain 5 ∷ Exist 0 (plain 4 ∷ negated 4 ∷ []) ∷ [])
        five_or_edge = derived_closed n (plain 2 ∷ []) (Plain 5 ∷ Exist 0 (plain 4 ∷ negated 4 ∷ []) ∷ [])
            (by_back (record { atom = 4; role = 0; other = 5 }) (Exist 0 (plain 4 ∷ []) ∷ []) 0 (plain 4 ∷ []) back edge_to_four (alone (Exist 0 (plain 4 ∷ []))) case_of_four same
            (λ x u. u, λ x u. u))

        empty : Derived n (plain 4 ∷ negated 4 ∷ []) []
        empty = derived_closed n (plain 4 ∷ negated 4 ∷ []) []
            (by_neg 4 (Plain 4 ∷ []) (in_key 4 (plain 4 ∷ negated 4 ∷ []) (inl refl)) (alone (Plain 4)) (inr (inl refl)) (λ x u. u, λ x u. u))

        pub dead_justified : (key k : List ℕ) → key ≡ plain 2 ∷ [] → k ≡ plain 4 ∷ negated 4 ∷ [] → Reachable n key → Justified n key (Dead 0 k)
        dead_justified key k p q reachable = (
          reachable,
          subst (λ (x : List ℕ). HasDerived n x (Exist 0 k)) (sym p) (subst (λ (y : List ℕ). HasDerived n (plain 2 ∷ []) (Exist 0 y)) (sym q)
              (Plain 5 ∷ Exist 0 (plain 4 ∷ negated 4 ∷ []) ∷ [], five_or_edge, above 5 0 (plain 4 ∷ negated 4 ∷ []))),
          subst (λ (y : List ℕ). Derived n y []) (sym q) empty,
        )
