-- The clauses of some numbers.
use Rattle.std.proofs.Common.{◌≡◌, ℕ, ◌+◌, ◌<◌, ◌⊎◌, inl, inr, List, [], ◌∷◌, ◌++◌, length, get_or, reverse, refl, ap, sym, ◌∙◌, subst, arith}
use Rattle.std.proofs.lemmas.List.{get_or_append_left, reverse-append, length-append}
use Rattle.cd_clause.specs.declared.elem.Elem.{Elem}
use Rattle.cd_base.specs.Lists.{OneOf}
use Rattle.cd_clause.specs.Covering.{Covers}
use Rattle.cd_clause.proofs.Strengths.{covers_refl, covers_trans}
use Rattle.cd_clause.specs.Derivations.{Redundant}
use Rattle.cd_base.proofs.Members.{member_left, member_right, member_cases}
use Rattle.cd_store.specs.Sift.{Sifts}
use Rattle.cd_clause.specs.Numbers.{picked}
use Rattle.cd_store.specs.Store.{IsStore, IsNew, IsAdded, IsAscending, CoveredByNoEarlier}

pub picked_in : (clauses : List (List Elem)) (ns : List ℕ) (n : ℕ) → OneOf n ns → OneOf (get_or clauses n []) (picked clauses ns)
picked_in clauses [] n h = elim h [ ]
picked_in clauses (m ∷ ns) n (inl e) = inl (ap (λ k. get_or clauses k []) e)
picked_in clauses (m ∷ ns) n (inr h) = inr (picked_in clauses ns n h)

pub picked_from : (clauses : List (List Elem)) (ns : List ℕ) (c : List Elem) → OneOf c (picked clauses ns) → (n : ℕ) × OneOf n ns × (c ≡ get_or clauses n [])
picked_from clauses [] c h = elim h [ ]
picked_from clauses (m ∷ ns) c (inl e) = (m, inl refl, e)
picked_from clauses (m ∷ ns) c (inr h) = let r = picked_from clauses ns c h in (r.0, inr r.1, r.2)

pub get_last : (clauses : List (List Elem)) (c : List Elem) → get_or (clauses ++ c ∷ []) (length clauses) [] ≡ c
get_last [] c = refl
get_last (d ∷ clauses) c = get_last clauses c

pub member_reverse : {X : Type 0} (xs : List X) (x : X) → OneOf x (reverse xs) → OneOf x xs
member_reverse [] x h = h
member_reverse (y ∷ xs) x h =
    elim (member_cases x (reverse xs) (y ∷ []) (subst (λ q. OneOf x q) (reverse-append (y ∷ []) xs) h)) [
      | inl k ↦ inr (member_reverse xs x k)
      | inr k ↦ elim k [ inl e ↦ inl e | inr z ↦ absurd z ]
    ]

pub ascends_append : (ns : List ℕ) (n : ℕ) → IsAscending ns → ((m : ℕ) → OneOf m ns → m < n) → IsAscending (ns ++ n ∷ [])
ascends_append [] n a h = (λ m k. absurd k, tt)
ascends_append (k ∷ ns) n a h = (
  λ m i. elim (member_cases m ns (n ∷ []) i) [ inl j ↦ a.0 m j | inr j ↦ elim j [ inl e ↦ subst (λ q. k < q) (sym e) (h k (inl refl)) | inr z ↦ absurd z ] ],
  ascends_append ns n a.1 (λ m i. h m (inr i)),
)

pub store_empty : IsStore [] []
store_empty = record { in_range = λ n h. absurd h; ascends = tt; covered = λ c h. absurd h; apart = tt; minimal = λ m k h i w. absurd h }

pub redundant_after : (w : List Elem) (before after : List (List Elem)) (d : List Elem) → IsAdded w before after → Redundant before d → Redundant after d
redundant_after w before after d a r = elim (a.kept r.0 r.1) [
  | inl m ↦ (r.0, m, r.2)
  | inr s ↦ (w, a.isin, covers_trans w r.0 d s r.2)
]

module _ (clauses : List (List Elem)) (live after : List ℕ) (c : List Elem) (s : IsStore clauses live) (sifts : Sifts clauses c live after) (free : Redundant (picked clauses live) c → ⊥) where
  same : (n : ℕ) → OneOf n after → get_or (clauses ++ c ∷ []) n [] ≡ get_or clauses n []
  same n h = get_or_append_left clauses (c ∷ []) [] n (s.in_range n (sifts.only n h).0)

  isin : OneOf c (picked (clauses ++ c ∷ []) (after ++ length clauses ∷ []))
  isin = subst (λ q. OneOf q (picked (clauses ++ c ∷ []) (after ++ length clauses ∷ []))) (get_last clauses c)
      (picked_in (clauses ++ c ∷ []) (after ++ length clauses ∷ []) (length clauses) (member_right (length clauses) after (length clauses ∷ []) (inl refl)))

  from : (d : List Elem) → OneOf d (picked (clauses ++ c ∷ []) (after ++ length clauses ∷ [])) → (d ≡ c) ⊎ ((n : ℕ) × OneOf n after × (d ≡ get_or clauses n []))
  from d h =
      let r = picked_from (clauses ++ c ∷ []) (after ++ length clauses ∷ []) d h in
      elim (member_cases r.0 after (length clauses ∷ []) r.1) [
        | inl k ↦ inr (r.0, k, r.2 ∙ same r.0 k)
        | inr k ↦ elim k [ inl e ↦ inl (r.2 ∙ ap (λ n. get_or (clauses ++ c ∷ []) n []) e ∙ get_last clauses c) | inr z ↦ absurd z ]
      ]

  pub is_added : IsAdded c (picked clauses live) (picked (clauses ++ c ∷ []) (after ++ length clauses ∷ []))
  is_added = record {
    isin = isin;
    only = λ d h. elim (from d h) [ inl e ↦ inl e | inr r ↦ inr (subst (λ q. OneOf q (picked clauses live)) (sym r.2) (picked_in clauses live r.0 (sifts.only r.0 r.1).0)) ];
    kept = λ d h. let r = picked_from clauses live d h in elim (sifts.kept r.0 r.1) [
      | inl k ↦ inl (subst (λ q. OneOf q (picked (clauses ++ c ∷ []) (after ++ length clauses ∷ []))) (same r.0 k ∙ sym r.2)
          (picked_in (clauses ++ c ∷ []) (after ++ length clauses ∷ []) r.0 (member_left r.0 after (length clauses ∷ []) k)))
      | inr w ↦ inr (subst (λ q. Covers c q) (sym r.2) w)
    ];
  }

  pub weaker_die : (d : List Elem) → OneOf d (picked (clauses ++ c ∷ []) (after ++ length clauses ∷ [])) → Covers c d → d ≡ c
  weaker_die d h w = elim (from d h) [ inl e ↦ e | inr r ↦ absurd ((sifts.only r.0 r.1).1 (subst (λ q. Covers c q) r.2 w)) ]

  only_last : (n : ℕ) → OneOf n (length clauses ∷ []) → n ≡ length clauses
  only_last n h = elim h [ inl e ↦ e | inr z ↦ absurd z ]

  last_is : (n : ℕ) → OneOf n (length clauses ∷ []) → get_or (clauses ++ c ∷ []) n [] ≡ c
  last_is n h = ap (λ k. get_or (clauses ++ c ∷ []) k []) (only_last n h) ∙ get_last clauses c

  between : (m k : ℕ) → OneOf m after ⊎ OneOf m (length clauses ∷ []) → OneOf k after ⊎ OneOf k (length clauses ∷ []) → Covers (get_or (clauses ++ c ∷ []) m []) (get_or (clauses ++ c ∷ []) k []) → m ≡ k
  between m k (inl a) (inl b) w = s.minimal m k (sifts.only m a).0 (sifts.only k b).0 (subst (λ q. Covers q (get_or clauses k [])) (same m a) (subst (λ q. Covers (get_or (clauses ++ c ∷ []) m []) q) (same k b) w))
  between m k (inl a) (inr b) w =
      absurd (free (get_or clauses m [], picked_in clauses live m (sifts.only m a).0, subst (λ q. Covers q c) (same m a) (subst (λ q. Covers (get_or (clauses ++ c ∷ []) m []) q) (last_is k b) w)))
  between m k (inr a) (inl b) w = absurd ((sifts.only k b).1 (subst (λ q. Covers q (get_or clauses k [])) (last_is m a) (subst (λ q. Covers (get_or (clauses ++ c ∷ []) m []) q) (same k b) w)))
  between m k (inr a) (inr b) w = only_last m a ∙ sym (only_last k b)

  pub is_store : IsStore (clauses ++ c ∷ []) (after ++ length clauses ∷ [])
  is_store = record {
    minimal = λ m k h i w. between m k (member_cases m after (length clauses ∷ []) h) (member_cases k after (length clauses ∷ []) i) w;
    in_range = λ n h. let l : length (clauses ++ c ∷ []) ≡ length clauses + 1 = length-append clauses (c ∷ []) in
        elim (member_cases n after (length clauses ∷ []) h) [
          | inl k ↦ let b : n < length clauses = s.in_range n (sifts.only n k).0 in omega arith
          | inr k ↦ elim k [ inl e ↦ let b : n ≡ length clauses = e in omega arith | inr z ↦ absurd z ]
        ];
    ascends = ascends_append after (length clauses) (sifts.ascends s.ascends) (λ m h. s.in_range m (sifts.only m h).0);
    covered = λ d h. elim (member_cases d clauses (c ∷ []) h) [
      | inl k ↦ redundant_after c (picked clauses live) (picked (clauses ++ c ∷ []) (after ++ length clauses ∷ [])) d is_added (s.covered d k)
      | inr k ↦ elim k [ inl e ↦ (c, isin, subst (λ q. Covers c q) (sym e) (covers_refl c)) | inr z ↦ absurd z ]
    ];
    apart = subst CoveredByNoEarlier (sym (reverse-append clauses (c ∷ [])))
        (λ d h w. let r = s.covered d (member_reverse clauses d h) in free (r.0, r.1, covers_trans r.0 d c r.2 w), s.apart);
  }

module _ (clauses new_clauses : List (List Elem)) (live after new_live : List ℕ) (c : List Elem) (n : ℕ) (s : IsStore clauses live) (sifts : Sifts clauses c live after) (free : Redundant (picked clauses live) c → ⊥)
    (e : new_clauses ≡ clauses ++ c ∷ []) (f : new_live ≡ after ++ n ∷ []) (k : n ≡ length clauses) where
  lives : new_live ≡ after ++ length clauses ∷ []
  lives = f ∙ ap (λ m. after ++ m ∷ []) k

  pub store_new : IsStore new_clauses new_live
  store_new = subst (λ q. IsStore q new_live) (sym e) (subst (λ q. IsStore (clauses ++ c ∷ []) q) (sym lives) (is_store clauses live after c s sifts free))

  pub is_new : IsNew (record { clauses = clauses; live = live }) c (record { clauses = new_clauses; live = new_live }) n
  is_new = subst (λ q. IsNew (record { clauses = clauses; live = live }) c (record { clauses = q; live = new_live }) n) (sym e) (subst (λ q. IsNew (record { clauses = clauses; live = live }) c (record { clauses = clauses ++ c ∷ []; live = q }) n) (sym lives) record {
    next = k;
    stored = refl;
    added = is_added clauses live after c s sifts free;
    numbers = λ m h. elim (member_cases m after (length clauses ∷ []) h) [
      | inl i ↦ inr ((sifts.only m i).0, s.in_range m (sifts.only m i).0)
      | inr i ↦ elim i [ inl j ↦ inl (j ∙ sym k) | inr z ↦ absurd z ]
    ];
    weaker = weaker_die clauses live after c s sifts free;
    not_held = free;
  })
