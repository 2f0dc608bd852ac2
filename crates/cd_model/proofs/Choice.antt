-- The chosen elements of one context: each clause has an element that is satisfied, and each chosen one is the greatest, and the only
-- satisfied one, of some clause.
use Rattle.std.proofs.Common.{◌≡◌, ◌⊎◌, true, false, List, [], ◌∷◌, refl, sym, ◌∙◌, ap, subst, inl, inr}
use Rattle.std.proofs.lemmas.Bool.{cond_both, cases_Bool, both_ways, true≢false, false≢true, or_cases, or_parts, or_left, or_right}
use Rattle.cd_base.specs.Lists.{OneOf}
use Rattle.cd_base.specs.declared.normal.Normal.{Normal}
use Rattle.cd_clause.specs.declared.elem.Elem.{Elem}
use Rattle.cd_clause.specs.Covering.{is_as_strong}
use Rattle.cd_clause.specs.Dictionary.{is_at_most}
use Rattle.cd_clause.specs.Elements.{rank, Eligible, rest}
use Rattle.cd_clause.specs.Derivations.{Redundant}
use Rattle.cd_clause.proofs.Dictionary.{at_most_other}
use Rattle.cd_clause.proofs.Elements.{rest_member}
use Rattle.cd_clause.proofs.Strengths.{strong_refl, strong_trans}
use Rattle.cd_model.specs.Canonical.{greatest, insert, sort, is_satisfied, has_satisfied, choose, chosen, has_empty}
use Rattle.cd_model.proofs.Order.{Le, le_antisym, le_trans, strong_le, greatest_member, greatest_top, greatest_eligible}

-- one of these is at least as strong as the element
abbrev pub Satisfied : List Elem → Elem → Type 0
Satisfied gs e = (g : Elem) × OneOf g gs × (is_as_strong g e ≡ true)

satisfied-true : (gs : List Elem) (e : Elem) → is_satisfied gs e ≡ true → Satisfied gs e
satisfied-true [] e h = absurd (false≢true h)
satisfied-true (g ∷ gs) e h = elim (or_cases (is_as_strong g e) (is_satisfied gs e) h) [
  | inl p ↦ (g, inl refl, p)
  | inr q ↦ (let r = satisfied-true gs e q in (r.0, inr r.1, r.2))
]

satisfied-from : (gs : List Elem) (e : Elem) → Satisfied gs e → is_satisfied gs e ≡ true
satisfied-from [] e s = absurd s.1
satisfied-from (g ∷ gs) e s = elim s.1 [
  | inl q ↦ or_left (is_as_strong g e) (is_satisfied gs e) (subst (λ w. is_as_strong w e ≡ true) q s.2)
  | inr m ↦ or_right (is_as_strong g e) (is_satisfied gs e) (satisfied-from gs e (s.0, m, s.2))
]

has_satisfied-true : (acc es : List Elem) → has_satisfied acc es ≡ true → (e : Elem) × OneOf e es × Satisfied acc e
has_satisfied-true acc [] h = absurd (false≢true h)
has_satisfied-true acc (e ∷ es) h = elim (or_cases (is_satisfied acc e) (has_satisfied acc es) h) [
  | inl p ↦ (e, inl refl, satisfied-true acc e p)
  | inr q ↦ (let r = has_satisfied-true acc es q in (r.0, inr r.1, r.2))
]

has_satisfied-false : (acc es : List Elem) → has_satisfied acc es ≡ false → (e : Elem) → OneOf e es → Satisfied acc e → ⊥
has_satisfied-false acc [] h e m k = m
has_satisfied-false acc (f ∷ es) h e (inl q) k = both_ways (is_satisfied acc f) (or_parts (is_satisfied acc f) (has_satisfied acc es) h).0 (satisfied-from acc f (subst (Satisfied acc) q k))
has_satisfied-false acc (f ∷ es) h e (inr m) k = has_satisfied-false acc es (or_parts (is_satisfied acc f) (has_satisfied acc es) h).1 e m k

module _ (n : Normal) where
  abbrev Sorted : List (List Elem) → Type 0
  Sorted [] = Unit {0}
  Sorted (c ∷ cs) = ((d : List Elem) → OneOf d cs → Le n (greatest n c) (greatest n d)) × Sorted cs

  insert_member : (c d : List Elem) (ds : List (List Elem)) → OneOf c (insert n d ds) → (c ≡ d) ⊎ OneOf c ds
  insert_member c d [] m = m
  insert_member c d (x ∷ ds) m =
      cond_both (is_at_most (rank n (greatest n d)) (rank n (greatest n x))) (d ∷ x ∷ ds) (x ∷ insert n d ds) (λ l. OneOf c l → (c ≡ d) ⊎ OneOf c (x ∷ ds))
      (λ t k. k)
      (λ t k. elim k [ inl q ↦ inr (inl q) | inr j ↦ elim (insert_member c d ds j) [ inl q ↦ inl q | inr w ↦ inr (inr w) ] ])
      m

  member_insert : (c d : List Elem) (ds : List (List Elem)) → (c ≡ d) ⊎ OneOf c ds → OneOf c (insert n d ds)
  member_insert c d [] m = m
  member_insert c d (x ∷ ds) m =
      cond_both (is_at_most (rank n (greatest n d)) (rank n (greatest n x))) (d ∷ x ∷ ds) (x ∷ insert n d ds) (λ l. OneOf c l)
      (λ t. m)
      (λ t. elim m [ inl q ↦ inr (member_insert c d ds (inl q)) | inr k ↦ elim k [ inl q ↦ inl q | inr w ↦ inr (member_insert c d ds (inr w)) ] ])

  sorted_insert : (c : List Elem) (ds : List (List Elem)) → Sorted ds → Sorted (insert n c ds)
  sorted_insert c [] s = (λ d m. absurd m, tt)
  sorted_insert c (x ∷ ds) s =
      cond_both (is_at_most (rank n (greatest n c)) (rank n (greatest n x))) (c ∷ x ∷ ds) (x ∷ insert n c ds) Sorted
      (λ t. (
        λ d m. elim m [
          | inl q ↦ subst (λ w. Le n (greatest n c) (greatest n w)) (sym q) t
          | inr k ↦ le_trans n (greatest n c) (greatest n x) (greatest n d) t (s.0 d k)
        ],
        s,
      ))
      (λ t. (
        λ d m. elim (insert_member d c ds m) [
          | inl q ↦ subst (λ w. Le n (greatest n x) (greatest n w)) (sym q) (at_most_other (rank n (greatest n c)) (rank n (greatest n x)) t)
          | inr k ↦ s.0 d k
        ],
        sorted_insert c ds s.1,
      ))

  sort_member : (c : List Elem) (ds : List (List Elem)) → OneOf c (sort n ds) → OneOf c ds
  sort_member c [] m = m
  sort_member c (d ∷ ds) m = elim (insert_member c d (sort n ds) m) [ inl q ↦ inl q | inr k ↦ inr (sort_member c ds k) ]

  member_sort : (c : List Elem) (ds : List (List Elem)) → OneOf c ds → OneOf c (sort n ds)
  member_sort c [] m = m
  member_sort c (d ∷ ds) (inl q) = member_insert c d (sort n ds) (inl q)
  member_sort c (d ∷ ds) (inr m) = member_insert c d (sort n ds) (inr (member_sort c ds m))

  sorted_sort : (ds : List (List Elem)) → Sorted (sort n ds)
  sorted_sort [] = tt
  sorted_sort (d ∷ ds) = sorted_insert d (sort n ds) (sorted_sort ds)

  choose_keeps : (acc : List Elem) (cs : List (List Elem)) (e : Elem) → OneOf e acc → OneOf e (choose n acc cs)
  choose_keeps acc [] e m = m
  choose_keeps acc (c ∷ cs) e m =
      cond_both (has_satisfied acc c) (choose n acc cs) (choose n (greatest n c ∷ acc) cs) (OneOf e)
      (λ t. choose_keeps acc cs e m)
      (λ t. choose_keeps (greatest n c ∷ acc) cs e (inr m))

  choose_from : (acc : List Elem) (cs : List (List Elem)) (e : Elem) → OneOf e (choose n acc cs) → OneOf e acc ⊎ ((c : List Elem) × OneOf c cs × (e ≡ greatest n c))
  choose_from acc [] e m = inl m
  choose_from acc (c ∷ cs) e m =
      cond_both (has_satisfied acc c) (choose n acc cs) (choose n (greatest n c ∷ acc) cs) (λ l. OneOf e l → OneOf e acc ⊎ ((d : List Elem) × OneOf d (c ∷ cs) × (e ≡ greatest n d)))
      (λ t k. elim (choose_from acc cs e k) [ inl a ↦ inl a | inr w ↦ inr (w.0, inr w.1, w.2) ])
      (λ t k. elim (choose_from (greatest n c ∷ acc) cs e k) [
        | inl a ↦ elim a [ inl q ↦ inr (c, inl refl, q) | inr b ↦ inl b ]
        | inr w ↦ inr (w.0, inr w.1, w.2)
      ])
      m

  -- each clause that is not empty has a satisfied element
  choose_hits : (acc : List Elem) (cs : List (List Elem)) (c : List Elem) → OneOf c cs → (c ≡ [] → ⊥) → (e : Elem) × OneOf e c × Satisfied (choose n acc cs) e
  choose_hits acc [] c m h = absurd m
  choose_hits acc (d ∷ cs) c (inr m) h =
      cond_both (has_satisfied acc d) (choose n acc cs) (choose n (greatest n d ∷ acc) cs) (λ l. (e : Elem) × OneOf e c × Satisfied l e)
      (λ t. choose_hits acc cs c m h)
      (λ t. choose_hits (greatest n d ∷ acc) cs c m h)
  choose_hits acc (d ∷ cs) c (inl q) h =
      cond_both (has_satisfied acc d) (choose n acc cs) (choose n (greatest n d ∷ acc) cs) (λ l. (e : Elem) × OneOf e c × Satisfied l e)
      (λ t. let r = has_satisfied-true acc d t in (r.0, subst (OneOf r.0) (sym q) r.1, (r.2.0, choose_keeps acc cs r.2.0 r.2.1, r.2.2)))
      (λ t. (
        greatest n c,
        greatest_member n c h,
        (greatest n c, choose_keeps (greatest n d ∷ acc) cs (greatest n c) (inl (ap (greatest n) q)), strong_refl (greatest n c)),
      ))

  -- where a clause's greatest element is chosen, and one that comes to be chosen is at least as strong as an element of the clause, both are
  -- the greatest
  top_alone : (c : List Elem) (cs : List (List Elem)) (acc : List Elem) → ((d : List Elem) → OneOf d cs → Le n (greatest n c) (greatest n d)) → has_satisfied acc c ≡ false → (f g : Elem) → OneOf f c
      → OneOf g (choose n (greatest n c ∷ acc) cs) → is_as_strong g f ≡ true → (f ≡ greatest n c) × (g ≡ greatest n c)
  top_alone c cs acc s t f g fc gl w =
      let top : Elem = greatest n c in
      let gf : Le n g f = strong_le n g f w in
      let ft : Le n f top = greatest_top n c f fc in
      elim (choose_from (greatest n c ∷ acc) cs g gl) [
        | inl a ↦ elim a [
          | inl q ↦ (le_antisym n f top ft (subst (λ z. Le n z f) q gf), q)
          | inr b ↦ absurd (has_satisfied-false acc c t f fc (g, b, w))
        ]
        | inr d ↦ (
            let tg : Le n top g = subst (λ z. Le n top z) (sym d.2) (s d.0 d.1) in (
              le_antisym n f top ft (le_trans n top g f tg gf),
              le_antisym n g top (le_trans n g f top gf ft) tg,
            ))
      ]

  -- an element that comes to be chosen is the greatest of some clause of which nothing else is satisfied, and nothing else that is chosen is
  -- at least as strong
  choose_made : (acc : List Elem) (cs : List (List Elem)) → Sorted cs → (e : Elem) → OneOf e (choose n acc cs)
      → OneOf e acc ⊎ ((c : List Elem) × OneOf c cs × (e ≡ greatest n c)
      × ((f g : Elem) → OneOf f c → OneOf g (choose n acc cs) → is_as_strong g f ≡ true → (f ≡ e) × (g ≡ e)))
  choose_made acc [] s e m = inl m
  choose_made acc (c ∷ cs) s e m =
      cond_both (has_satisfied acc c) (choose n acc cs) (choose n (greatest n c ∷ acc) cs)
      (λ l. OneOf e l → OneOf e acc ⊎ ((d : List Elem) × OneOf d (c ∷ cs) × (e ≡ greatest n d) × ((f g : Elem) → OneOf f d → OneOf g l → is_as_strong g f ≡ true → (f ≡ e) × (g ≡ e))))
      (λ t k. elim (choose_made acc cs s.1 e k) [ inl a ↦ inl a | inr w ↦ inr (w.0, inr w.1, w.2, w.3) ])
      (λ t k. elim (choose_made (greatest n c ∷ acc) cs s.1 e k) [
        | inl a ↦ elim a [
          | inl q ↦ inr (
            c,
            inl refl,
            q,
            λ f g fc gl w. (let r = top_alone c cs acc s.0 t f g fc gl w in (r.0 ∙ sym q, r.1 ∙ sym q)),
          )
          | inr b ↦ inl b
        ]
        | inr w ↦ inr (w.0, inr w.1, w.2, w.3)
      ])
      m

pub has_empty-false : (live : List (List Elem)) → has_empty live ≡ false → (c : List Elem) → OneOf c live → c ≡ [] → ⊥
has_empty-false [] h c m q = m
has_empty-false ([] ∷ cs) h c m q = true≢false h
has_empty-false ((e ∷ es) ∷ cs) h c (inl p) q = let z : e ∷ es ≡ [] = sym p ∙ q in cc
has_empty-false ((e ∷ es) ∷ cs) h c (inr m) q = has_empty-false cs h c m q

pub has_empty-true : (live : List (List Elem)) → has_empty live ≡ true → OneOf [] live
has_empty-true [] h = absurd (false≢true h)
has_empty-true ([] ∷ cs) h = inl refl
has_empty-true ((e ∷ es) ∷ cs) h = inr (has_empty-true cs h)

pub empty_from_none : (live : List (List Elem)) → (OneOf [] live → ⊥) → has_empty live ≡ false
empty_from_none live h = elim (cases_Bool (has_empty live)) [ inl t ↦ absurd (h (has_empty-true live t)) | inr f ↦ f ]

-- a clause that made the choice of an element: nothing else of it is satisfied, and nothing else that is chosen is at least as strong
pub record Made (n : Normal) (es : List Elem) (live : List (List Elem)) (e : Elem) : Type 0 where
  pub clause : List Elem
  pub isin : OneOf clause live
  pub eligible : Eligible n e clause
  pub rest_not : (f : Elem) → OneOf f (rest e clause) → Satisfied es f → ⊥
  pub strongest : (g : Elem) → OneOf g es → is_as_strong g e ≡ true → g ≡ e

pub made : (n : Normal) (live : List (List Elem)) → has_empty live ≡ false → (e : Elem) → OneOf e (chosen n live) → Made n (chosen n live) live e
unfolding chosen
made n live h e m = elim (choose_made n [] (sort n live) (sorted_sort n live) e m) [
  | inl a ↦ absurd a
  | inr w ↦ (
      let top = greatest_member n w.0 (has_empty-false live h w.0 (sort_member n w.0 live w.1)) in
      record {
        clause = w.0;
        isin = sort_member n w.0 live w.1;
        eligible = subst (λ z. Eligible n z w.0) (sym w.2) (greatest_eligible n w.0 (has_empty-false live h w.0 (sort_member n w.0 live w.1)));
        rest_not = λ f r k. let q = rest_member e f w.0 r in q.1 (sym (w.3 f k.0 q.0 k.1 k.2).0);
        strongest = λ g k t. (w.3 e g (subst (λ z. OneOf z w.0) (sym w.2) top) k t).1;
      })
]

pub hits : (n : Normal) (live : List (List Elem)) → has_empty live ≡ false → (c : List Elem) → OneOf c live → (e : Elem) × OneOf e c × Satisfied (chosen n live) e
unfolding chosen
hits n live h c m = choose_hits n [] (sort n live) c (member_sort n c live m) (has_empty-false live h c m)

pub hits_redundant : (n : Normal) (live : List (List Elem)) → has_empty live ≡ false → (d : List Elem) → Redundant live d → (e : Elem) × OneOf e d × Satisfied (chosen n live) e
hits_redundant n live h d r =
    let e = hits n live h r.0 r.1 in
    let f = r.2 e.0 e.1 in
    (f.0, f.1, (e.2.0, e.2.1, strong_trans e.2.0 e.0 f.0 e.2.2 f.2))
