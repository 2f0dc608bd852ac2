-- Taking up a stored clause, and adding the conclusions.
use Rattle.std.proofs.Common.{◌≡◌, ◌==◌, ℕ, ◌⊎◌, Bool, true, false, cond, inl, inr, List, [], ◌∷◌, get_or, refl, ap, sym, ◌∙◌, subst, arith, eq-eqb, eqb-true}
use Rattle.std.proofs.lemmas.List.{get_or_append_left}
use Rattle.std.proofs.lemmas.Bool.{cases_order, false≢true}
use Rattle.cd_base.specs.Lists.{OneOf}
use Rattle.cd_base.specs.declared.normal.Normal.{Normal}
use Rattle.cd_base.proofs.Members.{any_by_member, any_member}
use Rattle.cd_clause.specs.Covering.{Covers}
use Rattle.cd_clause.specs.Derivations.{Redundant}
use Rattle.cd_clause.specs.Numbers.{picked}
use Rattle.cd_clause.specs.Rules.{Rests, Told, Concludes, by_init, by_neg, by_con, by_ex, by_back, by_sure, by_dead, by_all}
use Rattle.cd_clause.specs.declared.elem.Elem.{Elem}
use Rattle.cd_clause.proofs.Derive.{concludes_more}
use Rattle.cd_clause.proofs.Strengths.{covers_trans, within_covers}
use Rattle.cd_index.specs.Index.{has}
use Rattle.cd_rules.specs.Among.{Among}
use Rattle.cd_rules.specs.Facts.{ToldFacts, told_from, ConcludesFrom, IsPicked}
use Rattle.cd_rules.specs.Uses.{RestsUse, Uses, FromClause}
use Rattle.cd_store.specs.Store.{IsNew, StoreState}
use Rattle.cd_store.proofs.Picks.{picked_in, picked_from, redundant_after}
use Rattle.cd_context.specs.TakeUp.{IsTakenUp, ClosedUpTo, IsTakenFrom}

-- Where each clause that is had is the clause p or an old one, a conclusion uses p or has old premises alone.
module _ (n : Normal) (key : List ℕ) (Has Live Old : List Elem → Type 0) (told : Told) (p : List Elem)
    (g : (c : List Elem) → Has c → Live c) (f : (c : List Elem) → Has c → (c ≡ p) ⊎ Old c) where
  rests_live : (left : List ℕ) (m : List Elem) → Rests n Has left m → Rests n Live left m
  rests_live [] m r = r
  rests_live (a ∷ left) m r = (r.0, g r.0 r.1, r.2, record { tail = r.3.tail; rests = rests_live left r.3.tail r.3.rests; is = r.3.is })

  rests_split : (left : List ℕ) (m : List Elem) → Rests n Has left m → ((r : Rests n Live left m) × RestsUse n Live left m r p) ⊎ Rests n Old left m
  rests_split [] m r = inr r
  rests_split (a ∷ left) m r = elim (f r.0 r.1) [
    | inl e ↦ inl ((r.0, g r.0 r.1, r.2, record { tail = r.3.tail; rests = rests_live left r.3.tail r.3.rests; is = r.3.is }), inl e)
    | inr o ↦ elim (rests_split left r.3.tail r.3.rests) [
      | inl u ↦ inl ((r.0, g r.0 r.1, r.2, record { tail = r.3.tail; rests = u.0; is = r.3.is }), inr u.1)
      | inr s ↦ inr (r.0, o, r.2, record { tail = r.3.tail; rests = s; is = r.3.is })
    ]
  ]

  -- a conclusion uses the clause, or has old premises alone
  pub split : (d : List Elem) → Concludes n key Has told d → ((q : Concludes n key Live told d) × Uses n key Live told d q p) ⊎ Concludes n key Old told d
  split d (by_init a m s) = inr (by_init a m s)
  split d (by_neg a c h e m s) = elim (f c h) [ inl q ↦ inl (by_neg a c (g c h) e m s, q) | inr o ↦ inr (by_neg a c o e m s) ]
  split d (by_con x m k r s) = elim (rests_split x.left m r) [ inl u ↦ inl (by_con x m k u.0 s, u.1) | inr w ↦ inr (by_con x m k w s) ]
  split d (by_ex t c m h e s) = elim (f c h) [ inl q ↦ inl (by_ex t c m (g c h) e s, q) | inr o ↦ inr (by_ex t c m o e s) ]
  split d (by_back t c r k m h e b u s) = elim (f c h) [ inl q ↦ inl (by_back t c r k m (g c h) e b u s, q) | inr o ↦ inr (by_back t c r k m o e b u s) ]
  split d (by_sure t c r k m h e b u s) = elim (f c h) [ inl q ↦ inl (by_sure t c r k m (g c h) e b u s, q) | inr o ↦ inr (by_sure t c r k m o e b u s) ]
  split d (by_dead c r k h e b s) = elim (f c h) [ inl q ↦ inl (by_dead c r k (g c h) e b s, q) | inr o ↦ inr (by_dead c r k o e b s) ]
  split d (by_all t c b r k m h e hb eb u s) = elim (f c h) [
    | inl q ↦ inl (by_all t c b r k m (g c h) e (g b hb) eb u s, inl q)
    | inr o ↦ elim (f b hb) [ inl q ↦ inl (by_all t c b r k m (g c h) e (g b hb) eb u s, inr q) | inr ob ↦ inr (by_all t c b r k m o e ob eb u s) ]
  ]

-- more clauses are had
pub more_from : (n : Normal) (key : List ℕ) (told : ToldFacts) (Has Has' : List Elem → Type 0) (d : List Elem) → ((c : List Elem) → Has c → Has' c)
    → ConcludesFrom n key Has told d → ConcludesFrom n key Has' told d
more_from n key told Has Has' d f q =
    concludes_more n key Has Has' (told_from told) (told_from told) d f (λ r k a m. m) (λ r k a m. m) (λ r k m. m) q

-- an appended clause of the same elements covers
pub redundant_among : (d : List Elem) (out : List (List Elem)) → Among d out → Redundant out d
redundant_among d out a = (a.0, a.1, within_covers a.0 d a.2.0)

pub number_cases : (i j : ℕ) → (i ≡ j) ⊎ (i ≡ j → ⊥)
number_cases i j = elim (cases_order i j) [ inl e ↦ inl e | inr o ↦ inr (λ e. elim o [ inl l ↦ absurd (omega arith) | inr l ↦ absurd (omega arith) ]) ]

-- the numbers that don't wait
abbrev pub not_waiting : List ℕ → List ℕ → List ℕ
not_waiting [] waiting = []
not_waiting (k ∷ live) waiting = cond (has k waiting) (not_waiting live waiting) (k ∷ not_waiting live waiting)

pub not_waiting_in : (live waiting : List ℕ) (k : ℕ) → OneOf k (not_waiting live waiting) → OneOf k live × (OneOf k waiting → ⊥)
not_waiting_in [] waiting k m = absurd m
not_waiting_in (j ∷ live) waiting k m = by (has j waiting) refl m (not_waiting_in live waiting k)
  where
    by : (b : Bool) → has j waiting ≡ b → OneOf k (cond b (not_waiting live waiting) (j ∷ not_waiting live waiting)) → (OneOf k (not_waiting live waiting) → OneOf k live × (OneOf k waiting → ⊥)) → OneOf k (j ∷ live) × (OneOf k waiting → ⊥)
    by true e m h = let r = h m in (inr r.0, r.1)
    by false e (inl q) h = (inl q, λ w. false≢true (sym e ∙ any_by_member (λ (a : ℕ). a == j) waiting j (subst (λ z. OneOf z waiting) q w) (eq-eqb j j refl)))
    by false e (inr m) h = let r = h m in (inr r.0, r.1)

in_not_waiting : (live waiting : List ℕ) (k : ℕ) → OneOf k live → (OneOf k waiting → ⊥) → OneOf k (not_waiting live waiting)
in_not_waiting [] waiting k m n = absurd m
in_not_waiting (j ∷ live) waiting k m n = by (has j waiting) refl m (in_not_waiting live waiting k)
  where
    by : (b : Bool) → has j waiting ≡ b → OneOf k (j ∷ live) → (OneOf k live → (OneOf k waiting → ⊥) → OneOf k (not_waiting live waiting)) → OneOf k (cond b (not_waiting live waiting) (j ∷ not_waiting live waiting))
    by true e (inl q) h = let w = any_member (λ (a : ℕ). a == j) waiting e in absurd (n (subst (λ z. OneOf z waiting) (eqb-true w.0 j w.2 ∙ sym q) w.1))
    by true e (inr m) h = h m n
    by false e (inl q) h = inl q
    by false e (inr m) h = inr (h m n)

-- A turn: the number m is taken from those that wait, and `out` has the conclusions that use its clause.
pub taken_live : (n : Normal) (key : List ℕ) (told : ToldFacts) (clauses : List (List Elem)) (live waiting after : List ℕ) (m : ℕ) (out : List (List Elem)) → ClosedUpTo n key told clauses live waiting []
    → IsTakenFrom m waiting after → ((d : List Elem) → FromClause n key clauses (not_waiting live waiting) m told d → Redundant out d) → ClosedUpTo n key told clauses live after out
taken_live n key told clauses live waiting after m out closed taken every d q =
    elim (split n key (IsTakenUp clauses live after) (IsPicked clauses (m ∷ not_waiting live waiting)) (IsTakenUp clauses live waiting) (told_from told) (get_or clauses m [])
    (λ c h. elim (number_cases h.0 m) [
      | inl e ↦ inl (h.3 ∙ ap (λ i. get_or clauses i []) e)
      | inr differ ↦ inr (subst (λ x. OneOf x (picked clauses (not_waiting live waiting))) (sym h.3) (picked_in clauses (not_waiting live waiting) h.0
          (in_not_waiting live waiting h.0 h.1 (λ w. elim (taken.before h.0 w) [ inl e ↦ differ e | inr a ↦ h.2 a ]))))
    ])
    (λ c h. elim (number_cases h.0 m) [
      | inl e ↦ inl (h.3 ∙ ap (λ i. get_or clauses i []) e)
      | inr differ ↦ inr (h.0, h.1, (λ w. elim (taken.before h.0 w) [ inl e ↦ differ e | inr a ↦ h.2 a ]), h.3)
    ]) d q) [
      | inl u ↦ inr (every d u)
      | inr o ↦ elim (closed d o) [ inl r ↦ inl r | inr z ↦ absurd z.1 ]
    ]

-- a number that is dead is dropped
pub taken_dead : (n : Normal) (key : List ℕ) (told : ToldFacts) (clauses : List (List Elem)) (live waiting after : List ℕ) (m : ℕ) → ClosedUpTo n key told clauses live waiting []
    → IsTakenFrom m waiting after → (OneOf m live → ⊥) → ClosedUpTo n key told clauses live after []
taken_dead n key told clauses live waiting after m closed taken gone d q =
    closed d (more_from n key told (IsTakenUp clauses live after) (IsTakenUp clauses live waiting) d
    (λ c h. (h.0, h.1, (λ w. elim (taken.before h.0 w) [ inl e ↦ gone (subst (λ i. OneOf i live) e h.1) | inr a ↦ h.2 a ]), h.3)) q)

-- a conclusion that is held already
pub out_held : (n : Normal) (key : List ℕ) (told : ToldFacts) (clauses : List (List Elem)) (live waiting : List ℕ) (o : List Elem) (out : List (List Elem)) → ClosedUpTo n key told clauses live waiting (o ∷ out)
    → Redundant (picked clauses live) o → ClosedUpTo n key told clauses live waiting out
out_held n key told clauses live waiting o out closed r d q = elim (closed d q) [
  | inl a ↦ inl a
  | inr b ↦ elim b.1 [ inl e ↦ inl (r.0, r.1, covers_trans r.0 o d r.2 (subst (λ z. Covers z d) e b.2)) | inr m ↦ inr (b.0, m, b.2) ]
]

-- a conclusion that is stored, and waits
pub out_new : (n : Normal) (key : List ℕ) (told : ToldFacts) (old new : StoreState) (waiting after : List ℕ) (o : List Elem) (k : ℕ) (out : List (List Elem))
    → ClosedUpTo n key told old.clauses old.live waiting (o ∷ out) → IsNew old o new k → ((m : ℕ) → (m ≡ k) ⊎ OneOf m waiting → OneOf m after) → ClosedUpTo n key told new.clauses new.live after out
out_new n key told old new waiting after o k out closed s waits d q =
    elim (closed d (more_from n key told (IsTakenUp new.clauses new.live after) (IsTakenUp old.clauses old.live waiting) d
    (λ c h. elim (s.numbers h.0 h.1) [
      | inl e ↦ absurd (h.2 (waits h.0 (inl e)))
      | inr r ↦ (
        h.0,
        r.0,
        (λ w. h.2 (waits h.0 (inr w))),
        h.3 ∙ ap (λ cs. get_or cs h.0 []) s.stored ∙ get_or_append_left old.clauses (o ∷ []) [] h.0 r.1,
      )
    ]) q)) [
      | inl a ↦ inl (redundant_after o (picked old.clauses old.live) (picked new.clauses new.live) d s.added a)
      | inr b ↦ elim b.1 [
        | inl e ↦ inl (o, s.added.isin, subst (λ z. Covers z d) e b.2)
        | inr m ↦ inr (b.0, m, b.2)
      ]
    ]

-- where nothing waits, each conclusion from live clauses is redundant
pub none_waits : (n : Normal) (key : List ℕ) (told : ToldFacts) (clauses : List (List Elem)) (live : List ℕ) → ClosedUpTo n key told clauses live [] []
    → (d : List Elem) → ConcludesFrom n key (λ c. OneOf c (picked clauses live)) told d → Redundant (picked clauses live) d
none_waits n key told clauses live closed d q =
    elim (closed d (more_from n key told (λ c. OneOf c (picked clauses live)) (IsTakenUp clauses live []) d
    (λ c h. let r = picked_from clauses live c h in (r.0, r.1, (λ w. absurd w), r.2)) q)) [ inl r ↦ r | inr z ↦ absurd z.1 ]
