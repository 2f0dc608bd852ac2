-- Derivations put together: what follows from derived clauses is derived.
use Rattle.std.proofs.Common.{◌≡◌, ℕ, true, List, [], ◌∷◌, ◌++◌, refl, inl}
use Rattle.cd_base.specs.Keys.{plain, is_named}
use Rattle.cd_base.specs.declared.normal.Normal.{Normal}
use Rattle.cd_base.proofs.Members.{member_left, member_right}
use Rattle.cd_clause.specs.declared.elem.Elem.{Elem}
use Rattle.cd_clause.specs.Rules.{Rests, Told, Concludes, told_by, by_init, by_neg, by_con, by_ex, by_back, by_sure, by_dead, by_all}
use Rattle.cd_clause.specs.Derivations.{Entry, Listed, Derivation, Derived, IsStart, Reachable, from_start}

rests_more : (n : Normal) (Has Has' : List Elem → Type 0) → ((c : List Elem) → Has c → Has' c) → (left : List ℕ) (m : List Elem) → Rests n Has left m → Rests n Has' left m
rests_more n Has Has' f [] m r = r
rests_more n Has Has' f (a ∷ left) m (c, h, t, r) = (c, f c h, t, record { tail = r.tail; rests = rests_more n Has Has' f left r.tail r.rests; is = r.is })

pub concludes_more : (n : Normal) (key : List ℕ) (Has Has' : List Elem → Type 0) (told told' : Told) (d : List Elem)
    → ((c : List Elem) → Has c → Has' c) → ((r : ℕ) (k : List ℕ) (a : ℕ) → told.back r k a → told'.back r k a) → ((r : ℕ) (k : List ℕ) (a : ℕ) → told.sure r k a → told'.sure r k a)
    → ((r : ℕ) (k : List ℕ) → told.dead r k → told'.dead r k) → Concludes n key Has told d → Concludes n key Has' told' d
concludes_more n key Has Has' told told' d f g w z (by_init a m s) = by_init a m s
concludes_more n key Has Has' told told' d f g w z (by_neg a c h t m s) = by_neg a c (f c h) t m s
concludes_more n key Has Has' told told' d f g w z (by_con x m k r s) = by_con x m k (rests_more n Has Has' f x.left m r) s
concludes_more n key Has Has' told told' d f g w z (by_ex t c m h e s) = by_ex t c m (f c h) e s
concludes_more n key Has Has' told told' d f g w z (by_back t c r k m h e b u s) = by_back t c r k m (f c h) e (g r k t.atom b) u s
concludes_more n key Has Has' told told' d f g w z (by_sure t c r k m h e b u s) = by_sure t c r k m (f c h) e (w r k t.atom b) u s
concludes_more n key Has Has' told told' d f g w z (by_dead c r k h e b s) = by_dead c r k (f c h) e (z r k b) s
concludes_more n key Has Has' told told' d f g w z (by_all t c b r k m h e hb eb u s) = by_all t c b r k m (f c h) e (f b hb) eb u s

module _ (n : Normal) where
  abbrev From : List Entry → List ℕ → List Elem → Type 0
  From e key d = Concludes n key (Listed e key) (told_by n (Listed e)) d

  from_left : (e f : List Entry) (key : List ℕ) (d : List Elem) → From e key d → From (e ++ f) key d
  from_left e f key d q = concludes_more n key (Listed e key) (Listed (e ++ f) key) (told_by n (Listed e)) (told_by n (Listed (e ++ f))) d
      (λ c m. member_left (record { key = key; clause = c }) e f m)
      (λ r k a w. (w.0, member_left (record { key = k; clause = w.0 }) e f w.1, w.2))
      (λ r k a w. (w.0, member_left (record { key = k; clause = w.0 }) e f w.1, w.2))
      (λ r k m. member_left (record { key = k; clause = [] }) e f m)
      q

  join : (e f : List Entry) → Derivation n e → Derivation n f → Derivation n (e ++ f)
  join [] f v w = w
  join (p ∷ e) f v w = (from_left e f p.key p.clause v.0, join e f v.1 w)

  rests_from : (h : List ℕ) (left : List ℕ) (m : List Elem) → Rests n (Derived n h) left m → (e : List Entry) × Derivation n e × Rests n (Listed e h) left m
  rests_from h [] m r = ([], tt, r)
  rests_from h (a ∷ left) m (c, d, t, r) =
      let w = rests_from h left r.tail r.rests in (
        d.entries ++ w.0,
        join d.entries w.0 d.derivation w.1,
        (
          c,
          member_left (record { key = h; clause = c }) d.entries w.0 d.listed,
          t,
          record {
            tail = r.tail;
            rests = rests_more n (Listed w.0 h) (Listed (d.entries ++ w.0) h) (λ x m. member_right (record { key = h; clause = x }) d.entries w.0 m) left r.tail w.2;
            is = r.is;
          },
        ),
      )

  abbrev Known : List ℕ → List Elem → Type 0
  Known key d = Concludes n key (Derived n key) (told_by n (Derived n)) d

  from_known : (h : List ℕ) (d : List Elem) → Known h d → (e : List Entry) × Derivation n e × From e h d
  from_known h d (by_init a m s) = ([], tt, by_init a m s)
  from_known h d (by_neg a c x t m s) = (x.entries, x.derivation, by_neg a c x.listed t m s)
  from_known h d (by_con x m k r s) = let w = rests_from h x.left m r in (w.0, w.1, by_con x m k w.2 s)
  from_known h d (by_ex t c m x e s) = (x.entries, x.derivation, by_ex t c m x.listed e s)
  from_known h d (by_back t c r k m x e b u s) =
      let y : Derived n k b.0 = b.1 in (
        x.entries ++ y.entries,
        join x.entries y.entries x.derivation y.derivation,
        by_back t c r k m (member_left (record { key = h; clause = c }) x.entries y.entries x.listed) e
            (b.0, member_right (record { key = k; clause = b.0 }) x.entries y.entries y.listed, b.2) u s,
      )
  from_known h d (by_sure t c r k m x e b u s) =
      let y : Derived n k b.0 = b.1 in (
        x.entries ++ y.entries,
        join x.entries y.entries x.derivation y.derivation,
        by_sure t c r k m (member_left (record { key = h; clause = c }) x.entries y.entries x.listed) e
            (b.0, member_right (record { key = k; clause = b.0 }) x.entries y.entries y.listed, b.2) u s,
      )
  from_known h d (by_dead c r k x e y s) = (
    x.entries ++ y.entries,
    join x.entries y.entries x.derivation y.derivation,
    by_dead c r k (member_left (record { key = h; clause = c }) x.entries y.entries x.listed) e (member_right (record { key = k; clause = [] }) x.entries y.entries y.listed) s,
  )
  from_known h d (by_all t c b r k m x e y eb u s) = (
    x.entries ++ y.entries,
    join x.entries y.entries x.derivation y.derivation,
    by_all t c b r k m (member_left (record { key = h; clause = c }) x.entries y.entries x.listed) e (member_right (record { key = h; clause = b }) x.entries y.entries y.listed) eb u s,
  )

  pub derived_closed : (h : List ℕ) (d : List Elem) → Known h d → Derived n h d
  derived_closed h d q = let w = from_known h d q in record {
    entries = record { key = h; clause = d } ∷ w.0;
    derivation = (w.2, w.1);
    listed = inl refl;
  }

-- the key of a named atom alone may be started
pub named_start : (n : Normal) (k : List ℕ) (a : ℕ) → is_named n a ≡ true → k ≡ plain a ∷ [] → IsStart n k
named_start n k a named e = record { atom = a; others = []; named = named; asked = λ b m. absurd m; is = e }

pub from_named : {n : Normal} {k : List ℕ} (a : ℕ) → is_named n a ≡ true → k ≡ plain a ∷ [] → Reachable n k
from_named {n} {k} a named e = from_start (named_start n k a named e)
