-- Where no normal axiom asks for an edge, and each has at most one atom on the right, every derived clause is empty or one atom.
use Rattle.std.proofs.Common.{◌≡◌, ◌⊎◌, ℕ, true, List, [], ◌∷◌, ◌++◌, map, refl, sym, ◌∙◌, ap, subst, inl, inr}
use Rattle.cd_base.specs.Keys.{plain, is_named}
use Rattle.cd_base.specs.Lists.{OneOf, SameSet}
use Rattle.cd_base.specs.declared.normal.Conj.{Conj}
use Rattle.cd_base.specs.declared.normal.Normal.{Normal}
use Rattle.cd_base.specs.declared.normal.Triple.{Triple}
use Rattle.cd_clause.specs.Derivations.{Entry, Derivation, Derived, HasCase, HasDerived, Listed, Reachable, from_start, from_exist, start_key}
use Rattle.cd_clause.specs.Elements.{Eligible, rest}
use Rattle.cd_clause.specs.Rules.{Rests, Told, Concludes, told_by, by_init, by_neg, by_con, by_ex, by_back, by_sure, by_dead, by_all}
use Rattle.cd_clause.specs.declared.elem.Elem.{Elem}
use Rattle.cd_clause.specs.declared.elem.Elem.TheVariants.{Plain, Exist}
use Rattle.cd_clause.proofs.Elements.{rest_member}

-- there are none or one on the right, which is one of these atoms
abbrev pub HasFewRight : List ℕ → List ℕ → Type 0
HasFewRight atoms right = (right ≡ []) ⊎ ((a : ℕ) × (right ≡ a ∷ []) × OneOf a atoms)

-- no axiom asks for an edge, and each has none or one of these atoms on the right
pub record HasNoChoice (n : Normal) (atoms : List ℕ) : Type 0 where
  pub edgeless : (t : Triple) → OneOf t n.n2 → ⊥
  pub single : (x : Conj) → OneOf x n.n1 → HasFewRight atoms x.right

-- the clause is empty, or that of an atom of the key or of these
abbrev pub IsUnit : List ℕ → List ℕ → List Elem → Type 0
IsUnit atoms key c = (c ≡ []) ⊎ ((a : ℕ) × SameSet c (Plain a ∷ []) × (OneOf (plain a) key ⊎ OneOf a atoms))

-- what has no member is empty
pub empty_of : {X : Type 0} (xs : List X) → ((x : X) → OneOf x xs → ⊥) → xs ≡ []
empty_of [] h = refl
empty_of (x ∷ xs) h = absurd (h x (inl refl))

-- what is eligible in such a clause is an atom, and alone
only_atom : (n : Normal) (atoms key : List ℕ) (c : List Elem) (e : Elem) → IsUnit atoms key c → Eligible n e c → (a : ℕ) × (e ≡ Plain a) × SameSet c (Plain a ∷ [])
only_atom n atoms key c e (inl none) el = absurd (subst (OneOf e) none el.isin)
only_atom n atoms key c e (inr u) el = elim (u.1.0 e el.isin) [ inl q ↦ (u.0, q, u.1) | inr z ↦ absurd z ]

no_exist : (n : Normal) (atoms key : List ℕ) (c : List Elem) (r : ℕ) (k : List ℕ) → IsUnit atoms key c → Eligible n (Exist r k) c → ⊥
no_exist n atoms key c r k u el = let w = only_atom n atoms key c (Exist r k) u el in let q : Exist r k ≡ Plain w.0 = w.1 in cc

no_rest : (n : Normal) (atoms key : List ℕ) (c : List Elem) (a : ℕ) → IsUnit atoms key c → Eligible n (Plain a) c → rest (Plain a) c ≡ []
no_rest n atoms key c a u el = empty_of (rest (Plain a) c) (λ f m.
    let w = only_atom n atoms key c (Plain a) u el in
    let r = rest_member (Plain a) f c m in
    elim (w.2.0 f r.0) [ inl q ↦ r.1 (w.1 ∙ sym q) | inr z ↦ absurd z ])

same_empty : (d c : List Elem) → SameSet d c → c ≡ [] → d ≡ []
same_empty d c s e = empty_of d (λ x m. subst (OneOf x) e (s.0 x m))

module _ (n : Normal) (atoms : List ℕ) (few : HasNoChoice n atoms) where
  module _ (key : List ℕ) (Has : List Elem → Type 0) (units : (c : List Elem) → Has c → IsUnit atoms key c) where
    no_rests : (left : List ℕ) (m : List Elem) → Rests n Has left m → m ≡ []
    no_rests [] m r = r
    no_rests (a ∷ left) m (c, h, el, r) =
        let here = no_rest n atoms key c a (units c h) el in
        let there = no_rests left r.tail r.rests in
        r.is ∙ (ap (λ l. l ++ r.tail) here ∙ there)

    unit_of_right : (d : List Elem) (right : List ℕ) → SameSet d (map Plain right) → HasFewRight atoms right → IsUnit atoms key d
    unit_of_right d right s (inl none) = inl (same_empty d (map Plain right) s (ap (map Plain) none))
    unit_of_right d right s (inr one) = inr (one.0, subst (SameSet d) (ap (map Plain) one.1) s, inr one.2)

    concluded_unit : (told : Told) (d : List Elem) → Concludes n key Has told d → IsUnit atoms key d
    concluded_unit told d (by_init a m s) = inr (a, s, inl m)
    concluded_unit told d (by_neg a c h el m s) = inl (same_empty d (rest (Plain a) c) s (no_rest n atoms key c a (units c h) el))
    concluded_unit told d (by_con x m k r s) = unit_of_right d x.right (subst (λ l. SameSet d (l ++ map Plain x.right)) (no_rests x.left m r) s) (few.single x k)
    concluded_unit told d (by_ex t c m h el s) = absurd (few.edgeless t m)
    concluded_unit told d (by_back t c r k m h el b u s) = absurd (no_exist n atoms key c r k (units c h) el)
    concluded_unit told d (by_sure t c r k m h el b u s) = absurd (no_exist n atoms key c r k (units c h) el)
    concluded_unit told d (by_dead c r k h el b s) = absurd (no_exist n atoms key c r k (units c h) el)
    concluded_unit told d (by_all t c b r k m h el hb eb u s) = absurd (no_exist n atoms key c r k (units c h) el)

  listed_units : (es : List Entry) → Derivation n es → (p : Entry) → OneOf p es → IsUnit atoms p.key p.clause
  listed_units [] d p m = absurd m
  listed_units (q ∷ es) d p (inl e) = subst (λ (w : Entry). IsUnit atoms w.key w.clause) (sym e)
      (concluded_unit q.key (Listed es q.key) (λ c m. listed_units es d.1 (record { key = q.key; clause = c }) m) (told_by n (Listed es)) q.clause d.0)
  listed_units (q ∷ es) d p (inr m) = listed_units es d.1 p m

  pub derived_unit : (key : List ℕ) (c : List Elem) → Derived n key c → IsUnit atoms key c
  derived_unit key c d = listed_units d.entries d.derivation (record { key = key; clause = c }) d.listed

  -- so there are no edges
  pub none_derived : (key : List ℕ) (r : ℕ) (k : List ℕ) → HasDerived n key (Exist r k) → ⊥
  none_derived key r k (c, d, el) = no_exist n atoms key c r k (derived_unit key c d) el

  -- and no cases
  no_case : (key : List ℕ) (a : ℕ) → HasCase n key a → ⊥
  no_case key a (c, d, case) =
      let w = only_atom n atoms key c (Plain a) (derived_unit key c d) case.0 in
      case.1 (subst (λ (e : Elem). SameSet c (e ∷ [])) (sym w.1) w.2)

  -- and what can be reached are the keys of names alone
  pub name_alone : (key : List ℕ) → Reachable n key → (a : ℕ) × (is_named n a ≡ true) × (key ≡ plain a ∷ [])
  name_alone key (from_start s) = (s.atom, s.named, s.is ∙ ap (start_key s.atom) (empty_of s.others (λ b m. no_case (plain s.atom ∷ []) b (s.asked b m).1)))
  name_alone key (from_exist h clauses c r reach closed m el) = absurd (none_derived h r key (c, closed.derived c m, el))
