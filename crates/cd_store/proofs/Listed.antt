-- What is listed under a number.
use Rattle.std.proofs.Common.{◌≡◌, ℕ, zero, suc, ◌+◌, ◌*◌, ◌/◌, ◌<◌, Bool, true, false, cond, List, [], ◌∷◌, length, map, get_or, slice_get, Some, None, refl, sym, ap, ◌∙◌, subst, inl, inr, arith, eqb-true, eq-eqb}
use Rattle.std.specs.Prelude.{nat_eq}
use Rattle.std.specs.Map.{lookup}
use Rattle.std.specs.Option.{option_map_or}
use Rattle.std.proofs.lemmas.Bool.{cond-true}
use Rattle.smallvec.specs.SmallVec.{SmallVec}
use Rattle.cd_base.specs.Lists.{OneOf}
use Rattle.cd_base.proofs.Members.{member_at}
use Rattle.cd_store.specs.Filing.{keys_of, listed, HasList, KeepsFiled}

-- the numbers of a list as a map has it
abbrev pub numbers_of : SmallVec ℕ → List ℕ
numbers_of v = v.items

-- what is listed under a number is what a look-up finds
pub listed_of : {V : Type 0} (items : V → List ℕ) (es : List (ℕ × V)) (a : ℕ) → listed (map (λ e. (e.0, items e.1)) es) a ≡ option_map_or items (lookup (nat_eq a) es) []
listed_of items [] a = refl
listed_of {V} items (e ∷ es) a = by (nat_eq a e.0) (listed_of items es a)
  where
    by : (b : Bool) → listed (map (λ (w : ℕ × V). (w.0, items w.1)) es) a ≡ option_map_or items (lookup (nat_eq a) es) [] → cond b (items e.1) (listed (map (λ (w : ℕ × V). (w.0, items w.1)) es) a) ≡ option_map_or items (cond b (Some e.1) (lookup (nat_eq a) es)) []
    by true r = refl
    by false r = r

-- a number that is listed is listed under one of the keys
listed_key : (ps : List (ℕ × List ℕ)) (q m : ℕ) → OneOf m (listed ps q) → OneOf q (keys_of ps)
listed_key [] q m h = absurd h
listed_key (p ∷ ps) q m h = by (nat_eq q p.0) refl (listed_key ps q m) h
  where
    by : (b : Bool) → nat_eq q p.0 ≡ b → (OneOf m (listed ps q) → OneOf q (keys_of ps)) → OneOf m (cond b p.1 (listed ps q)) → OneOf q (keys_of (p ∷ ps))
    by true e r h = inl (eqb-true q p.0 e)
    by false e r h = inr (r h)

-- the key of the entry at a place
pub key_place : {V : Type 0} (items : V → List ℕ) (es : List (ℕ × V)) (i : ℕ) (p : ℕ × V) → Some p ≡ slice_get es i → p.0 ≡ get_or (keys_of (map (λ e. (e.0, items e.1)) es)) i 0
key_place items [] i p e = let q : Some p ≡ None = e in absurd (cc)
key_place items (x ∷ es) zero p e = let q : Some p ≡ Some x = e in let r : p ≡ x = cc in ap (λ (w : _). w.0) r
key_place items (x ∷ es) (suc i) p e = key_place items es i p e

-- the list at place i is one of the number
abbrev pub IsNumberAt : List (ℕ × List ℕ) → ℕ → ℕ → Type 0
IsNumberAt f i a = get_or (keys_of f) i 0 / 4 ≡ a

pub number_place : (f : List (ℕ × List ℕ)) (a : ℕ) → HasList f a → (i : ℕ) × (i < length (keys_of f)) × IsNumberAt f i a
number_place f a h = elim h.1 [
  | inl m ↦ (let w = member_at (a * 4) (keys_of f) (listed_key f (a * 4) h.0 m) in let e : get_or (keys_of f) w.0 0 ≡ a * 4 = w.2 0 in (w.0, w.1, omega arith))
  | inr m ↦ (let w = member_at (a * 4 + 1) (keys_of f) (listed_key f (a * 4 + 1) h.0 m) in let e : get_or (keys_of f) w.0 0 ≡ a * 4 + 1 = w.2 0 in (w.0, w.1, omega arith))
]

module _ {V : Type 0} (items : V → List ℕ) where
  -- the view of the entries of a map
  abbrev pub seen : List (ℕ × V) → List (ℕ × List ℕ)
  seen es = map (λ e. (e.0, items e.1)) es

  module _ (es fs : List (ℕ × V)) (k : ℕ) (w : V) (u : (q : ℕ) → lookup (nat_eq q) fs ≡ cond (nat_eq k q) (Some w) (lookup (nat_eq q) es)) where
    -- the list of one number was put in the place of what it had
    keeps : ((m : ℕ) → OneOf m (option_map_or items (lookup (nat_eq k) es) []) → OneOf m (items w)) → KeepsFiled (seen es) (seen fs)
    keeps g a m h =
        subst (λ l. OneOf m l) (sym (listed_of items fs a ∙ ap (λ o. option_map_or items o []) (u a))) (by (nat_eq k a) refl (subst (λ l. OneOf m l) (listed_of items es a) h))
      where
        by : (b : Bool) → nat_eq k a ≡ b → OneOf m (option_map_or items (lookup (nat_eq a) es) []) → OneOf m (option_map_or items (cond b (Some w) (lookup (nat_eq a) es)) [])
        by true e i = g m (subst (λ q. OneOf m (option_map_or items (lookup (nat_eq q) es) [])) (sym (eqb-true k a e)) i)
        by false e i = i

    -- where it had a list, and this one has all of that
    pub keeps_more : (old : V) → Some old ≡ lookup (nat_eq k) es → ((m : ℕ) → OneOf m (items old) → OneOf m (items w)) → KeepsFiled (seen es) (seen fs)
    keeps_more old e g = keeps (λ m h. g m (subst (λ o. OneOf m (option_map_or items o [])) (sym e) h))

    -- where it had none
    pub keeps_new : listed (seen es) k ≡ [] → KeepsFiled (seen es) (seen fs)
    keeps_new e = keeps (λ m h. absurd (subst (λ l. OneOf m l) (sym (listed_of items es k) ∙ e) h))

    -- what is in the list is filed
    pub is_filed : (m : ℕ) → OneOf m (items w) → OneOf m (listed (seen fs) k)
    is_filed m h = subst (λ l. OneOf m l) (sym (listed_of items fs k ∙ ap (λ o. option_map_or items o []) (u k ∙ cond-true (nat_eq k k) (Some w) (lookup (nat_eq k) es) (eq-eqb k k refl)))) h
