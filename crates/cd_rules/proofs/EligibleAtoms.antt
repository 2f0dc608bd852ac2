-- Existentials of a clause, which are above its atoms.
use Rattle.std.proofs.Common.{◌≡◌, ◌⊎◌, ◌++◌, ◌↔◌, ℕ, zero, suc, ◌+◌, ◌-◌, ◌<◌, ◌≤◌, ◌==◌, Bool, true, false, List, [], ◌∷◌, length, get_or, refl, sym, ◌∙◌, subst, inl, inr, arith}
use Rattle.std.proofs.lemmas.Bool.{false≢true}
use Rattle.std.specs.List.{remove}
use Rattle.cd_base.specs.Lists.{OneOf, SameSet}
use Rattle.cd_base.specs.Ascending.{Ascending}
use Rattle.cd_base.specs.declared.normal.Normal.{Normal}
use Rattle.cd_base.proofs.Members.{member_at, member_get, member_cases, member_left, member_right}
use Rattle.cd_clause.specs.Elements.{Eligible, is_before, rest}
use Rattle.cd_clause.proofs.Elements.{member_rest, rest_member}
use Rattle.cd_clause.proofs.Eligibles.{eligible_one}
use Rattle.cd_clause.specs.declared.elem.Elem.{Elem}
use Rattle.cd_clause.specs.declared.elem.Elem.TheVariants.{Plain, Exist}
use Rattle.cd_rules.proofs.Without.{without_rest}

-- the element is an existential
abbrev IsExist : Elem → Type 0
IsExist e = (r : ℕ) × (k : List ℕ) × (e ≡ Exist r k)

-- an existential is in the clause
abbrev pub HasExist : List Elem → Type 0
HasExist c = (r : ℕ) × (k : List ℕ) × OneOf (Exist r k) c

-- no atom is eligible beside an existential
pub exist_above : (n : Normal) (a : ℕ) (c : List Elem) → HasExist c → Eligible n (Plain a) c → ⊥
exist_above n a c h e = false≢true (e.top (Exist h.0 h.1) h.2)

-- what stands after an existential is one
after_exist : (r : ℕ) (k : List ℕ) (f : Elem) → is_before (Exist r k) f ≡ true → IsExist f
after_exist r k (Plain a) h = absurd (false≢true h)
after_exist r k (Exist s l) h = (s, l, refl)

-- the last element of an ascending clause is an existential where one is in the clause
last_exist : (c : List Elem) (i : ℕ) (d : Elem) → Ascending is_before c → HasExist c → i + 1 ≡ length c → IsExist (get_or c i d)
last_exist [] i d a h l = absurd h.2
last_exist (e ∷ []) zero d a (r, k, inl q) l = (r, k, sym q)
last_exist (e ∷ []) zero d a (r, k, inr m) l = absurd m
last_exist (e ∷ []) (suc i) d a h l = absurd (omega arith)
last_exist (e ∷ f ∷ c) zero d a h l = absurd (omega arith)
last_exist (e ∷ f ∷ c) (suc i) d a (r, k, inl q) l =
    let w = after_exist r k f (subst (λ z. is_before z f ≡ true) (sym q) (a.0 f (inl refl))) in
    last_exist (f ∷ c) i d a.1 (w.0, w.1, inl (sym w.2)) (omega (arith, l))
last_exist (e ∷ f ∷ c) (suc i) d a (r, k, inr m) l = last_exist (f ∷ c) i d a.1 (r, k, m) (omega (arith, l))

-- in the form of the code: the test of the last element
pub exist_last : (c es : List Elem) (i : ℕ) (x : Elem) (b : Bool) → es ≡ c → Ascending is_before c → i + 1 ≡ length es → x ≡ get_or es i x → (b ≡ true) ↔ IsExist x → (b ≡ true) ↔ HasExist c
exist_last c es i x b e a l r t = (
  λ h. (let w = t.0 h in (w.0, w.1, subst (OneOf (Exist w.0 w.1)) e (subst (λ z. OneOf z es) (sym r ∙ w.2) (member_get es i x (omega arith))))),
  λ h. t.1 (subst IsExist (sym r) (subst (λ z. IsExist (get_or z i x)) (sym e) (last_exist c i x a h (subst (λ z. i + 1 ≡ length z) e l)))),
)

-- the place of the last of some
pub last_place : (es : List Elem) (b : Bool) → b ≡ (length es == 0) → b ≡ false → length es - 1 + 1 ≡ length es
last_place [] b e f = absurd (false≢true (sym f ∙ e))
last_place (x ∷ es) b e f = omega arith

-- the eligible atom of the clause was pushed
pub pushed_atom : (n : Normal) (c : List Elem) (a : ℕ) (old new : List ℕ) → Eligible n (Plain a) c → new ≡ old ++ a ∷ [] → (b : ℕ) → OneOf b new ↔ (OneOf b old ⊎ Eligible n (Plain b) c)
pushed_atom n c a old new el e b = (
  λ m. elim (member_cases b old (a ∷ []) (subst (OneOf b) e m)) [
    | inl k ↦ inl k
    | inr k ↦ elim k [ inl q ↦ inr (subst (λ w. Eligible n (Plain w) c) (sym q) el) | inr z ↦ absurd z ]
  ],
  λ q. subst (OneOf b) (sym e) (elim q [
    | inl k ↦ member_left b old (a ∷ []) k
    | inr f ↦ (let s : b ≡ a = same_atom b a (eligible_one n c (Plain b) (Plain a) f el) in member_right b old (a ∷ []) (inl s))
  ]),
)
  where
    same_atom : (a b : ℕ) → Plain a ≡ Plain b → a ≡ b
    same_atom a b e = cc

-- an atom that stands at no place isn't in the clause
pub at_no_place : (es : List Elem) (a : ℕ) (n : ℕ) → length es ≤ n → ((k : ℕ) → k < n → get_or es k (Plain 0) ≡ Plain a → ⊥) → OneOf (Plain a) es → ⊥
at_no_place es a n l h m =
    let w = member_at (Plain a) es m in
    h w.0 (omega (arith, w.1)) (w.2 (Plain 0))

-- the clause without the place of an atom, and without an atom that isn't there
pub without_place : (a : ℕ) (c es out : List Elem) (i : ℕ) → es ≡ c → Ascending is_before c → i < length es → get_or es i (Plain 0) ≡ Plain a → out ≡ remove c i → SameSet out (rest (Plain a) c)
without_place a c es out i e s l q r =
    let q' : get_or c i (Plain 0) ≡ Plain a = subst (λ z. get_or z i (Plain 0) ≡ Plain a) e q in
    subst (λ z. SameSet z (rest (Plain a) c)) (sym r) (subst (λ z. SameSet (remove c i) (rest z c)) q' (without_rest c i s (subst (λ z. i < length z) e l)))

pub without_none : (a : ℕ) (c es out : List Elem) → es ≡ c → (OneOf (Plain a) es → ⊥) → out ≡ c → SameSet out (rest (Plain a) c)
without_none a c es out e f r = (
  λ x m. (let k = subst (OneOf x) r m in member_rest (Plain a) x c k (λ q. f (subst (OneOf (Plain a)) (sym e) (subst (λ w. OneOf w c) (sym q) k)))),
  λ x m. subst (OneOf x) (sym r) (rest_member (Plain a) x c m).0,
)
