-- Which elements say more than others, and which clauses cover others.
use Rattle.std.proofs.Common.{◌≡◌, ◌⊎◌, ◌<◌, ◌↔◌, ℕ, Bool, true, false, cond, List, [], ◌∷◌, length, map, ltb, eqb, refl, sym, ◌∙◌, ap, subst, inl, inr, arith, ltb-true, eqb-true, eq-eqb}
use Rattle.std.proofs.lemmas.Bool.{cond_both, cond-true, cond-false, cases_Bool, both_ways, false≢true, and_parts, and_from, not-true}
use Rattle.std.proofs.lemmas.List.{length-map}
use Rattle.cd_base.specs.Lists.{OneOf, Within}
use Rattle.cd_base.specs.Ascending.{Ascending, is_covered}
use Rattle.cd_base.specs.Keys.{code, key_with}
use Rattle.cd_base.specs.declared.lit.Lit.{Lit}
use Rattle.cd_base.proofs.Ascending.{covered_within, within_covered}
use Rattle.cd_base.proofs.Keys.{codes_strict}
use Rattle.cd_clause.specs.Covering.{is_as_strong, HasWeaker, Covers, is_lower}
use Rattle.cd_clause.specs.Dictionary.{is_at_most}
use Rattle.cd_clause.specs.Elements.{is_before}
use Rattle.cd_clause.specs.declared.elem.Elem.{Elem}
use Rattle.cd_clause.specs.declared.elem.Elem.TheVariants.{Plain, Exist}
use Rattle.cd_clause.proofs.Dictionary.{at_most_less, at_most_same}

-- the first key is a subset of the second
abbrev pub IsPart : List ℕ → List ℕ → Type 0
IsPart k l = is_covered ltb k l ≡ true

-- a code of the second key is below the first of the first key and passed over, or both begin with one code
part_cases : (x y : ℕ) (k l : List ℕ) → IsPart (x ∷ k) (y ∷ l) → ((y < x) × IsPart (x ∷ k) l) ⊎ ((x ≡ y) × IsPart k l)
part_cases x y k l h =
    let P : Bool → Type 0 = λ v. v ≡ true → ((y < x) × IsPart (x ∷ k) l) ⊎ ((x ≡ y) × IsPart k l) in
    cond_both (ltb x y) false (cond (ltb y x) (is_covered ltb (x ∷ k) l) (is_covered ltb k l)) P
    (λ t q. absurd (false≢true q))
    (λ t. cond_both (ltb y x) (is_covered ltb (x ∷ k) l) (is_covered ltb k l) P
    (λ u q. inl (ltb-true y x u, q))
    (λ u q. inr (codes_strict.total x y t u, q)))
    h

part_passes : (x y : ℕ) (k l : List ℕ) → y < x → IsPart (x ∷ k) l → IsPart (x ∷ k) (y ∷ l)
part_passes x y k l u q =
    let a : ltb x y ≡ false = grind arith in
    let b : ltb y x ≡ true = grind arith in
    cond-false (ltb x y) false (cond (ltb y x) (is_covered ltb (x ∷ k) l) (is_covered ltb k l)) a
    ∙ cond-true (ltb y x) (is_covered ltb (x ∷ k) l) (is_covered ltb k l) b ∙ q

part_begins : (x y : ℕ) (k l : List ℕ) → x ≡ y → IsPart k l → IsPart (x ∷ k) (y ∷ l)
part_begins x y k l e q =
    let a : ltb x y ≡ false = grind arith in
    let b : ltb y x ≡ false = grind arith in
    cond-false (ltb x y) false (cond (ltb y x) (is_covered ltb (x ∷ k) l) (is_covered ltb k l)) a
    ∙ cond-false (ltb y x) (is_covered ltb (x ∷ k) l) (is_covered ltb k l) b ∙ q

pub part_refl : (k : List ℕ) → IsPart k k
part_refl [] = refl
part_refl (x ∷ k) = part_begins x x k k refl (part_refl k)

pub part_trans : (k l m : List ℕ) → IsPart k l → IsPart l m → IsPart k m
part_trans [] l m p q = refl
part_trans (x ∷ k) [] m p q = absurd (false≢true p)
part_trans (x ∷ k) (y ∷ l) [] p q = absurd (false≢true q)
part_trans (x ∷ k) (y ∷ l) (z ∷ m) p q = elim (part_cases y z l m q) [
  | inl b ↦ (let t = part_trans (x ∷ k) (y ∷ l) m p b.1 in elim (part_cases x y k l p) [
    | inl a ↦ part_passes x z k m (omega arith) t
    | inr a ↦ (let e : x ≡ y = a.0 in part_passes x z k m (omega arith) t)
  ])
  | inr b ↦ (let d : y ≡ z = b.0 in elim (part_cases x y k l p) [
    | inl a ↦ part_passes x z k m (omega arith) (part_trans (x ∷ k) l m a.1 b.1)
    | inr a ↦ part_begins x z k m (a.0 ∙ d) (part_trans k l m a.1 b.1)
  ])
]

pub part_within : (k l : List ℕ) → IsPart k l → Within k l
part_within k l h = covered_within ltb codes_strict k l h

-- a key is a part of itself with a literal more
pub part_with : (c : ℕ) (k : List ℕ) → IsPart k (key_with c k)
part_with c [] = refl
part_with c (y ∷ k) =
    cond_both (eqb c y) (y ∷ k) (cond (ltb c y) (c ∷ y ∷ k) (y ∷ key_with c k)) (IsPart (y ∷ k))
    (λ t. part_refl (y ∷ k))
    (λ t. cond_both (ltb c y) (c ∷ y ∷ k) (y ∷ key_with c k) (IsPart (y ∷ k))
    (λ u. part_passes y c k (y ∷ k) (ltb-true c y u) (part_refl (y ∷ k)))
    (λ u. part_begins y y k (key_with c k) refl (part_with c k)))

-- a part is no longer
pub part_shorter : (k l : List ℕ) → IsPart k l → length l < length k → ⊥
part_shorter [] l p s = omega arith
part_shorter (x ∷ k) [] p s = false≢true p
part_shorter (x ∷ k) (y ∷ l) p s = elim (part_cases x y k l p) [
  | inl a ↦ part_shorter (x ∷ k) l a.1 (omega arith)
  | inr a ↦ part_shorter k l a.1 (omega arith)
]

-- a key that is longer is no part
pub no_part : (k l : List ℕ) (ks ls : List Lit) → map code ks ≡ k → map code ls ≡ l → length ls < length ks → false ≡ is_covered ltb k l
no_part k l ks ls p q s =
    let a : length k ≡ length ks = ap length (sym p) ∙ length-map ks code in
    let b : length l ≡ length ls = ap length (sym q) ∙ length-map ls code in
    elim (cases_Bool (is_covered ltb k l)) [ inl t ↦ absurd (part_shorter k l t (omega (arith, a, b, s))) | inr f ↦ sym f ]

-- what a test of ascending keys decides
pub part_is : (k l : List ℕ) (b : Bool) → Ascending ltb k → Ascending ltb l → (b ≡ true) ↔ Within k l → b ≡ is_covered ltb k l
part_is k l b v w d = elim (cases_Bool (is_covered ltb k l)) [
  | inl t ↦ d.1 (part_within k l t) ∙ sym t
  | inr f ↦ elim (cases_Bool b) [
    | inl t ↦ absurd (both_ways (is_covered ltb k l) f (within_covered ltb codes_strict k l v w (d.0 t)))
    | inr g ↦ g ∙ sym f
  ]
]

-- a larger key is at most a smaller one
pub part_first : (l k : List ℕ) → IsPart l k → is_at_most k l ≡ true
part_first [] [] p = refl
part_first [] (y ∷ k) p = refl
part_first (x ∷ l) [] p = absurd (false≢true p)
part_first (x ∷ l) (y ∷ k) p = elim (part_cases x y l k p) [
  | inl a ↦ at_most_less y x k l a.0
  | inr a ↦ at_most_same y x k l (sym a.0) (part_first l k a.1)
]

pub strong_refl : (e : Elem) → is_as_strong e e ≡ true
strong_refl (Plain a) = eq-eqb a a refl
strong_refl (Exist r k) = and_from (eqb r r) (is_covered ltb k k) (eq-eqb r r refl) (part_refl k)

-- only an atom itself is at least as strong
pub strong_atom : (g : Elem) (a : ℕ) → is_as_strong g (Plain a) ≡ true → g ≡ Plain a
strong_atom (Plain b) a h = ap Plain (eqb-true b a h)
strong_atom (Exist r k) a h = absurd (false≢true h)

-- only an existential of the role to a key with all that is wanted
pub strong_exist : (g : Elem) (r : ℕ) (l : List ℕ) → is_as_strong g (Exist r l) ≡ true → (k : List ℕ) × (g ≡ Exist r k) × IsPart l k
strong_exist (Plain b) r l h = absurd (false≢true h)
strong_exist (Exist s k) r l h = let p = and_parts (eqb s r) (is_covered ltb l k) h in (k, ap (λ z. Exist z k) (eqb-true s r p.0), p.1)

pub strong_from : (r : ℕ) (k l : List ℕ) → IsPart l k → is_as_strong (Exist r k) (Exist r l) ≡ true
strong_from r k l p = and_from (eqb r r) (is_covered ltb l k) (eq-eqb r r refl) p

pub strong_trans : (e f g : Elem) → is_as_strong e f ≡ true → is_as_strong f g ≡ true → is_as_strong e g ≡ true
strong_trans (Plain a) (Plain b) (Plain c) p q = eq-eqb a c (eqb-true a b p ∙ eqb-true b c q)
strong_trans (Plain a) (Plain b) (Exist t m) p q = absurd (false≢true q)
strong_trans (Plain a) (Exist s l) g p q = absurd (false≢true p)
strong_trans (Exist r k) (Plain b) g p q = absurd (false≢true p)
strong_trans (Exist r k) (Exist s l) (Plain c) p q = absurd (false≢true q)
strong_trans (Exist r k) (Exist s l) (Exist t m) p q =
    let a = and_parts (eqb r s) (is_covered ltb l k) p in
    let b = and_parts (eqb s t) (is_covered ltb m l) q in
    and_from (eqb r t) (is_covered ltb m k) (eq-eqb r t (eqb-true r s a.0 ∙ eqb-true s t b.0)) (part_trans m l k b.1 a.1)

pub covers_refl : (c : List Elem) → Covers c c
covers_refl c e m = (e, m, strong_refl e)

-- a subset covers
pub within_covers : (c d : List Elem) → Within c d → Covers c d
within_covers c d w e m = (e, w e m, strong_refl e)

pub covers_trans : (b c d : List Elem) → Covers b c → Covers c d → Covers b d
covers_trans b c d p q e m = let f = p e m in let g = q f.0 f.1 in (g.0, g.1, strong_trans e f.0 g.0 f.2 g.2)

-- what stands before an element whatever its key is weaker than none from that element on
lower_not_weaker : (f e g : Elem) → is_lower f e ≡ true → (g ≡ e) ⊎ (is_before e g ≡ true) → is_as_strong g f ≡ true → ⊥
lower_not_weaker f e g t (inl q) s = own f e t (subst (λ w. is_as_strong w f ≡ true) q s)
  where
    own : (f e : Elem) → is_lower f e ≡ true → is_as_strong e f ≡ true → ⊥
    own (Plain a) (Plain b) t s = let l : a < b = ltb-true a b t in let e : b ≡ a = eqb-true b a s in omega arith
    own (Plain a) (Exist r k) t s = false≢true s
    own (Exist r k) (Plain b) t s = false≢true s
    own (Exist r k) (Exist s l) t w = let u : r < s = ltb-true r s t in let e : s ≡ r = eqb-true s r (and_parts (eqb s r) (is_covered ltb k l) w).0 in omega arith
lower_not_weaker (Plain a) (Plain b) (Plain c) t (inr q) s = later a b c (ltb-true a b t) (not-true _ q) (eqb-true c a s)
  where
    later : (a b c : ℕ) → a < b → is_at_most (0 ∷ c ∷ []) (0 ∷ b ∷ []) ≡ false → c ≡ a → ⊥
    later a b c l q s = both_ways (is_at_most (0 ∷ c ∷ []) (0 ∷ b ∷ [])) q (at_most_same 0 0 (c ∷ []) (b ∷ []) refl (at_most_less c b [] [] (omega (arith, l, s))))
lower_not_weaker (Plain a) (Exist r k) (Plain c) t (inr q) s = false≢true q
lower_not_weaker (Plain a) e (Exist u m) t (inr q) s = false≢true s
lower_not_weaker (Exist s l) e (Plain c) t (inr q) w = false≢true w
lower_not_weaker (Exist s l) (Plain b) (Exist u m) t (inr q) w = false≢true t
lower_not_weaker (Exist s l) (Exist r k) (Exist u m) t (inr q) w = later s r u (ltb-true s r t) k m (not-true _ q) (eqb-true u s (and_parts (eqb u s) (is_covered ltb l m) w).0)
  where
    later : (s r u : ℕ) → s < r → (k m : List ℕ) → is_at_most (1 ∷ u ∷ m) (1 ∷ r ∷ k) ≡ false → u ≡ s → ⊥
    later s r u l k m q w = both_ways (is_at_most (1 ∷ u ∷ m) (1 ∷ r ∷ k)) q (at_most_same 1 1 (u ∷ m) (r ∷ k) refl (at_most_less u r m k (omega (arith, l, w))))

-- ---- the walk over two clauses

-- what is wanted of the first ascends, and is covered by what is left of the second exactly where the first covers the second
pub record IsWalked (left right wanted rest : List Elem) : Type 0 where
  pub ascends : Ascending is_before wanted
  pub enough : Covers wanted rest → Covers left right
  pub needed : Covers left right → Covers wanted rest

pub walk_begins : (left right : List Elem) → Ascending is_before left → IsWalked left right left right
walk_begins left right a = record { ascends = a; enough = λ w. w; needed = λ w. w }

pub walk_ends : (left right wanted rest : List Elem) → wanted ≡ [] → IsWalked left right wanted rest → Covers left right
walk_ends left right wanted rest l w = w.enough (subst (λ c. Covers c rest) (sym l) (λ e m. absurd m))

-- what is left once the lower ones are gone
fewer_needed : (x : Elem) (later rest new : List Elem) → Ascending is_before (x ∷ later) → ((f : Elem) → OneOf f rest → OneOf f new ⊎ (is_lower f x ≡ true)) → Covers (x ∷ later) rest → Covers (x ∷ later) new
fewer_needed x later rest new a lower h e m =
    let w = h e m in
    elim (lower w.0 w.1) [
      | inl k ↦ (w.0, k, w.2)
      | inr t ↦ absurd (lower_not_weaker w.0 x e t (elim m [ inl q ↦ inl q | inr n ↦ inr (a.0 e n) ]) w.2)
    ]

module _ (left right wanted rest new : List Elem) (x : Elem) (later : List Elem) (is : wanted ≡ x ∷ later) (lower : (f : Elem) → OneOf f rest → OneOf f new ⊎ (is_lower f x ≡ true)) (w : IsWalked left right wanted rest) where
  ascends : Ascending is_before (x ∷ later)
  ascends = subst (Ascending is_before) is w.ascends

  still : Covers left right → Covers (x ∷ later) new
  still h = fewer_needed x later rest new ascends lower (subst (λ c. Covers c rest) is (w.needed h))

  pub walk_stops : Covers left right → HasWeaker x new
  walk_stops h = still h x (inl refl)

  pub walk_goes : Within new rest → HasWeaker x new → IsWalked left right later new
  walk_goes fewer has = record {
    ascends = ascends.1;
    enough = λ h. w.enough (subst (λ c. Covers c rest) (sym is) (λ e m. elim m [
      | inl q ↦ (has.0, fewer has.0 has.1, subst (λ v. is_as_strong v has.0 ≡ true) (sym q) has.2)
      | inr n ↦ (let v = h e n in (v.0, fewer v.0 v.1, v.2))
    ]));
    needed = λ h e m. still h e (inr m);
  }
