-- Unions of a clause with the rests of partners, one for each of some atoms.
use Rattle.std.proofs.Common.{◌≡◌, ℕ, zero, suc, ◌+◌, ◌<◌, ◌≤◌, List, [], ◌∷◌, ◌++◌, length, drop, map, get_or, refl, sym, ◌∙◌, ap, subst, inl, inr, arith}
use Rattle.std.proofs.lemmas.List.{append-nil, get_or_read}
use Rattle.cd_base.specs.Appends.{Appends}
use Rattle.cd_base.specs.Lists.{OneOf, SameSet}
use Rattle.cd_base.proofs.Appending.{otherwise}
use Rattle.cd_base.proofs.Members.{member_left, member_right, member_cases}
use Rattle.cd_clause.specs.declared.elem.Elem.{Elem}
use Rattle.cd_clause.specs.declared.elem.Elem.TheVariants.{Plain}
use Rattle.cd_rules.specs.Among.{Among}
use Rattle.cd_rules.specs.declared.partners.Partner.{Partner}
use Rattle.cd_rules.specs.Partners.{AreThose, IsUnion, IsJoin, IsJoinBy, IsConFrom, rest_of}
use Rattle.cd_rules.specs.Walks.{ByOne}
use Rattle.cd_rules.proofs.SameSets.{same_set_refl, same_set_trans, same_set_append}

-- ---- sets

pub same_right : (a b c : List Elem) → SameSet a b → SameSet (c ++ a) (c ++ b)
same_right a b c s = same_set_append c a c b (same_set_refl c) s

same_left : (a b c : List Elem) → SameSet a b → SameSet (a ++ c) (b ++ c)
same_left a b c s = same_set_append a c b c s (same_set_refl c)

-- what is put at the end may stand before the middle too
moved : (a b c : List Elem) → SameSet ((a ++ b) ++ c) (a ++ (c ++ b))
moved a b c = (
  λ x k. elim (member_cases x (a ++ b) c k) [
    | inl w ↦ elim (member_cases x a b w) [ inl z ↦ member_left x a (c ++ b) z | inr z ↦ member_right x a (c ++ b) (member_right x c b z) ]
    | inr w ↦ member_right x a (c ++ b) (member_left x c b w)
  ],
  λ x k. elim (member_cases x a (c ++ b) k) [
    | inl w ↦ member_left x (a ++ b) c (member_left x a b w)
    | inr w ↦ elim (member_cases x c b w) [ inl z ↦ member_right x (a ++ b) c z | inr z ↦ member_left x (a ++ b) c (member_right x a b z) ]
  ],
)

-- one atom more, put at the front
pub with_one : (base : List Elem) (atoms : List ℕ) (a : ℕ) → length atoms ≡ 1 → a ≡ get_or atoms 0 a → (c : List Elem) → SameSet c (Plain a ∷ base) → SameSet c (base ++ map Plain atoms)
with_one base [] a l r c s = absurd (omega arith)
with_one base (x ∷ y ∷ atoms) a l r c s = absurd (omega arith)
with_one base (x ∷ []) a l r c s =
    let q : Plain a ≡ Plain x = ap Plain r in (
      λ z m. elim (s.0 z m) [ inl e ↦ member_right z base (Plain x ∷ []) (inl (e ∙ q)) | inr k ↦ member_left z base (Plain x ∷ []) k ],
      λ z m. s.1 z (elim (member_cases z base (Plain x ∷ []) m) [ inl k ↦ inr k | inr k ↦ elim k [ inl e ↦ inl (e ∙ sym q) | inr n ↦ absurd n ] ]),
    )

-- ---- lists that have those clauses

-- what was appended to no clause
pub those : (P : List Elem → Type 0) (Done : Type 0) (old new : List (List Elem)) → old ≡ [] → Done → Appends Among P Done old new → AreThose P new
those P Done old new e h a =
    let is : new ≡ a.added = a.follows ∙ ap (λ w. w ++ a.added) e in (
      λ d m. a.only d (subst (OneOf d) is m),
      λ d p. (let w = a.every h d p in (w.0, subst (OneOf w.0) (sym is) w.1, w.2)),
    )

-- the joins with a partner that has the atom are those with what is left of its clause
pub join_by_partner : (clauses : List (List Elem)) (a : ℕ) (unions : List (List Elem)) (p : Partner) (others : List Elem) (Done : Type 0) (old new : List (List Elem)) → p.atom ≡ a
    → SameSet others (rest_of clauses p) → Appends Among (ByOne (IsJoin others) unions) Done old new → Appends Among (IsJoinBy clauses a unions p) Done old new
join_by_partner clauses a unions p others Done old new e s w =
    let r = rest_of clauses p in
    otherwise (ByOne (IsJoin others) unions) (IsJoinBy clauses a unions p) Done Done old new
    (λ d q. (e, (q.0, q.1, same_set_trans d (q.0 ++ others) (q.0 ++ r) q.2 (same_right others r q.0 s))))
    (λ h d q. (q.1.0, q.1.1, same_set_trans d (q.1.0 ++ r) (q.1.0 ++ others) q.1.2 (same_right r others q.1.0 (s.1, s.0))))
    (λ h. h) w

module _ (clauses : List (List Elem)) (partners : List Partner) (base : List Elem) where
  abbrev Are : List ℕ → List (List Elem) → Type 0
  Are atoms found = AreThose (IsUnion clauses partners atoms base) found

  -- for no atom there is the base alone
  none_are : (c : List Elem) → c ≡ base → Are [] (c ∷ [])
  none_are c e = (
    λ d m. elim m [
      | inl q ↦ ([], refl, subst (λ w. SameSet d w) (q ∙ e ∙ sym (append-nil base)) (same_set_refl d))
      | inr z ↦ absurd z
    ],
    λ d p. (let is : base ++ p.0 ≡ c = ap (λ w. base ++ w) p.1 ∙ append-nil base ∙ sym e in (c, inl refl, subst (λ w. SameSet w d) is (p.2.1, p.2.0))),
  )

  -- for one atom more there are the joins
  one_more : (a : ℕ) (atoms : List ℕ) (found more : List (List Elem)) → Are atoms found → AreThose (ByOne (IsJoinBy clauses a found) partners) more → Are (a ∷ atoms) more
  one_more a atoms found more f g = (
    λ d m. (let z = g.0 d m in let r = rest_of clauses z.0 in let u = z.2.1.0 in let w = f.0 u z.2.1.1 in (
      r ++ w.0,
      (z.0, z.1, z.2.0, record { tail = w.0; union = w.1; is = refl }),
      same_set_trans d (u ++ r) (base ++ (r ++ w.0)) z.2.1.2 (same_set_trans (u ++ r) ((base ++ w.0) ++ r) (base ++ (r ++ w.0)) (same_left u (base ++ w.0) r w.2) (moved base w.0 r)),
    )),
    λ d p.
        let q = p.1 in let r = rest_of clauses q.0 in let t = q.3.tail in
        let w = f.1 (base ++ t) (t, q.3.union, same_set_refl (base ++ t)) in
        let s : SameSet d (base ++ (r ++ t)) = subst (λ v. SameSet d (base ++ v)) q.3.is p.2 in
        let back = moved base t r in
        g.1 d (
          q.0,
          q.1,
          (
            q.2,
            (
              w.0,
              w.1,
              same_set_trans d (base ++ (r ++ t)) (w.0 ++ r) s
                  (same_set_trans (base ++ (r ++ t)) ((base ++ t) ++ r) (w.0 ++ r) (back.1, back.0) (same_left (base ++ t) w.0 r (w.2.1, w.2.0))),
            ),
          ),
        ),
  )

  -- ---- the walk from the last atom to the first

  drop_all : (atoms : List ℕ) → drop (length atoms) atoms ≡ []
  drop_all [] = refl
  drop_all (a ∷ atoms) = drop_all atoms

  drop_one : (atoms : List ℕ) (i : ℕ) → i < length atoms → drop i atoms ≡ get_or atoms i 0 ∷ drop (suc i) atoms
  drop_one [] i l = absurd (omega arith)
  drop_one (a ∷ atoms) zero l = refl
  drop_one (a ∷ atoms) (suc i) l = drop_one atoms i (omega arith)

  -- the atoms from place j on were gone through
  abbrev pub IsThrough : List ℕ → ℕ → List (List Elem) → Type 0
  IsThrough atoms j found = (j ≤ length atoms) × Are (drop j atoms) found

  pub through_none : (atoms : List ℕ) (c : List Elem) (old found : List (List Elem)) → c ≡ base → old ≡ [] → found ≡ old ++ c ∷ [] → IsThrough atoms (length atoms) found
  through_none atoms c old found e f g =
      (omega arith, subst (λ w. Are w found) (sym (drop_all atoms)) (subst (Are []) (sym (g ∙ ap (λ w. w ++ c ∷ []) f)) (none_are c e)))

  pub through_more : (atoms : List ℕ) (i j a : ℕ) (found more : List (List Elem)) → j ≡ i + 1 → a ≡ get_or atoms i a → IsThrough atoms j found
      → AreThose (ByOne (IsJoinBy clauses a found) partners) more → IsThrough atoms i more
  through_more atoms i j a found more e r t g =
      let l : i < length atoms = omega (arith, t.0) in
      let s : j ≡ suc i = omega arith in
      let at : a ≡ get_or atoms i 0 = get_or_read atoms i a l r 0 in
      (omega arith, subst (λ w. Are w more) (ap (λ w. w ∷ drop (suc i) atoms) at ∙ sym (drop_one atoms i l)) (one_more a (drop (suc i) atoms) found more (subst (λ k. Are (drop k atoms) found) s t.1) g))

  pub through_all : (atoms : List ℕ) (j : ℕ) (found : List (List Elem)) → j ≤ 0 → IsThrough atoms j found → AreThose (IsUnion clauses partners atoms base) found
  through_all atoms j found l t = let z : j ≡ 0 = omega arith in subst (λ k. Are (drop k atoms) found) z t.1

  -- ---- conclusions

  -- from the unions, with the right side
  pub unions_conclude : (taken right : List ℕ) (found : List (List Elem)) (Done : Type 0) (old new : List (List Elem)) → AreThose (IsUnion clauses partners taken base) found
      → Appends Among (ByOne (IsJoin (map Plain right)) found) Done old new → Appends Among (IsConFrom clauses partners taken base right) Done old new
  unions_conclude taken right found Done old new f a =
      let rights : List Elem = map Plain right in
      otherwise (ByOne (IsJoin rights) found) (IsConFrom clauses partners taken base right) Done Done old new
      (λ d p. let w = f.0 p.0 p.1 in (w.0, w.1, same_set_trans d (p.0 ++ rights) ((base ++ w.0) ++ rights) p.2 (same_left p.0 (base ++ w.0) rights w.2)))
      (λ h d p.
      let u : List Elem = base ++ p.0 in
      let w = f.1 u (p.0, p.1, same_set_refl u) in
      (w.0, w.1, same_set_trans d (u ++ rights) (w.0 ++ rights) p.2 (same_left u w.0 rights (w.2.1, w.2.0))))
      (λ h. h) a

  -- from the base alone, where no atom is left
  pub base_concludes : (taken right : List ℕ) (Done : Type 0) (old new : List (List Elem)) → taken ≡ []
      → Appends Among (IsJoin (map Plain right) base) Done old new → Appends Among (IsConFrom clauses partners taken base right) Done old new
  base_concludes taken right Done old new e a =
      let rights : List Elem = map Plain right in
      subst (λ w. Appends Among (IsConFrom clauses partners w base right) Done old new) (sym e)
      (otherwise (IsJoin rights base) (IsConFrom clauses partners [] base right) Done Done old new
      (λ d p. ([], refl, subst (λ w. SameSet d (w ++ rights)) (sym (append-nil base)) p))
      (λ h d p. subst (λ w. SameSet d (w ++ rights)) (ap (λ w. base ++ w) p.1 ∙ append-nil base) p.2)
      (λ h. h) a)
