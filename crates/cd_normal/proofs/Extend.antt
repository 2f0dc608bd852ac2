-- An interpretation of the document, with the fresh atoms listed.
use Rattle.std.proofs.Common.{◌≡◌, ℕ, zero, suc, ◌+◌, ◌-◌, ◌<◌, Bool, true, false, not, cond, ◌&&◌, ◌==◌, nat_lt, List, [], ◌∷◌, length, get_or, refl, sym, ap, subst, ◌∙◌, inl, inr, arith, eqb-true, eq-eqb, lt-ltb, le-ltb}
use Rattle.std.specs.List.{list_any}
use Rattle.std.proofs.lemmas.Bool.{and_parts, and_from}
use Rattle.cd_meaning.specs.declared.expression.Expr.TheVariants.{Name}
use Rattle.cd_meaning.specs.declared.interpretation.Interpretation.{Interpretation}
use Rattle.cd_meaning.specs.declared.interpretation.Member as listing
use Rattle.cd_meaning.specs.Membership.{class_has, member}
use Rattle.cd_base.specs.Lists.{OneOf, collect}
use Rattle.cd_meaning.specs.NormalAxioms.{in_atom}
use Rattle.cd_normal.specs.Represents.{Label, use_of, rest_of, chain_of}
use Rattle.cd_normal.specs.NormalForm.{IsFresh}
use Rattle.cd_normal.proofs.Tests.{member_left, member_right, member_cases, all_from_member, any_by_member, any_member, true_or_false, same_tests}

-- ---- listing what passes a test

abbrev pub upto : ℕ → List ℕ
upto zero = []
upto (suc n) = n ∷ upto n

pub upto_has : (n a : ℕ) → a < n → OneOf a (upto n)
upto_has zero a l = absurd (omega arith)
upto_has (suc n) a l = elim (true_or_false (a == n)) [ inl e ↦ inl (eqb-true a n e) | inr e ↦ inr (upto_has n a (below e)) ]
  where
    below : (a == n) ≡ false → a < n
    below e = grind (arith, e)

pub upto_below : (n a : ℕ) → OneOf a (upto n) → a < n
upto_below zero a m = absurd m
upto_below (suc n) a (inl e) = omega arith
upto_below (suc n) a (inr m) = let l = upto_below n a m in omega arith

pub member_collect : {X Y : Type 0} (f : X → List Y) (x : X) (y : Y) (xs : List X) → OneOf x xs → OneOf y (f x) → OneOf y (collect f xs)
member_collect f x y [] m h = absurd m
member_collect f x y (z ∷ xs) (inl e) h = member_left y (f z) (collect f xs) (subst (λ w. OneOf y (f w)) e h)
member_collect f x y (z ∷ xs) (inr m) h = member_right y (f z) (collect f xs) (member_collect f x y xs m h)

pub collect_member : {X Y : Type 0} (f : X → List Y) (y : Y) (xs : List X) → OneOf y (collect f xs) → (x : X) × OneOf x xs × OneOf y (f x)
collect_member f y [] m = absurd m
collect_member f y (z ∷ xs) m =
    elim (member_cases y (f z) (collect f xs) m) [ inl p ↦ (z, inl refl, p) | inr q ↦ (let r = collect_member f y xs q in (r.0, inr r.1, r.2)) ]

cond_member : {X : Type 0} (b : Bool) (x : X) (xs : List X) → OneOf x (cond b xs []) → (b ≡ true) × OneOf x xs
cond_member true x xs m = (refl, m)
cond_member false x xs m = absurd m

member_cond : {X : Type 0} (b : Bool) (x : X) (xs : List X) → b ≡ true → OneOf x xs → OneOf x (cond b xs [])
member_cond b x xs e m = subst (λ t. OneOf x (cond t xs [])) (sym e) m

abbrev pub Listed : Type 0
Listed = listing.Member

abbrev pub entry : ℕ → ℕ → Listed
entry a x = record { class = a; element = x }

module _ (size : ℕ) (test : ℕ → ℕ → Bool) where
  abbrev row : ℕ → List Listed
  row a = collect (λ x. cond (test a x) (entry a x ∷ []) []) (upto size)

  abbrev pub table : ℕ → List Listed
  table atoms = collect row (upto atoms)

  pub table_from : (atoms a x : ℕ) → a < atoms → x < size → test a x ≡ true → OneOf (entry a x) (table atoms)
  table_from atoms a x la lx h = member_collect row a (entry a x) (upto atoms) (upto_has atoms a la)
      (member_collect (λ x. cond (test a x) (entry a x ∷ []) []) x (entry a x) (upto size) (upto_has size x lx) (member_cond (test a x) (entry a x) (entry a x ∷ []) h (inl refl)))

  pub table_has : (atoms : ℕ) (m : Listed) → OneOf m (table atoms) → (m.element < size) × (test m.class m.element ≡ true)
  table_has atoms m k =
      let r = collect_member row m (upto atoms) k in
      let s = collect_member (λ x. cond (test r.0 x) (entry r.0 x ∷ []) []) m (upto size) r.2 in
      let c = cond_member (test r.0 s.0) m (entry r.0 s.0 ∷ []) s.2 in
      let is : m ≡ entry r.0 s.0 = elim c.1 [ inl e ↦ e | inr z ↦ absurd z ] in
      let ec : m.class ≡ r.0 = ap (λ (w : Listed). w.class) is in
      let ee : m.element ≡ s.0 = ap (λ (w : Listed). w.element) is in
      (subst (λ z. z < size) (sym ee) (upto_below size s.0 s.1), ap (λ z. test z m.element) ec ∙ ap (λ z. test r.0 z) ee ∙ c.0)

  pub table_test : (atoms a x : ℕ) → a < atoms → x < size → list_any (λ (m : Listed). m.class == a && m.element == x) (table atoms) ≡ test a x
  table_test atoms a x la lx = same_tests (list_any (λ (m : Listed). m.class == a && m.element == x) (table atoms)) (test a x)
      (λ h.
      let w = any_member (λ (m : Listed). m.class == a && m.element == x) (table atoms) h in
      let p = and_parts (w.0.class == a) (w.0.element == x) w.2 in
      ap (λ z. test z x) (sym (eqb-true w.0.class a p.0)) ∙ ap (λ z. test w.0.class z) (sym (eqb-true w.0.element x p.1)) ∙ (table_has atoms w.0 w.1).1)
      (λ h. any_by_member (λ (m : Listed). m.class == a && m.element == x) (table atoms) (entry a x) (table_from atoms a x la lx h) (and_from (a == a) (x == x) (eq-eqb a a refl) (eq-eqb x x refl)))

-- ---- what a fresh atom has

abbrev pub kind_test : Interpretation → Label → ℕ → Bool
kind_test i (use_of sign e) x = member i e x
kind_test i (rest_of a e) x = not (member i e x)
kind_test i (chain_of k es) x = list_any (λ e. member i e x) es

abbrev pub atom_test : Interpretation → ℕ → List Label → ℕ → ℕ → Bool
atom_test i classes labels a x = cond (nat_lt a classes) (class_has i a x) (kind_test i (get_or labels (a - classes) (use_of true (Name 0))) x)

abbrev pub extended : (i : Interpretation) → ℕ → List Label → Interpretation
extended i classes labels = record {
  size = i.size;
  classes = table i.size (atom_test i classes labels) (classes + length labels);
  roles = i.roles;
  inhabited = i.inhabited;
  members = all_from_member (λ (m : Listed). m.element < i.size) (table i.size (atom_test i classes labels) (classes + length labels)) (λ m k. (table_has i.size (atom_test i classes labels) (classes + length labels) m k).0);
  sources = i.sources;
  targets = i.targets;
}

pub extended_names : (i : Interpretation) (classes : ℕ) (labels : List Label) (c x : ℕ) → c < classes → x < i.size → in_atom (extended i classes labels) c x ≡ class_has i c x
extended_names i classes labels c x below l =
    table_test i.size (atom_test i classes labels) (classes + length labels) c x (omega (arith, below)) l
    ∙ ap (λ b. cond b (class_has i c x) (kind_test i (get_or labels (c - classes) (use_of true (Name 0))) x)) (lt-ltb c classes below)

pub extended_fresh : (i : Interpretation) (classes : ℕ) (labels : List Label) (a : ℕ) (kind : Label) → IsFresh classes labels a kind → (x : ℕ) → x < i.size → in_atom (extended i classes labels) a x ≡ kind_test i kind x
extended_fresh i classes labels a kind (n, is, l, at) x within =
    table_test i.size (atom_test i classes labels) (classes + length labels) a x (omega (arith, is, l)) within
    ∙ ap (λ b. cond b (class_has i a x) (kind_test i (get_or labels (a - classes) (use_of true (Name 0))) x)) (le-ltb a classes (omega (arith, is)))
    ∙ ap (λ z. kind_test i (get_or labels z (use_of true (Name 0))) x) (omega (arith, is))
    ∙ ap (λ (k : Label). kind_test i k x) (at (use_of true (Name 0)))
