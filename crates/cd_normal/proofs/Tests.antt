-- Tests over lists, edges and members.
use Rattle.std.proofs.Common.{◌≡◌, ℕ, Bool, true, not, ◌==◌, List, [], ◌∷◌, refl, sym, ap, subst, ◌∙◌, inl, inr, eqb-true, eq-eqb}
use Rattle.std.specs.List.{list_all, list_any}
use Rattle.std.proofs.lemmas.Bool.{and_parts, and_from, or_cases, or_left, or_right}
use Rattle.cd_meaning.specs.declared.interpretation.Interpretation.{Interpretation}
use Rattle.cd_meaning.specs.Membership.{goes, leads, keeps}
use Rattle.cd_meaning.specs.Truth.{has_edge}
use Rattle.cd_base.specs.Lists.{OneOf}
pub use Rattle.cd_base.proofs.Members.{member_left, member_right, member_cases, member_map, map_member, all_by_member, all_member, any_by_member, any_member, all_of_member, all_from_member, true_or_false, not_true, same_tests}
pub use Rattle.cd_meaning.proofs.Edges.{edge_of, edge_from, source_within, target_within}
use Rattle.cd_normal.specs.NormalForm.{circle_from, circle}

-- R holds between the two lists, element by element
abbrev pub Paired : {X : Type 0} → (X → ℕ → Type 0) → List X → List ℕ → Type 0
Paired R [] [] = Unit {0}
Paired R [] (y ∷ ys) = ⊥
Paired R (x ∷ xs) [] = ⊥
Paired R (x ∷ xs) (y ∷ ys) = R x y × Paired R xs ys

-- around a circle each has what the others have
module _ {X A : Type 0} (link : ℕ → ℕ → A) (P : X → Type 0) (T : A → Type 0) (From To : X → ℕ → Type 0)
    (go : (e f : X) (x y : ℕ) → From e x → To f y → T (link x y) → P e → P f) where
  around_from : (first e : X) (start x : ℕ) (es : List X) (xs ys : List ℕ) → To first start → From e x → Paired From es xs → Paired To es ys
      → ((a : A) → OneOf a (circle_from link x xs ys start) → T a) → (d : X) → OneOf d (e ∷ es) → (P e → P d) × (P d → P first)
  around_from first e start x [] [] ys to from fs ts t d (inl is) = (subst P (sym is), λ h. go e first x start from to (t (link x start) (inl refl)) (subst P is h))
  around_from first e start x [] [] ys to from fs ts t d (inr m) = absurd m
  around_from first e start x [] (z ∷ xs) ys to from fs ts t d m = absurd fs
  around_from first e start x (f ∷ es) [] ys to from fs ts t d m = absurd fs
  around_from first e start x (f ∷ es) (z ∷ xs) [] to from fs ts t d m = absurd ts
  around_from first e start x (f ∷ es) (z ∷ xs) (y ∷ ys) to from fs ts t d m =
      let next : P e → P f = go e f x y from ts.0 (t (link x y) (inl refl)) in
      let later : (d : X) → OneOf d (f ∷ es) → (P f → P d) × (P d → P first) = around_from first f start z es xs ys to fs.0 fs.1 ts.1 (λ a k. t a (inr k)) in
      elim m [
        | inl is ↦ (subst P (sym is), λ h. (later f (inl refl)).1 (next (subst P is h)))
        | inr k ↦ (λ h. (later d k).0 (next h), (later d k).1)
      ]

  pub around : (es : List X) (xs ys : List ℕ) → Paired From es xs → Paired To es ys → ((a : A) → OneOf a (circle link xs ys) → T a)
      → (c d : X) → OneOf c es → OneOf d es → P c → P d
  around [] xs ys fs ts t c d m k h = absurd m
  around (e ∷ es) [] ys fs ts t c d m k h = absurd fs
  around (e ∷ es) (x ∷ xs) [] fs ts t c d m k h = absurd ts
  around (e ∷ es) (x ∷ xs) (y ∷ ys) fs ts t c d m k h =
      let all : (d : X) → OneOf d (e ∷ es) → (P e → P d) × (P d → P e) = around_from e e y x es xs ys ts.0 fs.0 fs.1 ts.1 t in
      (all d k).0 ((all c m).1 h)

module _ (i : Interpretation) where
  module _ (r x : ℕ) (P : ℕ → Bool) where
    pub some_edge : list_any (leads r x P) i.roles ≡ true → (y : ℕ) × (has_edge i r x y ≡ true) × (P y ≡ true)
    some_edge h =
        let w = any_member (leads r x P) i.roles h in
        let p = and_parts (goes w.0 r x) (P w.0.target) w.2 in
        let q = and_parts (w.0.role == r) (w.0.source == x) p.0 in
        (w.0.target, edge_from i w.0 r x w.0.target w.1 (eqb-true w.0.role r q.0) (eqb-true w.0.source x q.1) refl, p.1)

    pub by_edge : (y : ℕ) → has_edge i r x y ≡ true → P y ≡ true → list_any (leads r x P) i.roles ≡ true
    by_edge y h e =
        let w = edge_of i r x y h in
        any_by_member (leads r x P) i.roles w.0 w.1
        (and_from (goes w.0 r x) (P w.0.target) (and_from (w.0.role == r) (w.0.source == x) (eq-eqb w.0.role r w.2) (eq-eqb w.0.source x w.3)) (ap P w.4 ∙ e))

    pub by_edges : ((y : ℕ) → has_edge i r x y ≡ true → P y ≡ true) → list_all (keeps r x P) i.roles ≡ true
    by_edges h = all_by_member (keeps r x P) i.roles (λ edge m. elim (true_or_false (goes edge r x)) [
      | inl g ↦ (let q = and_parts (edge.role == r) (edge.source == x) g in
          or_right (not (goes edge r x)) (P edge.target) (h edge.target (edge_from i edge r x edge.target m (eqb-true edge.role r q.0) (eqb-true edge.source x q.1) refl)))
      | inr g ↦ or_left (not (goes edge r x)) (P edge.target) (ap not g)
    ])

    pub at_edge : list_all (keeps r x P) i.roles ≡ true → (y : ℕ) → has_edge i r x y ≡ true → P y ≡ true
    at_edge h y e =
        let w = edge_of i r x y e in
        let k = all_member (keeps r x P) i.roles h w.0 w.1 in
        let g : goes w.0 r x ≡ true = and_from (w.0.role == r) (w.0.source == x) (eq-eqb w.0.role r w.2) (eq-eqb w.0.source x w.3) in
        elim (or_cases (not (goes w.0 r x)) (P w.0.target) k) [ inl n ↦ absurd (not_true (goes w.0 r x) n g) | inr p ↦ ap P (sym w.4) ∙ p ]
