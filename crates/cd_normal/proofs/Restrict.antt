-- Where the normal axioms hold, the atoms say no less than the expressions.
use Rattle.std.proofs.Common.{◌≡◌, ℕ, ◌<◌, Bool, true, false, not, ◌&&◌, ◌||◌, List, [], ◌∷◌, map, refl, sym, ap, subst, ◌∙◌, inl, inr}
use Rattle.std.specs.List.{list_all, list_any}
use Rattle.std.proofs.lemmas.Bool.{and_parts, and_from, or_cases, or_left, or_right, false≢true}
use Rattle.cd_meaning.specs.declared.expression.Expr.{Expr}
use Rattle.cd_meaning.specs.declared.expression.Expr.TheVariants.{Name, Meet, Join, Minus, SomeOf, AllOf}
use Rattle.cd_meaning.specs.declared.interpretation.Interpretation.{Interpretation}
use Rattle.cd_meaning.specs.Membership.{class_has, member}
use Rattle.cd_meaning.specs.MembershipTable.{member-Name, member-Meet, member-Join, member-Minus, member-SomeOf, member-AllOf}
use Rattle.cd_nnf.proofs.Members.{nnf_not_other}
use Rattle.cd_base.specs.Lists.{OneOf}
use Rattle.cd_meaning.specs.NormalAxioms.{NormalAxiom, n2, n3, n4, implies, triple, in_atom, HoldsNormal, AllHold}
use Rattle.cd_normal.specs.Represents.{Label, Represents, RepresentsEach, by_name, pos_minus, pos_meet, pos_join, pos_some, pos_all, neg_minus, neg_meet, neg_join, neg_some, neg_all, at_end, and_then}
use Rattle.cd_normal.proofs.Tests.{Paired, member_left, member_right, member_map, all_by_member, any_member, true_or_false, not_true, target_within, some_edge, by_edge, by_edges, at_edge}

module _ (i : Interpretation) where
  -- the atom is within the expression (true), or has all of it (false)
  abbrev pub IsSound : Bool → Expr → ℕ → Type 0
  IsSound true e a = (x : ℕ) → x < i.size → in_atom i a x ≡ true → member i e x ≡ true
  IsSound false e a = (x : ℕ) → x < i.size → member i e x ≡ true → in_atom i a x ≡ true

  abbrev pub EachSound : Bool → List Expr → List ℕ → Type 0
  EachSound sign = Paired (IsSound sign)

  at_e : (e d : Expr) (x : ℕ) → e ≡ d → member i e x ≡ member i d x
  at_e e d x is = ap (λ (c : Expr). member i c x) is

  has : (axs bs : List NormalAxiom) → axs ≡ bs → AllHold i axs → (a : NormalAxiom) → OneOf a bs → HoldsNormal i a
  has axs bs is h a m = h a (subst (OneOf a) (sym is) m)

  pub all_down : (es : List Expr) (ys : List ℕ) → EachSound true es ys → (x : ℕ) → x < i.size → list_all (λ y. in_atom i y x) ys ≡ true → list_all (λ e. member i e x) es ≡ true
  all_down [] ys s x l h = refl
  all_down (e ∷ es) [] s x l h = absurd s
  all_down (e ∷ es) (y ∷ ys) s x l h =
      let p = and_parts (in_atom i y x) (list_all (λ y. in_atom i y x) ys) h in
      and_from (member i e x) (list_all (λ e. member i e x) es) (s.0 x l p.0) (all_down es ys s.1 x l p.1)

  pub any_down : (es : List Expr) (ys : List ℕ) → EachSound true es ys → (x : ℕ) → x < i.size → list_any (λ y. in_atom i y x) ys ≡ true → list_any (λ e. member i e x) es ≡ true
  any_down [] [] s x l h = h
  any_down [] (y ∷ ys) s x l h = absurd s
  any_down (e ∷ es) [] s x l h = absurd s
  any_down (e ∷ es) (y ∷ ys) s x l h = elim (or_cases (in_atom i y x) (list_any (λ y. in_atom i y x) ys) h) [
    | inl p ↦ or_left (member i e x) (list_any (λ e. member i e x) es) (s.0 x l p)
    | inr p ↦ or_right (member i e x) (list_any (λ e. member i e x) es) (any_down es ys s.1 x l p)
  ]

  pub all_up : (es : List Expr) (ys : List ℕ) → EachSound false es ys → (x : ℕ) → x < i.size → list_all (λ e. member i e x) es ≡ true → list_all (λ y. in_atom i y x) ys ≡ true
  all_up [] [] s x l h = refl
  all_up [] (y ∷ ys) s x l h = absurd s
  all_up (e ∷ es) [] s x l h = absurd s
  all_up (e ∷ es) (y ∷ ys) s x l h =
      let p = and_parts (member i e x) (list_all (λ e. member i e x) es) h in
      and_from (in_atom i y x) (list_all (λ y. in_atom i y x) ys) (s.0 x l p.0) (all_up es ys s.1 x l p.1)

  pub any_up : (es : List Expr) (ys : List ℕ) → EachSound false es ys → (x : ℕ) → x < i.size → list_any (λ e. member i e x) es ≡ true → list_any (λ y. in_atom i y x) ys ≡ true
  any_up [] ys s x l h = absurd (false≢true h)
  any_up (e ∷ es) [] s x l h = absurd s
  any_up (e ∷ es) (y ∷ ys) s x l h = elim (or_cases (member i e x) (list_any (λ e. member i e x) es) h) [
    | inl p ↦ or_left (in_atom i y x) (list_any (λ y. in_atom i y x) ys) (s.0 x l p)
    | inr p ↦ or_right (in_atom i y x) (list_any (λ y. in_atom i y x) ys) (any_up es ys s.1 x l p)
  ]

  one_all : (b : Bool) → b ≡ true → (b && true) ≡ true
  one_all b h = and_from b true h refl

  one_any : (b : Bool) → (b || false) ≡ true → b ≡ true
  one_any true h = refl
  one_any false h = h

  -- an axiom with one atom on each side
  pub step : (a b : ℕ) → HoldsNormal i (implies (a ∷ []) (b ∷ [])) → (x : ℕ) → x < i.size → in_atom i a x ≡ true → in_atom i b x ≡ true
  step a b t x l h = one_any (in_atom i b x) (t x l (one_all (in_atom i a x) h))

  -- no element is in both
  pub clash : (a b : ℕ) → HoldsNormal i (implies (a ∷ b ∷ []) []) → (x : ℕ) → x < i.size → in_atom i a x ≡ true → in_atom i b x ≡ true → ⊥
  clash a b t x l h k = false≢true (t x l (and_from (in_atom i a x) (in_atom i b x && true) h (one_all (in_atom i b x) k)))

  -- one of the two has it
  pub either : (a b : ℕ) → HoldsNormal i (implies [] (a ∷ b ∷ [])) → (x : ℕ) → x < i.size → (in_atom i b x ≡ true → ⊥) → in_atom i a x ≡ true
  either a b t x l h = elim (or_cases (in_atom i a x) (in_atom i b x || false) (t x l refl)) [ inl p ↦ p | inr q ↦ absurd (h (one_any (in_atom i b x) q)) ]

  module _ (classes : ℕ) (Fresh : ℕ → Label → Type 0) (agree : (c x : ℕ) → c < classes → x < i.size → in_atom i c x ≡ class_has i c x) where
    named : (sign : Bool) (e : Expr) (c : ℕ) → c < classes → e ≡ Name c → IsSound sign e c
    named true e c below is = λ x l h. at_e e (Name c) x is ∙ member-Name i x c ∙ sym (agree c x below l) ∙ h
    named false e c below is = λ x l h. agree c x below l ∙ sym (member-Name i x c) ∙ sym (at_e e (Name c) x is) ∙ h

    mutual
      pub sound : {sign : Bool} {e : Expr} {a : ℕ} {axs : List NormalAxiom} → Represents classes Fresh sign e a axs → AllHold i axs → IsSound sign e a
      sound {sign} {e} {a} {axs} (by_name below is none) t = named sign e a below is
      sound {sign} {e} {a} {axs} (pos_minus c below is fresh gives) t = λ x l h.
          at_e e (Minus (Name c)) x is ∙ member-Minus i x (Name c) ∙ (elim (true_or_false (member i (Name c) x)) [
            | inl p ↦ absurd (clash a c (has axs _ gives t (implies (a ∷ c ∷ []) []) (inl refl)) x l h (agree c x below l ∙ sym (member-Name i x c) ∙ p))
            | inr p ↦ ap not p
          ])
      sound {sign} {e} {a} {axs} (pos_meet parts ys more is fresh u gives) t = λ x l h.
          at_e e (Meet parts) x is ∙ member-Meet i x parts ∙
          all_down parts ys (sound_each u (λ b m. has axs _ gives t b (member_right b (map (λ y. implies (a ∷ []) (y ∷ [])) ys) more m))) x l
          (all_by_member (λ y. in_atom i y x) ys (λ y m. step a y (has axs _ gives t (implies (a ∷ []) (y ∷ [])) (member_left (implies (a ∷ []) (y ∷ [])) (map (λ y. implies (a ∷ []) (y ∷ [])) ys) more (member_map (λ y. implies (a ∷ []) (y ∷ [])) y ys m))) x l h))
      sound {sign} {e} {a} {axs} (pos_join parts ys more is fresh u gives) t = λ x l h.
          at_e e (Join parts) x is ∙ member-Join i x parts ∙
          any_down parts ys (sound_each u (λ b m. has axs _ gives t b (inr m))) x l
          (has axs _ gives t (implies (a ∷ []) ys) (inl refl) x l (one_all (in_atom i a x) h))
      sound {sign} {e} {a} {axs} (pos_some r part y more is fresh u gives) t = λ x l h.
          let w = has axs _ gives t (n2 (triple a r y)) (inl refl) x l h in
          at_e e (SomeOf r part) x is ∙ member-SomeOf i x r part ∙
          by_edge i r x (member i part) w.0 w.1 (sound u (λ b m. has axs _ gives t b (inr m)) w.0 (target_within i r x w.0 w.1) w.2)
      sound {sign} {e} {a} {axs} (pos_all r part y more is fresh u gives) t = λ x l h.
          at_e e (AllOf r part) x is ∙ member-AllOf i x r part ∙
          by_edges i r x (member i part) (λ z edge. sound u (λ b m. has axs _ gives t b (inr m)) z (target_within i r x z edge) (has axs _ gives t (n4 (triple a r y)) (inl refl) x z edge h))
      sound {sign} {e} {a} {axs} (neg_minus c below is fresh gives) t = λ x l h.
          either a c (has axs _ gives t (implies [] (a ∷ c ∷ [])) (inl refl)) x l
          (λ k. not_true (member i (Name c) x) (sym (member-Minus i x (Name c)) ∙ sym (at_e e (Minus (Name c)) x is) ∙ h) (member-Name i x c ∙ sym (agree c x below l) ∙ k))
      sound {sign} {e} {a} {axs} (neg_meet parts ys more is fresh u gives) t = λ x l h.
          one_any (in_atom i a x) (has axs _ gives t (implies ys (a ∷ [])) (inl refl) x l
          (all_up parts ys (sound_each u (λ b m. has axs _ gives t b (inr m))) x l (sym (member-Meet i x parts) ∙ sym (at_e e (Meet parts) x is) ∙ h)))
      sound {sign} {e} {a} {axs} (neg_join parts ys more is fresh u gives) t = λ x l h.
          let w = any_member (λ y. in_atom i y x) ys
          (any_up parts ys (sound_each u (λ b m. has axs _ gives t b (member_right b (map (λ y. implies (y ∷ []) (a ∷ [])) ys) more m))) x l (sym (member-Join i x parts) ∙ sym (at_e e (Join parts) x is) ∙ h)) in
          step w.0 a (has axs _ gives t (implies (w.0 ∷ []) (a ∷ [])) (member_left (implies (w.0 ∷ []) (a ∷ [])) (map (λ y. implies (y ∷ []) (a ∷ [])) ys) more (member_map (λ y. implies (y ∷ []) (a ∷ [])) w.0 ys w.1))) x l w.2
      sound {sign} {e} {a} {axs} (neg_some r part y more is fresh u gives) t = λ x l h.
          let w = some_edge i r x (member i part) (sym (member-SomeOf i x r part) ∙ sym (at_e e (SomeOf r part) x is) ∙ h) in
          has axs _ gives t (n3 (triple y r a)) (inl refl) x w.0 w.1 (sound u (λ b m. has axs _ gives t b (inr m)) w.0 (target_within i r x w.0 w.1) w.2)
      sound {sign} {e} {a} {axs} (neg_all r part y z more is fresh rest u gives) t = λ x l h.
          either a y (has axs _ gives t (implies [] (a ∷ y ∷ [])) (inl refl)) x l
          (λ k. let w = has axs _ gives t (n2 (triple y r z)) (inr (inl refl)) x l k in
          not_true (member i part w.0)
          (sym (nnf_not_other i part w.0) ∙ sound u (λ b m. has axs _ gives t b (inr (inr m))) w.0 (target_within i r x w.0 w.1) w.2)
          (at_edge i r x (member i part) (sym (member-AllOf i x r part) ∙ sym (at_e e (AllOf r part) x is) ∙ h) w.0 w.1))

      pub sound_each : {sign : Bool} {es : List Expr} {xs : List ℕ} {axs : List NormalAxiom} → RepresentsEach classes Fresh sign es xs axs → AllHold i axs → EachSound sign es xs
      sound_each at_end t = tt
      sound_each (and_then here more u v) t = (sound u (λ b m. t b (member_left b here more m)), sound_each v (λ b m. t b (member_right b here more m)))
