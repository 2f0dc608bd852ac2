-- Where each atom has what it stands for, the axioms of the expressions are true.
use Rattle.std.proofs.Common.{◌≡◌, ℕ, ◌<◌, Bool, true, false, not, ◌&&◌, ◌||◌, ◌==◌, List, [], ◌∷◌, ◌++◌, map, refl, sym, ap, subst, ◌∙◌, inl, inr}
use Rattle.std.specs.List.{list_all, list_any}
use Rattle.std.proofs.lemmas.Bool.{and_parts, or_left, or_right}
use Rattle.cd_meaning.specs.declared.expression.Expr.{Expr}
use Rattle.cd_meaning.specs.declared.expression.Expr.TheVariants.{Name, Meet, Join, Minus, SomeOf, AllOf}
use Rattle.cd_meaning.specs.declared.interpretation.Interpretation.{Interpretation}
use Rattle.cd_meaning.specs.Membership.{class_has, member}
use Rattle.cd_meaning.specs.Truth.{has_edge}
use Rattle.cd_meaning.specs.MembershipTable.{member-Name, member-Meet, member-Join, member-Minus, member-SomeOf, member-AllOf}
use Rattle.cd_nnf.specs.Nnf.{nnf_not}
use Rattle.cd_nnf.proofs.Members.{nnf_not_other}
use Rattle.cd_nnf.specs.NnfTable.{nnf_not-AllOf}
use Rattle.cd_base.specs.Lists.{OneOf}
use Rattle.cd_meaning.specs.NormalAxioms.{NormalAxiom, n2, n3, n4, implies, triple, in_atom, HoldsNormal, AllHold}
use Rattle.cd_normal.specs.Represents.{Label, use_of, rest_of, Represents, RepresentsEach, by_name, pos_minus, pos_meet, pos_join, pos_some, pos_all, neg_minus, neg_meet, neg_join, neg_some, neg_all, at_end, and_then}
use Rattle.cd_normal.proofs.Tests.{Paired, member_cases, map_member, all_member, any_by_member, true_or_false, not_true, source_within, target_within, some_edge, by_edge, at_edge}
use Rattle.cd_normal.proofs.Extend.{kind_test}

pub one_all : (b : Bool) → (b && true) ≡ true → b ≡ true
one_all true h = refl
one_all false h = h

twice : (b : Bool) → not (not b) ≡ b
twice true = refl
twice false = refl

pub one_any : (b : Bool) → b ≡ true → (b || false) ≡ true
one_any b h = or_left b false h

-- i is of the document, j of the normal axioms, over the same elements and edges
module _ (i j : Interpretation) (size : j.size ≡ i.size) (roles : j.roles ≡ i.roles) where
  abbrev pub Same : Expr → ℕ → Type 0
  Same e a = (x : ℕ) → x < i.size → in_atom j a x ≡ member i e x

  pub edge_in : (r x y : ℕ) → has_edge j r x y ≡ true → has_edge i r x y ≡ true
  edge_in r x y h = subst (λ l. list_any (λ edge. (edge.role == r && edge.source == x) && edge.target == y) l ≡ true) roles h

  pub edge_out : (r x y : ℕ) → has_edge i r x y ≡ true → has_edge j r x y ≡ true
  edge_out r x y h = subst (λ l. list_any (λ edge. (edge.role == r && edge.source == x) && edge.target == y) l ≡ true) (sym roles) h

  pub within : (x : ℕ) → x < j.size → x < i.size
  within x l = subst (λ n. x < n) size l

  at_e : (e d : Expr) (x : ℕ) → e ≡ d → member i e x ≡ member i d x
  at_e e d x is = ap (λ (c : Expr). member i c x) is

  pub all_same : (es : List Expr) (ys : List ℕ) → Paired Same es ys → (x : ℕ) → x < i.size → list_all (λ y. in_atom j y x) ys ≡ list_all (λ e. member i e x) es
  all_same [] [] s x l = refl
  all_same [] (y ∷ ys) s x l = absurd s
  all_same (e ∷ es) [] s x l = absurd s
  all_same (e ∷ es) (y ∷ ys) s x l = ap (λ b. b && list_all (λ y. in_atom j y x) ys) (s.0 x l) ∙ ap (λ b. member i e x && b) (all_same es ys s.1 x l)

  pub any_same : (es : List Expr) (ys : List ℕ) → Paired Same es ys → (x : ℕ) → x < i.size → list_any (λ y. in_atom j y x) ys ≡ list_any (λ e. member i e x) es
  any_same [] [] s x l = refl
  any_same [] (y ∷ ys) s x l = absurd s
  any_same (e ∷ es) [] s x l = absurd s
  any_same (e ∷ es) (y ∷ ys) s x l = ap (λ b. b || list_any (λ y. in_atom j y x) ys) (s.0 x l) ∙ ap (λ b. member i e x || b) (any_same es ys s.1 x l)

  pub add : (a : NormalAxiom) (more : List NormalAxiom) → HoldsNormal j a → AllHold j more → AllHold j (a ∷ more)
  add a more t h b (inl is) = subst (HoldsNormal j) (sym is) t
  add a more t h b (inr m) = h b m

  pub join : (l m : List NormalAxiom) → AllHold j l → AllHold j m → AllHold j (l ++ m)
  join l m t h a k = elim (member_cases a l m k) [ inl p ↦ t a p | inr q ↦ h a q ]

  pub none : AllHold j []
  none a m = absurd m

  pub mapped : (f : ℕ → NormalAxiom) (ys : List ℕ) → ((y : ℕ) → OneOf y ys → HoldsNormal j (f y)) → AllHold j (map f ys)
  mapped f ys h a m = let r = map_member f a ys m in subst (HoldsNormal j) (sym r.2) (h r.0 r.1)

  pub become : (axs bs : List NormalAxiom) → axs ≡ bs → AllHold j bs → AllHold j axs
  become axs bs is h = subst (AllHold j) (sym is) h

  pub step_true : (a b : ℕ) → ((x : ℕ) → x < i.size → in_atom j a x ≡ true → in_atom j b x ≡ true) → HoldsNormal j (implies (a ∷ []) (b ∷ []))
  step_true a b h x l p = one_any (in_atom j b x) (h x (within x l) (one_all (in_atom j a x) p))

  pub clash_true : (a b : ℕ) → ((x : ℕ) → x < i.size → in_atom j a x ≡ true → in_atom j b x ≡ true → ⊥) → HoldsNormal j (implies (a ∷ b ∷ []) [])
  clash_true a b h x l p = let q = and_parts (in_atom j a x) (in_atom j b x && true) p in absurd (h x (within x l) q.0 (one_all (in_atom j b x) q.1))

  pub either_true : (a b : ℕ) → ((x : ℕ) → x < i.size → in_atom j a x ≡ not (in_atom j b x)) → HoldsNormal j (implies [] (a ∷ b ∷ []))
  either_true a b h x l p = elim (true_or_false (in_atom j b x)) [
    | inl t ↦ or_right (in_atom j a x) (in_atom j b x || false) (one_any (in_atom j b x) t)
    | inr f ↦ or_left (in_atom j a x) (in_atom j b x || false) (h x (within x l) ∙ ap not f)
  ]

  module _ (classes : ℕ) (Fresh : ℕ → Label → Type 0)
      (names : (c x : ℕ) → c < classes → x < i.size → in_atom j c x ≡ class_has i c x)
      (fresh_has : (a : ℕ) (kind : Label) → Fresh a kind → (x : ℕ) → x < i.size → in_atom j a x ≡ kind_test i kind x) where
    pub name_same : (c : ℕ) → c < classes → Same (Name c) c
    name_same c below x l = names c x below l ∙ sym (member-Name i x c)

    pub same : {sign : Bool} {e : Expr} {a : ℕ} {axs : List NormalAxiom} → Represents classes Fresh sign e a axs → Same e a
    same {sign} {e} {a} {axs} (by_name below is gives) = λ x l. name_same a below x l ∙ sym (at_e e (Name a) x is)
    same {sign} {e} {a} {axs} (pos_minus c below is fresh gives) = fresh_has a (use_of true e) fresh
    same {sign} {e} {a} {axs} (pos_meet parts ys more is fresh u gives) = fresh_has a (use_of true e) fresh
    same {sign} {e} {a} {axs} (pos_join parts ys more is fresh u gives) = fresh_has a (use_of true e) fresh
    same {sign} {e} {a} {axs} (pos_some r part y more is fresh u gives) = fresh_has a (use_of true e) fresh
    same {sign} {e} {a} {axs} (pos_all r part y more is fresh u gives) = fresh_has a (use_of true e) fresh
    same {sign} {e} {a} {axs} (neg_minus c below is fresh gives) = fresh_has a (use_of false e) fresh
    same {sign} {e} {a} {axs} (neg_meet parts ys more is fresh u gives) = fresh_has a (use_of false e) fresh
    same {sign} {e} {a} {axs} (neg_join parts ys more is fresh u gives) = fresh_has a (use_of false e) fresh
    same {sign} {e} {a} {axs} (neg_some r part y more is fresh u gives) = fresh_has a (use_of false e) fresh
    same {sign} {e} {a} {axs} (neg_all r part y z more is fresh rest u gives) = fresh_has a (use_of false e) fresh

    pub same_each : {sign : Bool} {es : List Expr} {xs : List ℕ} {axs : List NormalAxiom} → RepresentsEach classes Fresh sign es xs axs → Paired Same es xs
    same_each at_end = tt
    same_each (and_then here more u v) = (same u, same_each v)

    mutual
      pub fits : {sign : Bool} {e : Expr} {a : ℕ} {axs : List NormalAxiom} → Represents classes Fresh sign e a axs → AllHold j axs
      fits {sign} {e} {a} {axs} (by_name below is gives) = become axs _ gives none
      fits {sign} {e} {a} {axs} (pos_minus c below is fresh gives) = become axs _ gives
          (add (implies (a ∷ c ∷ []) []) [] (clash_true a c (λ x l p q.
          not_true (member i (Name c) x) (sym (member-Minus i x (Name c)) ∙ sym (at_e e (Minus (Name c)) x is) ∙ sym (fresh_has a (use_of true e) fresh x l) ∙ p) (sym (name_same c below x l) ∙ q))) none)
      fits {sign} {e} {a} {axs} (pos_meet parts ys more is fresh u gives) = become axs _ gives
          (join (map (λ y. implies (a ∷ []) (y ∷ [])) ys) more
          (mapped (λ y. implies (a ∷ []) (y ∷ [])) ys (λ y m. step_true a y (λ x l p.
          all_member (λ y. in_atom j y x) ys (all_same parts ys (same_each u) x l ∙ sym (member-Meet i x parts) ∙ sym (at_e e (Meet parts) x is) ∙ sym (fresh_has a (use_of true e) fresh x l) ∙ p) y m)))
          (fits_each u))
      fits {sign} {e} {a} {axs} (pos_join parts ys more is fresh u gives) = become axs _ gives
          (add (implies (a ∷ []) ys) more (λ x l p.
          any_same parts ys (same_each u) x (within x l) ∙ sym (member-Join i x parts) ∙ sym (at_e e (Join parts) x is) ∙ sym (fresh_has a (use_of true e) fresh x (within x l)) ∙ one_all (in_atom j a x) p)
          (fits_each u))
      fits {sign} {e} {a} {axs} (pos_some r part y more is fresh u gives) = become axs _ gives
          (add (n2 (triple a r y)) more (λ x l p.
          let w = some_edge i r x (member i part) (sym (member-SomeOf i x r part) ∙ sym (at_e e (SomeOf r part) x is) ∙ sym (fresh_has a (use_of true e) fresh x (within x l)) ∙ p) in
          (w.0, edge_out r x w.0 w.1, same u w.0 (target_within i r x w.0 w.1) ∙ w.2))
          (fits u))
      fits {sign} {e} {a} {axs} (pos_all r part y more is fresh u gives) = become axs _ gives
          (add (n4 (triple a r y)) more (λ x z edge p.
          let g = edge_in r x z edge in
          same u z (target_within i r x z g) ∙ at_edge i r x (member i part)
          (sym (member-AllOf i x r part) ∙ sym (at_e e (AllOf r part) x is) ∙ sym (fresh_has a (use_of true e) fresh x (source_within i r x z g)) ∙ p) z g)
          (fits u))
      fits {sign} {e} {a} {axs} (neg_minus c below is fresh gives) = become axs _ gives
          (add (implies [] (a ∷ c ∷ [])) [] (either_true a c (λ x l.
          fresh_has a (use_of false e) fresh x l ∙ at_e e (Minus (Name c)) x is ∙ member-Minus i x (Name c) ∙ ap not (sym (name_same c below x l)))) none)
      fits {sign} {e} {a} {axs} (neg_meet parts ys more is fresh u gives) = become axs _ gives
          (add (implies ys (a ∷ [])) more (λ x l p. one_any (in_atom j a x)
          (fresh_has a (use_of false e) fresh x (within x l) ∙ at_e e (Meet parts) x is ∙ member-Meet i x parts ∙ sym (all_same parts ys (same_each u) x (within x l)) ∙ p))
          (fits_each u))
      fits {sign} {e} {a} {axs} (neg_join parts ys more is fresh u gives) = become axs _ gives
          (join (map (λ y. implies (y ∷ []) (a ∷ [])) ys) more
          (mapped (λ y. implies (y ∷ []) (a ∷ [])) ys (λ y m. step_true y a (λ x l p.
          fresh_has a (use_of false e) fresh x l ∙ at_e e (Join parts) x is ∙ member-Join i x parts ∙ sym (any_same parts ys (same_each u) x l) ∙ any_by_member (λ y. in_atom j y x) ys y m p)))
          (fits_each u))
      fits {sign} {e} {a} {axs} (neg_some r part y more is fresh u gives) = become axs _ gives
          (add (n3 (triple y r a)) more (λ x z edge p.
          let g = edge_in r x z edge in
          fresh_has a (use_of false e) fresh x (source_within i r x z g) ∙ at_e e (SomeOf r part) x is ∙ member-SomeOf i x r part
          ∙ by_edge i r x (member i part) z g (sym (same u z (target_within i r x z g)) ∙ p))
          (fits u))
      fits {sign} {e} {a} {axs} (neg_all r part y z more is fresh rest u gives) = become axs _ gives
          (add (implies [] (a ∷ y ∷ [])) (n2 (triple y r z) ∷ more)
          (either_true a y (λ x l. fresh_has a (use_of false e) fresh x l ∙ sym (twice (member i e x)) ∙ ap not (sym (fresh_has y (rest_of a e) rest x l))))
          (add (n2 (triple y r z)) more (λ x l p.
          let w = some_edge i r x (member i (nnf_not part))
          (sym (member-SomeOf i x r (nnf_not part)) ∙ ap (λ (d : Expr). member i d x) (sym (nnf_not-AllOf r part)) ∙ nnf_not_other i (AllOf r part) x
          ∙ ap not (sym (at_e e (AllOf r part) x is)) ∙ sym (fresh_has y (rest_of a e) rest x (within x l)) ∙ p) in
          (w.0, edge_out r x w.0 w.1, same u w.0 (target_within i r x w.0 w.1) ∙ w.2))
          (fits u)))

      pub fits_each : {sign : Bool} {es : List Expr} {xs : List ℕ} {axs : List NormalAxiom} → RepresentsEach classes Fresh sign es xs axs → AllHold j axs
      fits_each at_end = none
      fits_each (and_then here more u v) = join here more (fits u) (fits_each v)
