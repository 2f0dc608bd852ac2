-- The atoms and roles of normal axioms are in range.
use Rattle.std.proofs.Common.{◌≡◌, ℕ, ◌<◌, ◌≤◌, ◌&&◌, Bool, true, false, nat_lt, List, [], ◌∷◌, ◌++◌, map, refl, sym, ap, subst, ◌∙◌, inl, inr, arith}
use Rattle.std.specs.List.{list_all}
use Rattle.std.proofs.lemmas.Bool.{and_parts, and_from, lt-ltb, false≢true}
use Rattle.cd_meaning.specs.declared.expression.Expr.{Expr}
use Rattle.cd_meaning.specs.declared.expression.Expr.TheVariants.{Name}
use Rattle.cd_meaning.specs.Numbered.{is_in_range}
use Rattle.cd_meaning.specs.NormalAxioms.{NormalAxiom, n1, n2, n3, n4, n5, implies, triple}
use Rattle.cd_base.specs.Lists.{OneOf}
use Rattle.cd_base.specs.Normal.{are_below, has_atoms_below, is_triple_below, has_roles_below}
use Rattle.cd_nnf.specs.Nnf.{nnf, nnf_not}
use Rattle.std.specs.List.{AllByRecursion}
use Rattle.cd_meaning.specs.Induction.{induct}
use Rattle.cd_nnf.specs.NnfTable.{nnf-Name, nnf-Minus, nnf-SomeOf, nnf-AllOf, nnf-Meet, nnf-Join, nnf_not-Meet, nnf_not-Join, nnf_not-Name, nnf_not-Minus, nnf_not-SomeOf, nnf_not-AllOf}
use Rattle.cd_normal.specs.Represents.{Label, use_of, rest_of, Represents, RepresentsEach, by_name, pos_minus, pos_meet, pos_join, pos_some, pos_all, neg_minus, neg_meet, neg_join, neg_some, neg_all, at_end, and_then}
use Rattle.cd_normal.proofs.Tests.{all_by_member, all_member, member_cases, map_member}
use Rattle.cd_meaning.specs.NodesTable.{below-Minus, below-Meet, below-Join, below-SomeOf, below-AllOf}

-- the two normal forms have the numbers of the expression
module _ (classes roles : ℕ) where
  abbrev KeepsNumbers : Expr → Type 0
  KeepsNumbers e = (is_in_range classes roles (nnf e) ≡ is_in_range classes roles e) × (is_in_range classes roles (nnf_not e) ≡ is_in_range classes roles e)

  all_left : (parts : List Expr) → AllByRecursion KeepsNumbers parts → list_all (is_in_range classes roles) (map nnf parts) ≡ list_all (is_in_range classes roles) parts
  all_left [] h = refl
  all_left (e ∷ es) h = ap (λ b. b && list_all (is_in_range classes roles) (map nnf es)) h.0.0 ∙ ap (λ b. is_in_range classes roles e && b) (all_left es h.1)

  all_right : (parts : List Expr) → AllByRecursion KeepsNumbers parts → list_all (is_in_range classes roles) (map nnf_not parts) ≡ list_all (is_in_range classes roles) parts
  all_right [] h = refl
  all_right (e ∷ es) h = ap (λ b. b && list_all (is_in_range classes roles) (map nnf_not es)) h.0.1 ∙ ap (λ b. is_in_range classes roles e && b) (all_right es h.1)

  pub nnf_below : (e : Expr) → KeepsNumbers e
  nnf_below = induct KeepsNumbers
      (λ c. (ap (is_in_range classes roles) (nnf-Name c), ap (is_in_range classes roles) (nnf_not-Name c) ∙ below-Minus classes roles (Name c)))
      (λ parts h. (
        ap (is_in_range classes roles) (nnf-Meet parts) ∙ below-Meet classes roles (map nnf parts) ∙ all_left parts h ∙ sym (below-Meet classes roles parts),
        ap (is_in_range classes roles) (nnf_not-Meet parts) ∙ below-Join classes roles (map nnf_not parts) ∙ all_right parts h ∙ sym (below-Meet classes roles parts),
      ))
      (λ parts h. (
        ap (is_in_range classes roles) (nnf-Join parts) ∙ below-Join classes roles (map nnf parts) ∙ all_left parts h ∙ sym (below-Join classes roles parts),
        ap (is_in_range classes roles) (nnf_not-Join parts) ∙ below-Meet classes roles (map nnf_not parts) ∙ all_right parts h ∙ sym (below-Join classes roles parts),
      ))
      (λ part h. (
        ap (is_in_range classes roles) (nnf-Minus part) ∙ h.1 ∙ sym (below-Minus classes roles part),
        ap (is_in_range classes roles) (nnf_not-Minus part) ∙ h.0 ∙ sym (below-Minus classes roles part),
      ))
      (λ r part h. (
        ap (is_in_range classes roles) (nnf-SomeOf r part) ∙ below-SomeOf classes roles r (nnf part) ∙ ap (λ b. nat_lt r roles && b) h.0 ∙ sym (below-SomeOf classes roles r part),
        ap (is_in_range classes roles) (nnf_not-SomeOf r part) ∙ below-AllOf classes roles r (nnf_not part) ∙ ap (λ b. nat_lt r roles && b) h.1 ∙ sym (below-SomeOf classes roles r part),
      ))
      (λ r part h. (
        ap (is_in_range classes roles) (nnf-AllOf r part) ∙ below-AllOf classes roles r (nnf part) ∙ ap (λ b. nat_lt r roles && b) h.0 ∙ sym (below-AllOf classes roles r part),
        ap (is_in_range classes roles) (nnf_not-AllOf r part) ∙ below-SomeOf classes roles r (nnf_not part) ∙ ap (λ b. nat_lt r roles && b) h.1 ∙ sym (below-AllOf classes roles r part),
      ))

  pub each_below : (es : List Expr) → list_all (is_in_range classes roles) es ≡ true → list_all (is_in_range classes roles) (map nnf es) ≡ true
  each_below es h = all_by_member (is_in_range classes roles) (map nnf es) (λ d m. let w = map_member nnf d es m in ap (is_in_range classes roles) w.2 ∙ (nnf_below w.0).0 ∙ all_member (is_in_range classes roles) es h w.0 w.1)

-- its numbers are below these
abbrev pub Within : ℕ → ℕ → NormalAxiom → Type 0
Within atoms roles (n1 c) = has_atoms_below atoms c ≡ true
Within atoms roles (n2 t) = is_triple_below atoms roles t ≡ true
Within atoms roles (n3 t) = is_triple_below atoms roles t ≡ true
Within atoms roles (n4 t) = is_triple_below atoms roles t ≡ true
Within atoms roles (n5 p) = has_roles_below roles p ≡ true

and_three : (p q r : Bool) → p ≡ true → q ≡ true → r ≡ true → (p && q && r) ≡ true
and_three true true true hp hq hr = refl
and_three true true false hp hq hr = absurd (false≢true hr)
and_three true false r hp hq hr = absurd (false≢true hq)
and_three false q r hp hq hr = absurd (false≢true hp)

module _ (atoms roles : ℕ) where
  abbrev pub AllWithin : List NormalAxiom → Type 0
  AllWithin axs = (a : NormalAxiom) → OneOf a axs → Within atoms roles a

  pub none_below : (a : ℕ) → OneOf a [] → a < atoms
  none_below a m = absurd m

  pub one_below : (x : ℕ) → x < atoms → (a : ℕ) → OneOf a (x ∷ []) → a < atoms
  one_below x h a m = elim m [ inl is ↦ subst (λ z. z < atoms) (sym is) h | inr z ↦ absurd z ]

  pub two_below : (x y : ℕ) → x < atoms → y < atoms → (a : ℕ) → OneOf a (x ∷ y ∷ []) → a < atoms
  two_below x y h k a m = elim m [ inl is ↦ subst (λ z. z < atoms) (sym is) h | inr n ↦ one_below y k a n ]

  pub implies_within : (l r : List ℕ) → ((a : ℕ) → OneOf a l → a < atoms) → ((a : ℕ) → OneOf a r → a < atoms) → Within atoms roles (implies l r)
  implies_within l r h k = and_from (are_below atoms l) (are_below atoms r) (all_by_member (λ n. nat_lt n atoms) l (λ a m. lt-ltb a atoms (h a m))) (all_by_member (λ n. nat_lt n atoms) r (λ a m. lt-ltb a atoms (k a m)))

  pub triple_within : (a r b : ℕ) → a < atoms → nat_lt r roles ≡ true → b < atoms → is_triple_below atoms roles (triple a r b) ≡ true
  triple_within a r b ha hr hb = and_three (nat_lt a atoms) (nat_lt r roles) (nat_lt b atoms) (lt-ltb a atoms ha) hr (lt-ltb b atoms hb)

  pub none_within : (a : NormalAxiom) → OneOf a [] → Within atoms roles a
  none_within a m = absurd m

  pub add_within : (x : NormalAxiom) (axs : List NormalAxiom) → Within atoms roles x → ((a : NormalAxiom) → OneOf a axs → Within atoms roles a) → (a : NormalAxiom) → OneOf a (x ∷ axs) → Within atoms roles a
  add_within x axs h k a m = elim m [ inl is ↦ subst (Within atoms roles) (sym is) h | inr n ↦ k a n ]

  pub join_within : (axs bs : List NormalAxiom) → ((a : NormalAxiom) → OneOf a axs → Within atoms roles a) → ((a : NormalAxiom) → OneOf a bs → Within atoms roles a) → (a : NormalAxiom) → OneOf a (axs ++ bs) → Within atoms roles a
  join_within axs bs h k a m = elim (member_cases a axs bs m) [ inl p ↦ h a p | inr q ↦ k a q ]

  pub map_within : (row : ℕ → NormalAxiom) (ys : List ℕ) → ((a : ℕ) → OneOf a ys → a < atoms) → ((y : ℕ) → y < atoms → Within atoms roles (row y)) → (a : NormalAxiom) → OneOf a (map row ys) → Within atoms roles a
  map_within row ys h k a m = let w = map_member row a ys m in subst (Within atoms roles) (sym w.2) (k w.0 (h w.0 w.1))

  module _ (classes : ℕ) (F : ℕ → Label → Type 0) (fresh_below : (a : ℕ) (k : Label) → F a k → a < atoms) (enough : classes ≤ atoms) where
    mutual
      pub uses_within : {sign : Bool} {e : Expr} {x : ℕ} {axs : List NormalAxiom} → Represents classes F sign e x axs → is_in_range classes roles e ≡ true → (x < atoms) × ((a : NormalAxiom) → OneOf a axs → Within atoms roles a)
      uses_within {sign} {e} {x} {axs} (by_name low is gives) h = (omega (arith, low, enough), subst (λ l. (a : NormalAxiom) → OneOf a l → Within atoms roles a) (sym gives) none_within)
      uses_within {sign} {e} {x} {axs} (pos_minus c low is fresh gives) h =
          let f = fresh_below x (use_of true e) fresh in
          (f, subst (λ l. (a : NormalAxiom) → OneOf a l → Within atoms roles a) (sym gives) (add_within (implies (x ∷ c ∷ []) []) [] (implies_within (x ∷ c ∷ []) [] (two_below x c f (omega (arith, low, enough))) none_below) none_within))
      uses_within {sign} {e} {x} {axs} (neg_minus c low is fresh gives) h =
          let f = fresh_below x (use_of false e) fresh in
          (f, subst (λ l. (a : NormalAxiom) → OneOf a l → Within atoms roles a) (sym gives) (add_within (implies [] (x ∷ c ∷ [])) [] (implies_within [] (x ∷ c ∷ []) none_below (two_below x c f (omega (arith, low, enough)))) none_within))
      uses_within {sign} {e} {x} {axs} (pos_meet parts ys rest is fresh u gives) h =
          let f = fresh_below x (use_of true e) fresh in
          let v = uses_each_within u (sym (below-Meet classes roles parts) ∙ ap (is_in_range classes roles) (sym is) ∙ h) in (
            f,
            subst (λ l. (a : NormalAxiom) → OneOf a l → Within atoms roles a) (sym gives) (join_within (map (λ y. implies (x ∷ []) (y ∷ [])) ys) rest
                (map_within (λ y. implies (x ∷ []) (y ∷ [])) ys v.0 (λ y k. implies_within (x ∷ []) (y ∷ []) (one_below x f) (one_below y k))) v.1),
          )
      uses_within {sign} {e} {x} {axs} (neg_join parts ys rest is fresh u gives) h =
          let f = fresh_below x (use_of false e) fresh in
          let v = uses_each_within u (sym (below-Join classes roles parts) ∙ ap (is_in_range classes roles) (sym is) ∙ h) in (
            f,
            subst (λ l. (a : NormalAxiom) → OneOf a l → Within atoms roles a) (sym gives) (join_within (map (λ y. implies (y ∷ []) (x ∷ [])) ys) rest
                (map_within (λ y. implies (y ∷ []) (x ∷ [])) ys v.0 (λ y k. implies_within (y ∷ []) (x ∷ []) (one_below y k) (one_below x f))) v.1),
          )
      uses_within {sign} {e} {x} {axs} (pos_join parts ys rest is fresh u gives) h =
          let f = fresh_below x (use_of true e) fresh in
          let v = uses_each_within u (sym (below-Join classes roles parts) ∙ ap (is_in_range classes roles) (sym is) ∙ h) in
          (f, subst (λ l. (a : NormalAxiom) → OneOf a l → Within atoms roles a) (sym gives) (add_within (implies (x ∷ []) ys) rest (implies_within (x ∷ []) ys (one_below x f) v.0) v.1))
      uses_within {sign} {e} {x} {axs} (neg_meet parts ys rest is fresh u gives) h =
          let f = fresh_below x (use_of false e) fresh in
          let v = uses_each_within u (sym (below-Meet classes roles parts) ∙ ap (is_in_range classes roles) (sym is) ∙ h) in
          (f, subst (λ l. (a : NormalAxiom) → OneOf a l → Within atoms roles a) (sym gives) (add_within (implies ys (x ∷ [])) rest (implies_within ys (x ∷ []) v.0 (one_below x f)) v.1))
      uses_within {sign} {e} {x} {axs} (pos_some r part y rest is fresh u gives) h =
          let f = fresh_below x (use_of true e) fresh in
          let p = and_parts (nat_lt r roles) (is_in_range classes roles part) (sym (below-SomeOf classes roles r part) ∙ ap (is_in_range classes roles) (sym is) ∙ h) in
          let v = uses_within u p.1 in
          (f, subst (λ l. (a : NormalAxiom) → OneOf a l → Within atoms roles a) (sym gives) (add_within (n2 (triple x r y)) rest (triple_within x r y f p.0 v.0) v.1))
      uses_within {sign} {e} {x} {axs} (neg_some r part y rest is fresh u gives) h =
          let f = fresh_below x (use_of false e) fresh in
          let p = and_parts (nat_lt r roles) (is_in_range classes roles part) (sym (below-SomeOf classes roles r part) ∙ ap (is_in_range classes roles) (sym is) ∙ h) in
          let v = uses_within u p.1 in
          (f, subst (λ l. (a : NormalAxiom) → OneOf a l → Within atoms roles a) (sym gives) (add_within (n3 (triple y r x)) rest (triple_within y r x v.0 p.0 f) v.1))
      uses_within {sign} {e} {x} {axs} (pos_all r part y rest is fresh u gives) h =
          let f = fresh_below x (use_of true e) fresh in
          let p = and_parts (nat_lt r roles) (is_in_range classes roles part) (sym (below-AllOf classes roles r part) ∙ ap (is_in_range classes roles) (sym is) ∙ h) in
          let v = uses_within u p.1 in
          (f, subst (λ l. (a : NormalAxiom) → OneOf a l → Within atoms roles a) (sym gives) (add_within (n4 (triple x r y)) rest (triple_within x r y f p.0 v.0) v.1))
      uses_within {sign} {e} {x} {axs} (neg_all r part y z rest is fresh other u gives) h =
          let f = fresh_below x (use_of false e) fresh in
          let g = fresh_below y (rest_of x e) other in
          let p = and_parts (nat_lt r roles) (is_in_range classes roles part) (sym (below-AllOf classes roles r part) ∙ ap (is_in_range classes roles) (sym is) ∙ h) in
          let v = uses_within u ((nnf_below classes roles part).1 ∙ p.1) in (
            f,
            subst (λ l. (a : NormalAxiom) → OneOf a l → Within atoms roles a) (sym gives) (add_within (implies [] (x ∷ y ∷ [])) (n2 (triple y r z) ∷ rest) (implies_within [] (x ∷ y ∷ []) none_below (two_below x y f g))
                (add_within (n2 (triple y r z)) rest (triple_within y r z g p.0 v.0) v.1)),
          )

      pub uses_each_within : {sign : Bool} {es : List Expr} {xs : List ℕ} {axs : List NormalAxiom} → RepresentsEach classes F sign es xs axs → list_all (is_in_range classes roles) es ≡ true → ((a : ℕ) → OneOf a xs → a < atoms) × ((a : NormalAxiom) → OneOf a axs → Within atoms roles a)
      uses_each_within at_end h = (none_below, none_within)
      uses_each_within (and_then {e = e} {es = es} {x = x} here rest u v) h =
          let p = and_parts (is_in_range classes roles e) (list_all (is_in_range classes roles) es) h in
          let a = uses_within u p.0 in
          let b = uses_each_within v p.1 in
          (λ z m. elim m [ inl is ↦ subst (λ w. w < atoms) (sym is) a.0 | inr n ↦ b.0 z n ], join_within here rest a.1 b.1)
