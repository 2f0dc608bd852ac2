-- Where the normal axioms hold, the document's axioms do.
use Rattle.std.proofs.Common.{◌≡◌, ◌≢◌, ◌⊎◌, ℕ, suc, ◌<◌, Bool, true, false, not, ◌&&◌, ◌||◌, ◌==◌, List, [], ◌∷◌, ◌++◌, map, length, refl, sym, ap, subst, ◌∙◌, inl, inr, eqb-true}
use Rattle.std.specs.List.{list_all, All}
use Rattle.std.proofs.lemmas.Bool.{and_from, false≢true}
use Rattle.std.proofs.lemmas.List.Elements.{All-nil, All-cons}
use Rattle.cd_meaning.specs.declared.expression.Expr.{Expr}
use Rattle.cd_meaning.specs.declared.expression.Axiom.{Axiom}
use Rattle.cd_meaning.specs.declared.expression.Axiom.TheVariants.{SubClass, SameClasses, Disjoint, DisjointUnion, SubRole, SameRoles, Domain, Range}
use Rattle.cd_meaning.specs.declared.interpretation.Edge.{Edge}
use Rattle.cd_meaning.specs.declared.interpretation.Interpretation.{Interpretation}
use Rattle.cd_meaning.specs.Membership.{class_has, member}
use Rattle.cd_meaning.specs.Truth.{has_edge, Holds, IsBelow, IsSubRole, IsDistinctlyApart, HasSameMembers, HasSameEdges, EveryTwo}
use Rattle.cd_meaning.specs.MembershipTable.{member-Name, member-Join}
use Rattle.cd_nnf.specs.Nnf.{nnf}
use Rattle.cd_nnf.proofs.Members.{nnf_same}
use Rattle.cd_base.specs.Lists.{OneOf}
use Rattle.cd_meaning.specs.NormalAxioms.{NormalAxiom, n3, n4, n5, implies, triple, in_atom, HoldsNormal, AllHold}
use Rattle.cd_normal.specs.Represents.{Label, Represents, RepresentsEach}
use Rattle.cd_normal.specs.NormalForm.{circle, Kept, Chain, RepresentsApart, GivesApart, Gives, GivesFrom, IsFresh, Restricts}
use Rattle.cd_normal.proofs.Tests.{Paired, around, all_from_member, member_left, member_right, member_map, any_member, true_or_false, edge_from, source_within, target_within}
use Rattle.cd_normal.proofs.Restrict.{IsSound, EachSound, any_down, all_up, any_up, step, clash, sound, sound_each}

pub kept_has : (seen es kept : List Expr) → Kept seen es kept → (c : Expr) → OneOf c es → OneOf c seen ⊎ OneOf c kept
kept_has seen [] kept k c m = absurd m
kept_has seen (e ∷ es) kept (inl k) c (inl is) = inl (subst (λ d. OneOf d seen) (sym is) k.0)
kept_has seen (e ∷ es) kept (inl k) c (inr m) = kept_has seen es kept k.1 c m
kept_has seen (e ∷ es) kept (inr k) c (inl is) = inr (subst (OneOf c) (sym k.1.1) (inl is))
kept_has seen (e ∷ es) kept (inr k) c (inr m) = elim (kept_has (e ∷ seen) es k.1.0 k.1.2 c m) [
  | inl s ↦ elim s [ inl is ↦ inr (subst (OneOf c) (sym k.1.1) (inl is)) | inr t ↦ inl t ]
  | inr t ↦ inr (subst (OneOf c) (sym k.1.1) (inr t))
]

same_tree_no : {e c d : Expr} → c ≡ e → d ≡ e → c ≢ d → ⊥
same_tree_no p q n = n (p ∙ sym q)

module _ (i : Interpretation) where
  sub_role : (r s : ℕ) → ((x y : ℕ) → has_edge i r x y ≡ true → has_edge i s x y ≡ true) → IsSubRole i r s
  sub_role r s h = all_from_member (λ (edge : Edge). edge.role ≡ r → has_edge i s edge.source edge.target ≡ true) i.roles
      (λ edge m is. h edge.source edge.target (edge_from i edge r edge.source edge.target m is refl refl))

  nnf_sound : (sign : Bool) (e : Expr) (a : ℕ) → IsSound i sign (nnf e) a → IsSound i sign e a
  nnf_sound true e a s = λ x l h. sym (nnf_same i e x) ∙ s x l h
  nnf_sound false e a s = λ x l h. s x l (nnf_same i e x ∙ h)

  nnf_each : (sign : Bool) (es : List Expr) (xs : List ℕ) → EachSound i sign (map nnf es) xs → EachSound i sign es xs
  nnf_each sign [] [] s = tt
  nnf_each sign [] (x ∷ xs) s = absurd s
  nnf_each sign (e ∷ es) [] s = absurd s
  nnf_each sign (e ∷ es) (x ∷ xs) s = (nnf_sound sign e x s.0, nnf_each sign es xs s.1)

  pick : (es : List Expr) (xs : List ℕ) → EachSound i false es xs → (c : Expr) → OneOf c es → (x : ℕ) × OneOf x xs × IsSound i false c x
  pick [] xs s c m = absurd m
  pick (e ∷ es) [] s c m = absurd s
  pick (e ∷ es) (x ∷ xs) s c (inl is) = (x, inl refl, subst (λ d. IsSound i false d x) (sym is) s.0)
  pick (e ∷ es) (x ∷ xs) s c (inr m) = let r = pick es xs s.1 c m in (r.0, inr r.1, r.2)

  every_two : {X : Type 0} (R : X → X → Type 0) (xs : List X) → ((c d : X) → OneOf c xs → OneOf d xs → R c d) → EveryTwo R xs
  every_two R xs h = all_from_member (λ c. All (λ d. R c d) xs) xs (λ c m. all_from_member (R c) xs (λ d k. h c d m k))

  paired_same : (l : List ℕ) → Paired (λ (r x : ℕ). r ≡ x) l l
  paired_same [] = tt
  paired_same (r ∷ l) = (refl, paired_same l)

  from_axs : (axs bs : List NormalAxiom) → axs ≡ bs → AllHold i axs → AllHold i bs
  from_axs axs bs is h a m = h a (subst (OneOf a) (sym is) m)

  left_axs : (as' bs : List NormalAxiom) → AllHold i (as' ++ bs) → AllHold i as'
  left_axs as' bs h a m = h a (member_left a as' bs m)

  right_axs : (as' bs : List NormalAxiom) → AllHold i (as' ++ bs) → AllHold i bs
  right_axs as' bs h a m = h a (member_right a as' bs m)

  module _ (classes : ℕ) (Fresh : ℕ → Label → Type 0) (thing : (x : ℕ) → x < i.size → in_atom i 0 x ≡ true)
      (agree : (c x : ℕ) → c < classes → x < i.size → in_atom i c x ≡ class_has i c x) where
    one : (sign : Bool) (e : Expr) (a : ℕ) (axs : List NormalAxiom) → Represents classes Fresh sign (nnf e) a axs → AllHold i axs → IsSound i sign e a
    one sign e a axs u t = nnf_sound sign e a (sound i classes Fresh agree u t)

    list : (sign : Bool) (es : List Expr) (xs : List ℕ) (axs : List NormalAxiom) → RepresentsEach classes Fresh sign (map nnf es) xs axs → AllHold i axs → EachSound i sign es xs
    list sign es xs axs u t = nnf_each sign es xs (sound_each i classes Fresh agree u t)

    -- p has the first operands; no later one meets it, and no two of the later ones meet
    chain : (k : ℕ) (before : List Expr) (p : ℕ) (es : List Expr) (xs : List ℕ) (axs : List NormalAxiom) → Chain classes Fresh k before p es xs axs → AllHold i axs → EachSound i false es xs
        → (x : ℕ) → x < i.size → ((c : Expr) → OneOf c es → member i c x ≡ true → in_atom i p x ≡ true → ⊥)
        × ((c d : Expr) → OneOf c es → OneOf d es → c ≢ d → member i c x ≡ true → member i d x ≡ true → ⊥)
    chain k before p [] xs axs g t s x l = absurd g
    chain k before p (e ∷ []) [] axs g t s x l = absurd g
    chain k before p (e ∷ f ∷ es) [] axs g t s x l = absurd g
    chain k before p (e ∷ []) (y ∷ ys) axs g t s x l = (
      λ c m h q. elim m [ inl is ↦ clash i y p (from_axs axs _ g t (implies (y ∷ p ∷ []) []) (inl refl)) x l (s.0 x l (subst (λ d. member i d x ≡ true) is h)) q | inr n ↦ absurd n ],
      λ c d m n apart h q. elim m [ inl is ↦ elim n [ inl js ↦ same_tree_no is js apart | inr w ↦ absurd w ] | inr w ↦ absurd w ],
    )
    chain k before p (e ∷ f ∷ es) (y ∷ ys) axs g t s x l =
        let h = from_axs axs _ g.4 t in
        let more = chain k (e ∷ before) g.0 (f ∷ es) ys g.1 g.3 (λ a m. h a (inr (inr (inr m)))) s.1 x l in
        let up : member i e x ≡ true → in_atom i g.0 x ≡ true = λ w. step i y g.0 (h (implies (y ∷ []) (g.0 ∷ [])) (inl refl)) x l (s.0 x l w) in (
          λ c m w q. elim m [
            | inl is ↦ clash i y p (h (implies (y ∷ p ∷ []) []) (inr (inr (inl refl)))) x l (s.0 x l (subst (λ d. member i d x ≡ true) is w)) q
            | inr n ↦ more.0 c n w (step i p g.0 (h (implies (p ∷ []) (g.0 ∷ [])) (inr (inl refl))) x l q)
          ],
          λ c d m n apart w v. elim m [
            | inl is ↦ elim n [ inl js ↦ same_tree_no is js apart | inr o ↦ more.0 d o v (up (subst (λ d. member i d x ≡ true) is w)) ]
            | inr o ↦ elim n [ inl js ↦ more.0 c o w (up (subst (λ d. member i d x ≡ true) js v)) | inr z ↦ more.1 c d o z apart w v ]
          ],
        )

    kept_apart : (k : ℕ) (kept : List Expr) (axs : List NormalAxiom) → RepresentsApart classes Fresh k kept axs → AllHold i axs
        → (c d : Expr) → OneOf c kept → OneOf d kept → c ≢ d → (x : ℕ) → x < i.size → member i c x ≡ true → member i d x ≡ true → ⊥
    kept_apart k [] axs u t c d m n apart x l w v = absurd m
    kept_apart k (e ∷ []) axs u t c d m n apart x l w v = elim m [ inl is ↦ elim n [ inl js ↦ same_tree_no is js apart | inr o ↦ absurd o ] | inr o ↦ absurd o ]
    kept_apart k (e ∷ f ∷ []) axs (xs, a, b, u, g, gives) t c d m n apart x l w v =
        let s = list false (e ∷ f ∷ []) xs a u (right_axs b a (from_axs axs (b ++ a) gives t)) in
        let h = from_axs b (implies xs [] ∷ []) g (left_axs b a (from_axs axs (b ++ a) gives t)) in
        let none : list_all (λ y. in_atom i y x) xs ≡ true → ⊥ = λ q. false≢true (h (implies xs []) (inl refl) x l q) in
        let both : member i e x ≡ true → member i f x ≡ true → ⊥ = λ p q. none (all_up i (e ∷ f ∷ []) xs s x l (and_from (member i e x) (member i f x && true) p (and_from (member i f x) true q refl))) in
        elim m [
          | inl is ↦ elim n [ inl js ↦ same_tree_no is js apart | inr o ↦ elim o [ inl js ↦ both (subst (λ d. member i d x ≡ true) is w) (subst (λ d. member i d x ≡ true) js v) | inr o ↦ absurd o ] ]
          | inr o ↦ elim o [
            | inl is ↦ elim n [ inl js ↦ both (subst (λ d. member i d x ≡ true) js v) (subst (λ d. member i d x ≡ true) is w) | inr z ↦ elim z [ inl js ↦ same_tree_no is js apart | inr z ↦ absurd z ] ]
            | inr o ↦ absurd o
          ]
        ]
    kept_apart k (e ∷ f ∷ g ∷ es) axs ([], a, b, u, apart_by, gives) t c d m n apart x l w v = absurd apart_by
    kept_apart k (e ∷ f ∷ g ∷ es) axs (y ∷ ys, a, b, u, by, gives) t c d m n apart x l w v =
        let s = list false (e ∷ f ∷ g ∷ es) (y ∷ ys) a u (right_axs b a (from_axs axs (b ++ a) gives t)) in
        let h = from_axs b _ by.4 (left_axs b a (from_axs axs (b ++ a) gives t)) in
        let more = chain k (e ∷ []) by.0 (f ∷ g ∷ es) ys by.1 by.3 (λ a m. h a (inr m)) s.1 x l in
        let up : member i e x ≡ true → in_atom i by.0 x ≡ true = λ w. step i y by.0 (h (implies (y ∷ []) (by.0 ∷ [])) (inl refl)) x l (s.0 x l w) in
        elim m [
          | inl is ↦ elim n [ inl js ↦ same_tree_no is js apart | inr o ↦ more.0 d o v (up (subst (λ d. member i d x ≡ true) is w)) ]
          | inr o ↦ elim n [ inl js ↦ more.0 c o w (up (subst (λ d. member i d x ≡ true) js v)) | inr z ↦ more.1 c d o z apart w v ]
        ]

    disjoint : (k : ℕ) (l : List Expr) (axs : List NormalAxiom) → GivesApart classes Fresh k l axs → AllHold i axs → EveryTwo (IsDistinctlyApart i) l
    disjoint k l axs (kept, is_kept, u) t = every_two (IsDistinctlyApart i) l (λ c d m n apart x below w v.
        kept_apart k kept axs u t c d (in_kept c m) (in_kept d n) apart x below w v)
      where
        in_kept : (c : Expr) → OneOf c l → OneOf c kept
        in_kept c m = elim (kept_has [] l kept is_kept c m) [ inl s ↦ absurd s | inr w ↦ w ]

    gives_holds : (k : ℕ) (stated : Axiom) (axs : List NormalAxiom) → Gives classes Fresh k stated axs → AllHold i axs → Holds i stated
    gives_holds k (SubClass c d) axs (x, y, a, b, u, v, gives) t =
        let h = from_axs axs _ gives t in
        λ z l w. one true d y b v (λ q m. h q (inr (member_right q a b m))) z l
        (step i x y (h (implies (x ∷ []) (y ∷ [])) (inl refl)) z l (one false c x a u (λ q m. h q (inr (member_left q a b m))) z l w))
    gives_holds k (SameClasses l) axs (xs, ys, a, b, u, v, gives) t =
        let link : ℕ → ℕ → NormalAxiom = λ x y. implies (x ∷ []) (y ∷ []) in
        let h = from_axs axs (circle link xs ys ++ (a ++ b)) gives t in
        let rest = right_axs (circle link xs ys) (a ++ b) h in
        let below : (c d : Expr) → OneOf c l → OneOf d l → IsBelow i c d = λ c d m n z w.
        around link (λ e. member i e z ≡ true) (HoldsNormal i) (λ e x. IsSound i false e x) (λ e x. IsSound i true e x)
        (λ e f x y from to link q. to z w (step i x y link z w (from z w q)))
        l xs ys (list false l xs a u (left_axs a b rest)) (list true l ys b v (right_axs a b rest)) (left_axs (circle link xs ys) (a ++ b) h) c d m n in
        every_two (HasSameMembers i) l (λ c d m n. (below c d m n, below d c n m))
    gives_holds k (Disjoint l) axs g t = disjoint k l axs g t
    gives_holds k (DisjointUnion c l) axs (xs, ys, a, b, apart, below, u, v, w, gives) t =
        let ups : List NormalAxiom = map (λ x. implies (x ∷ []) (c ∷ [])) xs in
        let h = from_axs axs (implies (c ∷ []) ys ∷ (ups ++ (a ++ (b ++ apart)))) gives t in
        let rest : AllHold i (a ++ (b ++ apart)) = λ q m. h q (inr (member_right q ups (a ++ (b ++ apart)) m)) in
        let lows = list false l xs a u (left_axs a (b ++ apart) rest) in
        let highs = list true l ys b v (left_axs b apart (right_axs a (b ++ apart) rest)) in (
          (
            λ x below_size q. member-Join i x l ∙ any_down i l ys highs x below_size
                (h (implies (c ∷ []) ys) (inl refl) x below_size (and_from (in_atom i c x) true (agree c x below below_size ∙ sym (member-Name i x c) ∙ q) refl)),
            λ x below_size q.
                let one_of = any_member (λ y. in_atom i y x) xs (any_up i l xs lows x below_size (sym (member-Join i x l) ∙ q)) in
                member-Name i x c ∙ sym (agree c x below below_size)
                ∙ step i one_of.0 c (h (implies (one_of.0 ∷ []) (c ∷ [])) (inr (member_left (implies (one_of.0 ∷ []) (c ∷ [])) ups (a ++ (b ++ apart)) (member_map (λ x. implies (x ∷ []) (c ∷ [])) one_of.0 xs one_of.1)))) x below_size one_of.2,
          ),
          disjoint k l apart w (right_axs b apart (right_axs a (b ++ apart) rest)),
        )
    gives_holds k (SubRole r s) axs gives t = sub_role r s (from_axs axs _ gives t (n5 (record { lower = r; higher = s })) (inl refl))
    gives_holds k (SameRoles l) axs gives t =
        let link : ℕ → ℕ → NormalAxiom = λ r s. n5 (record { lower = r; higher = s }) in
        let h = from_axs axs (circle link l l) gives t in
        let below : (r s : ℕ) → OneOf r l → OneOf s l → IsSubRole i r s = λ r s m n. sub_role r s (λ x y.
        around link (λ r. has_edge i r x y ≡ true) (HoldsNormal i) (λ r x. r ≡ x) (λ r x. r ≡ x)
        (λ e f p q from to link w. subst (λ z. has_edge i z x y ≡ true) (sym to) (link x y (subst (λ z. has_edge i z x y ≡ true) from w)))
        l l l (paired_same l) (paired_same l) h r s m n) in
        every_two (HasSameEdges i) l (λ r s m n. (below r s m n, below s r n m))
    gives_holds k (Domain r c) axs (x, a, u, gives) t =
        let h = from_axs axs _ gives t in
        all_from_member (λ (edge : Edge). edge.role ≡ r → member i c edge.source ≡ true) i.roles (λ edge m is.
        let e = edge_from i edge r edge.source edge.target m is refl refl in
        one true c x a u (λ q m. h q (inr m)) edge.source (source_within i r edge.source edge.target e)
        (h (n3 (triple 0 r x)) (inl refl) edge.source edge.target e (thing edge.target (target_within i r edge.source edge.target e))))
    gives_holds k (Range r c) axs (x, a, u, gives) t =
        let h = from_axs axs _ gives t in
        all_from_member (λ (edge : Edge). edge.role ≡ r → member i c edge.target ≡ true) i.roles (λ edge m is.
        let e = edge_from i edge r edge.source edge.target m is refl refl in
        one true c x a u (λ q m. h q (inr m)) edge.target (target_within i r edge.source edge.target e)
        (h (n4 (triple 0 r x)) (inl refl) edge.source edge.target e (thing edge.source (source_within i r edge.source edge.target e))))

    pub from_holds : (k : ℕ) (l : List Axiom) (axs : List NormalAxiom) → GivesFrom classes Fresh k l axs → AllHold i axs → All (Holds i) l
    from_holds k [] axs g t = All-nil (Holds i)
    from_holds k (s ∷ l) axs (a, b, g, more, gives) t =
        let h = from_axs axs (a ++ b) gives t in
        All-cons (Holds i) s l (gives_holds k s a g (left_axs a b h)) (from_holds (suc k) l b more (right_axs a b h))

  agreeing : ((x : ℕ) → x < i.size → in_atom i 0 x ≡ true) → ((x : ℕ) → x < i.size → in_atom i 1 x ≡ true → ⊥) → (c x : ℕ) → x < i.size → in_atom i c x ≡ class_has i c x
  agreeing thing nothing c x l = elim (true_or_false (c == 0)) [
    | inl z ↦ (let is : c ≡ 0 = eqb-true c 0 z in ap (λ d. in_atom i d x) is ∙ thing x l ∙ sym (ap (λ d. class_has i d x) is))
    | inr nz ↦ elim (true_or_false (c == 1)) [
      | inl o ↦ (let is : c ≡ 1 = eqb-true c 1 o in ap (λ d. in_atom i d x) is ∙ off (in_atom i 1 x) (nothing x l) ∙ sym (ap (λ d. class_has i d x) is))
      | inr no1 ↦ sym (ap (λ b. b || (not (c == 1) && in_atom i c x)) nz ∙ ap (λ b. not b && in_atom i c x) no1)
    ]
  ]
    where
      off : (b : Bool) → (b ≡ true → ⊥) → b ≡ false
      off true h = absurd (h refl)
      off false h = refl

one_true : (b : Bool) → (b || false) ≡ true → b ≡ true
one_true true h = refl
one_true false h = h

pub restricts : Restricts
restricts document n i by model =
    let t : AllHold i (implies [] (0 ∷ []) ∷ implies (1 ∷ []) [] ∷ by.axs) = λ a m. model a ((by.have a).1 m) in
    let thing : (x : ℕ) → x < i.size → in_atom i 0 x ≡ true = λ x l. one_true (in_atom i 0 x) (t (implies [] (0 ∷ [])) (inl refl) x l refl) in
    let nothing : (x : ℕ) → x < i.size → in_atom i 1 x ≡ true → ⊥ = λ x l h. false≢true (t (implies (1 ∷ []) []) (inr (inl refl)) x l (and_from (in_atom i 1 x) true h refl)) in
    let agree : (c x : ℕ) → c < length document.classes → x < i.size → in_atom i c x ≡ class_has i c x = λ c x below l. agreeing i thing nothing c x l in
    (from_holds i (length document.classes) (IsFresh (length document.classes) by.labels) thing agree 0 document.axioms by.axs by.gives (λ a m. t a (inr (inr m))), agree)
