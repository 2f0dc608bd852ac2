-- Where each atom has what it stands for and the document's axioms hold, the normal axioms are true.
use Rattle.std.proofs.Common.{◌≡◌, ◌≢◌, ℕ, suc, ◌<◌, Bool, true, false, ◌&&◌, List, [], ◌∷◌, ◌++◌, map, take, length, refl, sym, ap, subst, ◌∙◌, inl, inr, arith}
use Rattle.std.specs.List.{list_any, All}
use Rattle.std.proofs.lemmas.Bool.{and_parts, or_left, or_right}
use Rattle.std.proofs.lemmas.List.Elements.{All-head, All-tail}
use Rattle.cd_meaning.specs.declared.expression.Expr.{Expr}
use Rattle.cd_meaning.specs.declared.expression.Axiom.{Axiom}
use Rattle.cd_meaning.specs.declared.expression.Axiom.TheVariants.{SubClass, SameClasses, Disjoint, DisjointUnion, SubRole, SameRoles, Domain, Range}
use Rattle.cd_meaning.specs.declared.interpretation.Edge.{Edge}
use Rattle.cd_meaning.specs.declared.interpretation.Interpretation.{Interpretation}
use Rattle.cd_meaning.specs.Membership.{class_has, member}
use Rattle.cd_meaning.specs.Truth.{has_edge, Holds, IsBelow, AreDisjoint, IsSubRole, IsDistinctlyApart, HasSameMembers, HasSameEdges, EveryTwo}
use Rattle.cd_meaning.specs.MembershipTable.{member-Join}
use Rattle.cd_nnf.specs.Nnf.{nnf}
use Rattle.cd_nnf.proofs.Members.{nnf_same}
use Rattle.cd_base.specs.Lists.{OneOf}
use Rattle.cd_meaning.specs.NormalAxioms.{NormalAxiom, n3, n4, n5, implies, triple, in_atom, HoldsNormal, AllHold}
use Rattle.cd_normal.specs.Represents.{Label, chain_of, Represents, RepresentsEach}
use Rattle.cd_normal.specs.NormalForm.{circle_from, circle, Kept, Chain, RepresentsApart, GivesApart, Gives, GivesFrom, IsFresh, Extends}
use Rattle.cd_normal.proofs.Tests.{Paired, all_of_member, any_by_member, any_member, edge_of, source_within, target_within}
use Rattle.cd_normal.proofs.Extend.{kind_test, extended, extended_names, extended_fresh}
use Rattle.cd_normal.proofs.Fits.{Same, edge_in, edge_out, within, all_same, any_same, add, join, none, mapped, become, step_true, clash_true, one_all, one_any, same, same_each, fits, fits_each, name_same}

-- a property of each link is one of each of the circle
circle_from_all : {A : Type 0} (T : A → Type 0) (link : ℕ → ℕ → A) (x : ℕ) (xs ys : List ℕ) (start : ℕ) (P Q : ℕ → Type 0)
    → ((x y : ℕ) → P x → Q y → T (link x y)) → P x → Q start → ((z : ℕ) → OneOf z xs → P z) → ((z : ℕ) → OneOf z ys → Q z) → (a : A) → OneOf a (circle_from link x xs ys start) → T a
circle_from_all T link x [] ys start P Q h p q ps qs a (inl is) = subst T (sym is) (h x start p q)
circle_from_all T link x [] ys start P Q h p q ps qs a (inr m) = absurd m
circle_from_all T link x (z ∷ xs) [] start P Q h p q ps qs a (inl is) = subst T (sym is) (h x start p q)
circle_from_all T link x (z ∷ xs) [] start P Q h p q ps qs a (inr m) = absurd m
circle_from_all T link x (z ∷ xs) (y ∷ ys) start P Q h p q ps qs a (inl is) = subst T (sym is) (h x y p (qs y (inl refl)))
circle_from_all T link x (z ∷ xs) (y ∷ ys) start P Q h p q ps qs a (inr m) = circle_from_all T link z xs ys start P Q h (ps z (inl refl)) q (λ w k. ps w (inr k)) (λ w k. qs w (inr k)) a m

pub circle_all : {A : Type 0} (T : A → Type 0) (link : ℕ → ℕ → A) (xs ys : List ℕ) (P Q : ℕ → Type 0)
    → ((x y : ℕ) → P x → Q y → T (link x y)) → ((z : ℕ) → OneOf z xs → P z) → ((z : ℕ) → OneOf z ys → Q z) → (a : A) → OneOf a (circle link xs ys) → T a
circle_all T link [] ys P Q h ps qs a m = absurd m
circle_all T link (x ∷ xs) [] P Q h ps qs a m = absurd m
circle_all T link (x ∷ xs) (y ∷ ys) P Q h ps qs a m = circle_from_all T link x xs ys y P Q h (ps x (inl refl)) (qs y (inl refl)) (λ w k. ps w (inr k)) (λ w k. qs w (inr k)) a m

-- what is kept is of the list, and not of those seen
pub kept_in : (seen es kept : List Expr) → Kept seen es kept → (c : Expr) → OneOf c kept → OneOf c es × (OneOf c seen → ⊥)
kept_in seen [] kept k c m = absurd (subst (OneOf c) k m)
kept_in seen (e ∷ es) kept (inl k) c m = let r = kept_in seen es kept k.1 c m in (inr r.0, r.1)
kept_in seen (e ∷ es) kept (inr k) c m = elim (subst (OneOf c) k.1.1 m) [
  | inl is ↦ (inl is, λ s. k.0 (subst (λ d. OneOf d seen) is s))
  | inr n ↦ (let r = kept_in (e ∷ seen) es k.1.0 k.1.2 c n in (inr r.0, λ s. r.1 (inr s)))
]

-- each holds with each later one
abbrev Pairs : {X : Type 0} → (X → X → Type 0) → List X → Type 0
Pairs R [] = Unit {0}
Pairs R (x ∷ xs) = ((y : _) → OneOf y xs → R x y) × Pairs R xs

kept_pairs : (seen es kept : List Expr) → Kept seen es kept → Pairs (λ c d. c ≢ d) kept
kept_pairs seen [] kept k = subst (Pairs (λ c d. c ≢ d)) (sym k) tt
kept_pairs seen (e ∷ es) kept (inl k) = kept_pairs seen es kept k.1
kept_pairs seen (e ∷ es) kept (inr k) = subst (Pairs (λ c d. c ≢ d)) (sym k.1.1)
    ((λ d m is. (kept_in (e ∷ seen) es k.1.0 k.1.2 d m).1 (inl (sym is))), kept_pairs (e ∷ seen) es k.1.0 k.1.2)

pairs_map : {X : Type 0} (R S : X → X → Type 0) (xs : List X) → ((c d : X) → OneOf c xs → OneOf d xs → R c d → S c d) → Pairs R xs → Pairs S xs
pairs_map R S [] h p = tt
pairs_map R S (x ∷ xs) h p = ((λ y m. h x y (inl refl) (inr m) (p.0 y m)), pairs_map R S xs (λ c d m n. h c d (inr m) (inr n)) p.1)

two_at : {X : Type 0} (R : X → X → Type 0) (l : List X) → EveryTwo R l → (c d : X) → OneOf c l → OneOf d l → R c d
two_at R l h c d m n = all_of_member (R c) l (all_of_member (λ c. All (λ d. R c d) l) l h c m) d n

module _ (i j : Interpretation) (size : j.size ≡ i.size) (roles : j.roles ≡ i.roles) where
  sub_role_at : (r s : ℕ) → IsSubRole i r s → (x y : ℕ) → has_edge i r x y ≡ true → has_edge i s x y ≡ true
  sub_role_at r s h x y e =
      let w = edge_of i r x y e in
      let k : has_edge i s w.0.source w.0.target ≡ true = all_of_member (λ (edge : Edge). edge.role ≡ r → has_edge i s edge.source edge.target ≡ true) i.roles h w.0 w.1 w.2 in
      subst (λ z. has_edge i s x z ≡ true) w.4 (subst (λ z. has_edge i s z w.0.target ≡ true) w.3 k)

  sub_role_true : (r s : ℕ) → IsSubRole i r s → HoldsNormal j (n5 (record { lower = r; higher = s }))
  sub_role_true r s h x y e = edge_out i j size roles s x y (sub_role_at r s h x y (edge_in i j size roles r x y e))

  abbrev Stands : Expr → ℕ → Type 0
  Stands = Same i j size roles

  plain : (e : Expr) (a : ℕ) → Stands (nnf e) a → Stands e a
  plain e a s = λ x l. s x l ∙ nnf_same i e x

  plain_each : (es : List Expr) (xs : List ℕ) → Paired Stands (map nnf es) xs → Paired Stands es xs
  plain_each [] [] s = tt
  plain_each [] (x ∷ xs) s = absurd s
  plain_each (e ∷ es) [] s = absurd s
  plain_each (e ∷ es) (x ∷ xs) s = (plain e x s.0, plain_each es xs s.1)

  pick : (es : List Expr) (xs : List ℕ) → Paired Stands es xs → (x : ℕ) → OneOf x xs → (c : Expr) × OneOf c es × Stands c x
  pick [] [] s x m = absurd m
  pick [] (y ∷ xs) s x m = absurd s
  pick (e ∷ es) [] s x m = absurd s
  pick (e ∷ es) (y ∷ xs) s x (inl is) = (e, inl refl, subst (Stands e) (sym is) s.0)
  pick (e ∷ es) (y ∷ xs) s x (inr m) = let r = pick es xs s.1 x m in (r.0, inr r.1, r.2)

  below_true : (c d : Expr) (x y : ℕ) → Stands c x → Stands d y → IsBelow i c d → HoldsNormal j (implies (x ∷ []) (y ∷ []))
  below_true c d x y s t h = step_true i j size roles x y (λ z l p. t z l ∙ h z l (sym (s z l) ∙ p))

  module _ (classes : ℕ) (Fresh : ℕ → Label → Type 0)
      (names : (c x : ℕ) → c < classes → x < i.size → in_atom j c x ≡ class_has i c x)
      (fresh_has : (a : ℕ) (kind : Label) → Fresh a kind → (x : ℕ) → x < i.size → in_atom j a x ≡ kind_test i kind x) where
    one : (sign : Bool) (e : Expr) (a : ℕ) (axs : List NormalAxiom) → Represents classes Fresh sign (nnf e) a axs → Stands e a
    one sign e a axs u = plain e a (same i j size roles classes Fresh names fresh_has u)

    its : (sign : Bool) (e : Expr) (a : ℕ) (axs : List NormalAxiom) → Represents classes Fresh sign e a axs → AllHold j axs
    its sign e a axs u = fits i j size roles classes Fresh names fresh_has u

    list : (sign : Bool) (es : List Expr) (xs : List ℕ) (axs : List NormalAxiom) → RepresentsEach classes Fresh sign (map nnf es) xs axs → Paired Stands es xs
    list sign es xs axs u = plain_each es xs (same_each i j size roles classes Fresh names fresh_has u)

    theirs : (sign : Bool) (es : List Expr) (xs : List ℕ) (axs : List NormalAxiom) → RepresentsEach classes Fresh sign es xs axs → AllHold j axs
    theirs sign es xs axs u = fits_each i j size roles classes Fresh names fresh_has u

    abbrev Union : List Expr → ℕ → Type 0
    Union before p = (x : ℕ) → x < i.size → in_atom j p x ≡ list_any (λ e. member i e x) before

    union_apart : (before : List Expr) (p : ℕ) (e : Expr) (y : ℕ) → Union before p → Stands e y → ((b : Expr) → OneOf b before → AreDisjoint i b e) → HoldsNormal j (implies (y ∷ p ∷ []) [])
    union_apart before p e y u s h = clash_true i j size roles y p (λ x l w v.
        let r = any_member (λ e. member i e x) before (sym (u x l) ∙ v) in
        h r.0 r.1 x l r.2 (sym (s x l) ∙ w))

    chain_true : (k : ℕ) (before : List Expr) (p : ℕ) (es : List Expr) (xs : List ℕ) (axs : List NormalAxiom) → Chain classes Fresh k before p es xs axs → Union before p → Paired Stands es xs
        → Pairs (AreDisjoint i) es → ((b e : Expr) → OneOf b before → OneOf e es → AreDisjoint i b e) → AllHold j axs
    chain_true k before p [] xs axs g u s pairs h = absurd g
    chain_true k before p (e ∷ []) [] axs g u s pairs h = absurd g
    chain_true k before p (e ∷ f ∷ es) [] axs g u s pairs h = absurd g
    chain_true k before p (e ∷ []) (y ∷ ys) axs g u s pairs h = become i j size roles axs _ g
        (add i j size roles (implies (y ∷ p ∷ []) []) [] (union_apart before p e y u s.0 (λ b m. h b e m (inl refl))) (none i j size roles))
    chain_true k before p (e ∷ f ∷ es) (y ∷ ys) axs (q, more, fresh, g, gives) u s pairs h =
        let next : Union (e ∷ before) q = fresh_has q (chain_of k (e ∷ before)) fresh in
        become i j size roles axs _ gives
        (add i j size roles (implies (y ∷ []) (q ∷ [])) (implies (p ∷ []) (q ∷ []) ∷ implies (y ∷ p ∷ []) [] ∷ more)
        (step_true i j size roles y q (λ x l w. next x l ∙ or_left (member i e x) (list_any (λ e. member i e x) before) (sym (s.0 x l) ∙ w)))
        (add i j size roles (implies (p ∷ []) (q ∷ [])) (implies (y ∷ p ∷ []) [] ∷ more)
        (step_true i j size roles p q (λ x l w. next x l ∙ or_right (member i e x) (list_any (λ e. member i e x) before) (sym (u x l) ∙ w)))
        (add i j size roles (implies (y ∷ p ∷ []) []) more
        (union_apart before p e y u s.0 (λ b m. h b e m (inl refl)))
        (chain_true k (e ∷ before) q (f ∷ es) ys more g next s.1 pairs.1
        (λ b d m n. elim m [ inl is ↦ subst (λ c. AreDisjoint i c d) (sym is) (pairs.0 d n) | inr w ↦ h b d w (inr n) ])))))

    kept_true : (k : ℕ) (kept : List Expr) (axs : List NormalAxiom) → RepresentsApart classes Fresh k kept axs → Pairs (AreDisjoint i) kept → AllHold j axs
    kept_true k [] axs u pairs = become i j size roles axs _ u (none i j size roles)
    kept_true k (e ∷ []) axs u pairs = become i j size roles axs _ u (none i j size roles)
    kept_true k (e ∷ f ∷ []) axs (xs, a, b, u, g, gives) pairs =
        let s = list false (e ∷ f ∷ []) xs a u in
        become i j size roles axs (b ++ a) gives (join i j size roles b a
        (become i j size roles b _ g (add i j size roles (implies xs []) [] (λ x l h.
        let both = all_same i j size roles (e ∷ f ∷ []) xs s x (within i j size roles x l) in
        let w = and_parts (member i e x) (member i f x && true) (sym both ∙ h) in
        absurd (pairs.0 f (inl refl) x (within i j size roles x l) w.0 (one_all (member i f x) w.1))) (none i j size roles)))
        (theirs false (map nnf (e ∷ f ∷ [])) xs a u))
    kept_true k (e ∷ f ∷ g ∷ es) axs ([], a, b, u, by, gives) pairs = absurd by
    kept_true k (e ∷ f ∷ g ∷ es) axs (y ∷ ys, a, b, u, (p, more, fresh, by, is), gives) pairs =
        let s = list false (e ∷ f ∷ g ∷ es) (y ∷ ys) a u in
        let union : Union (e ∷ []) p = fresh_has p (chain_of k (e ∷ [])) fresh in
        become i j size roles axs (b ++ a) gives (join i j size roles b a
        (become i j size roles b _ is (add i j size roles (implies (y ∷ []) (p ∷ [])) more
        (step_true i j size roles y p (λ x l w. union x l ∙ or_left (member i e x) false (sym (s.0 x l) ∙ w)))
        (chain_true k (e ∷ []) p (f ∷ g ∷ es) ys more by union s.1 pairs.1
        (λ b d m n. elim m [ inl is ↦ subst (λ c. AreDisjoint i c d) (sym is) (pairs.0 d n) | inr w ↦ absurd w ]))))
        (theirs false (map nnf (e ∷ f ∷ g ∷ es)) (y ∷ ys) a u))

    disjoint_true : (k : ℕ) (l : List Expr) (axs : List NormalAxiom) → GivesApart classes Fresh k l axs → EveryTwo (IsDistinctlyApart i) l → AllHold j axs
    disjoint_true k l axs (kept, is, u) h = kept_true k kept axs u
        (pairs_map (λ c d. c ≢ d) (AreDisjoint i) kept (λ c d m n apart. two_at (IsDistinctlyApart i) l h c d (kept_in [] l kept is c m).0 (kept_in [] l kept is d n).0 apart) (kept_pairs [] l kept is))

    gives_true : 0 < classes → (k : ℕ) (stated : Axiom) (axs : List NormalAxiom) → Gives classes Fresh k stated axs → Holds i stated → AllHold j axs
    gives_true some k (SubClass c d) axs (x, y, a, b, u, v, gives) h = become i j size roles axs _ gives
        (add i j size roles (implies (x ∷ []) (y ∷ [])) (a ++ b) (below_true c d x y (one false c x a u) (one true d y b v) h)
        (join i j size roles a b (its false (nnf c) x a u) (its true (nnf d) y b v)))
    gives_true some k (SameClasses l) axs (xs, ys, a, b, u, v, gives) h =
        let link : ℕ → ℕ → NormalAxiom = λ x y. implies (x ∷ []) (y ∷ []) in
        become i j size roles axs (circle link xs ys ++ (a ++ b)) gives (join i j size roles (circle link xs ys) (a ++ b)
        (circle_all (HoldsNormal j) link xs ys (λ x. (c : Expr) × OneOf c l × Stands c x) (λ x. (c : Expr) × OneOf c l × Stands c x)
        (λ x y p q. below_true p.0 q.0 x y p.2 q.2 (two_at (HasSameMembers i) l h p.0 q.0 p.1 q.1).0)
        (pick l xs (list false l xs a u)) (pick l ys (list true l ys b v)))
        (join i j size roles a b (theirs false (map nnf l) xs a u) (theirs true (map nnf l) ys b v)))
    gives_true some k (Disjoint l) axs g h = disjoint_true k l axs g h
    gives_true some k (DisjointUnion c l) axs (xs, ys, a, b, apart, below, u, v, w, gives) h =
        let lows = list false l xs a u in
        let highs = list true l ys b v in
        let ups : List NormalAxiom = map (λ x. implies (x ∷ []) (c ∷ [])) xs in
        let name = name_same i j size roles classes Fresh names fresh_has c below in
        become i j size roles axs (implies (c ∷ []) ys ∷ (ups ++ (a ++ (b ++ apart)))) gives
        (add i j size roles (implies (c ∷ []) ys) (ups ++ (a ++ (b ++ apart)))
        (λ x lx p. let lt = within i j size roles x lx in any_same i j size roles l ys highs x lt ∙ sym (member-Join i x l) ∙ h.0.0 x lt (sym (name x lt) ∙ one_all (in_atom j c x) p))
        (join i j size roles ups (a ++ (b ++ apart))
        (mapped i j size roles (λ x. implies (x ∷ []) (c ∷ [])) xs (λ y m. step_true i j size roles y c (λ x lt p.
        name x lt ∙ h.0.1 x lt (member-Join i x l ∙ sym (any_same i j size roles l xs lows x lt) ∙ any_by_member (λ y. in_atom j y x) xs y m p))))
        (join i j size roles a (b ++ apart) (theirs false (map nnf l) xs a u)
        (join i j size roles b apart (theirs true (map nnf l) ys b v) (disjoint_true k l apart w h.1)))))
    gives_true some k (SubRole r s) axs gives h = become i j size roles axs _ gives (add i j size roles (n5 (record { lower = r; higher = s })) [] (sub_role_true r s h) (none i j size roles))
    gives_true some k (SameRoles l) axs gives h =
        let link : ℕ → ℕ → NormalAxiom = λ r s. n5 (record { lower = r; higher = s }) in
        become i j size roles axs (circle link l l) gives
        (circle_all (HoldsNormal j) link l l (λ r. OneOf r l) (λ r. OneOf r l) (λ r s m n. sub_role_true r s (two_at (HasSameEdges i) l h r s m n).0) (λ z m. m) (λ z m. m))
    gives_true some k (Domain r c) axs (x, a, u, gives) h = become i j size roles axs _ gives
        (add i j size roles (n3 (triple 0 r x)) a (λ y z edge p.
        let g = edge_in i j size roles r y z edge in
        let w = edge_of i r y z g in
        one true c x a u y (source_within i r y z g)
        ∙ ap (member i c) (sym w.3) ∙ all_of_member (λ (edge : Edge). edge.role ≡ r → member i c edge.source ≡ true) i.roles h w.0 w.1 w.2)
        (its true (nnf c) x a u))
    gives_true some k (Range r c) axs (x, a, u, gives) h = become i j size roles axs _ gives
        (add i j size roles (n4 (triple 0 r x)) a (λ y z edge p.
        let g = edge_in i j size roles r y z edge in
        let w = edge_of i r y z g in
        one true c x a u z (target_within i r y z g)
        ∙ ap (member i c) (sym w.4) ∙ all_of_member (λ (edge : Edge). edge.role ≡ r → member i c edge.target ≡ true) i.roles h w.0 w.1 w.2)
        (its true (nnf c) x a u))

    pub from_true : 0 < classes → (k : ℕ) (l : List Axiom) (axs : List NormalAxiom) → GivesFrom classes Fresh k l axs → All (Holds i) l → AllHold j axs
    from_true some k [] axs g h = become i j size roles axs _ g (none i j size roles)
    from_true some k (s ∷ l) axs (a, b, g, more, gives) h = become i j size roles axs (a ++ b) gives
        (join i j size roles a b (gives_true some k s a g (All-head (Holds i) s l h)) (from_true some (suc k) l b more (All-tail (Holds i) s l h)))

-- the two reserved classes are there
pub two_long : {X : Type 0} (xs : List X) (a b : X) → take 2 xs ≡ a ∷ b ∷ [] → 1 < length xs
two_long [] a b h = cc
two_long (x ∷ []) a b h = cc
two_long (x ∷ y ∷ xs) a b h = omega arith

pub extends : Extends
extends document n i by model =
    let classes = length document.classes in
    let j = extended i classes by.labels in
    let two : 1 < length document.classes = two_long document.classes _ _ document.reserved in
    let names : (c x : ℕ) → c < classes → x < i.size → in_atom j c x ≡ class_has i c x = extended_names i classes by.labels in
    let fresh_has : (a : ℕ) (kind : Label) → IsFresh classes by.labels a kind → (x : ℕ) → x < i.size → in_atom j a x ≡ kind_test i kind x = extended_fresh i classes by.labels in
    let all : AllHold j (implies [] (0 ∷ []) ∷ implies (1 ∷ []) [] ∷ by.axs) =
    add i j refl refl (implies [] (0 ∷ [])) (implies (1 ∷ []) [] ∷ by.axs) (λ x l h. one_any (in_atom j 0 x) (names 0 x (omega (arith, two)) l))
    (add i j refl refl (implies (1 ∷ []) []) by.axs (λ x l h. sym (names 1 x two l) ∙ one_all (in_atom j 1 x) h)
    (from_true i j refl refl classes (IsFresh classes by.labels) names fresh_has (omega (arith, two)) 0 document.axioms by.axs by.gives model)) in
    record {
      made = j;
      size = refl;
      roles = refl;
      classes = names;
      model = λ a m. all a ((by.have a).0 m);
    }
