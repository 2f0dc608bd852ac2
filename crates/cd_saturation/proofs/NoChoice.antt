-- The normal axioms of named classes: none asks for an edge, and each has at most one atom on the right.
use Rattle.std.proofs.Common.{◌≡◌, ◌⊎◌, ℕ, suc, ◌+◌, ◌<◌, ◌≤◌, Bool, true, false, List, [], ◌∷◌, ◌++◌, map, length, refl, sym, ◌∙◌, ap, subst, inl, inr, arith, zero}
use Rattle.std.specs.List.{All}
use Rattle.std.proofs.lemmas.Bool.{false≢true, cases_eq}
use Rattle.std.proofs.lemmas.List.{length-append, length-take}
use Rattle.std.proofs.lemmas.List.Elements.{All-head, All-tail}
use Rattle.cd_base.specs.Lists.{OneOf}
use Rattle.cd_base.specs.declared.normal.Normal.{Normal}
use Rattle.cd_base.proofs.Members.{member_left, member_right, member_cases, map_member, all_of_member}
use Rattle.cd_meaning.specs.NormalAxioms.{NormalAxiom, n1, n2, n3, n4, n5, implies}
use Rattle.cd_meaning.specs.declared.document.Document.{Document}
use Rattle.cd_meaning.specs.declared.expression.Axiom.{Axiom}
use Rattle.cd_meaning.specs.declared.expression.Axiom.TheVariants.{SubClass, SameClasses, Disjoint, DisjointUnion, SubRole, SameRoles, Domain, Range}
use Rattle.cd_meaning.specs.declared.expression.Expr.{Expr}
use Rattle.cd_meaning.specs.declared.expression.Expr.TheFolds.{fold-Expr, fold-roll-Expr, map-Expr}
use Rattle.cd_meaning.specs.declared.expression.Expr.TheOpen.{Expr-F}
use Rattle.cd_meaning.specs.declared.expression.Expr.TheVariants.{Name, Meet, Join, Minus, SomeOf, AllOf, rolls-Name, rolls-Meet, rolls-Join, rolls-Minus, rolls-SomeOf, rolls-AllOf}
use Rattle.cd_meaning.specs.declared.expression.Expr.TheViews.{roll-Expr}
use Rattle.cd_nnf.specs.Nnf.{Shape, nnf, shape_by_parts}
use Rattle.cd_nnf.specs.NnfTable.{nnf-Name}
use Rattle.cd_normal.specs.Made.{atom_link, role_link}
use Rattle.cd_normal.specs.NormalForm.{Apart, Chain, Gives, GivesFrom, IsFresh, IsStructuralNormalForm, Kept, RepresentsApart, circle}
use Rattle.cd_normal.specs.Represents.{Label, Represents, RepresentsEach, by_name, pos_minus, pos_meet, pos_join, pos_some, pos_all, neg_minus, neg_meet, neg_join, neg_some, neg_all, at_end, and_then}
use Rattle.cd_normal.proofs.FitsAxioms.{circle_all, kept_in}
use Rattle.cd_saturation.specs.Answerable.{IsName, IsOfNames, disjoint_operands}
use Rattle.cd_model.specs.Canonical.{numbers_below}
use Rattle.cd_saturation.proofs.UnitClauses.{HasFewRight, HasNoChoice}

-- the axiom asks for no edge, and has none on the right, or one: a class, or one of these atoms
abbrev pub IsFewRow : ℕ → List ℕ → NormalAxiom → Type 0
IsFewRow classes fresh (n1 x) = (x.right ≡ []) ⊎ ((a : ℕ) × (x.right ≡ a ∷ []) × ((a < classes) ⊎ OneOf a fresh))
IsFewRow classes fresh (n2 t) = ⊥
IsFewRow classes fresh (n3 t) = Unit {0}
IsFewRow classes fresh (n4 t) = Unit {0}
IsFewRow classes fresh (n5 p) = Unit {0}

-- so it is with each of the axioms, for atoms that are at most so many
pub record HasFewRows (classes number : ℕ) (axs : List NormalAxiom) : Type 0 where
  pub fresh : List ℕ
  pub few : length fresh ≤ number
  pub rows : (row : NormalAxiom) → OneOf row axs → IsFewRow classes fresh row

-- ---- what has such axioms

few_among : (classes : ℕ) (some more : List ℕ) → ((a : ℕ) → OneOf a some → OneOf a more) → (row : NormalAxiom) → IsFewRow classes some row → IsFewRow classes more row
few_among classes some more h (n1 x) (inl none) = inl none
few_among classes some more h (n1 x) (inr one) = inr (one.0, one.1, elim one.2 [ inl l ↦ inl l | inr m ↦ inr (h one.0 m) ])
few_among classes some more h (n2 t) f = f
few_among classes some more h (n3 t) f = tt
few_among classes some more h (n4 t) f = tt
few_among classes some more h (n5 p) f = tt

module _ (classes : ℕ) where
  at_most : (k l : ℕ) (axs : List NormalAxiom) → k ≤ l → HasFewRows classes k axs → HasFewRows classes l axs
  at_most k l axs le h = record { fresh = h.fresh; few = omega (arith, h.few, le); rows = h.rows }

  no_rows : (axs : List NormalAxiom) → axs ≡ [] → HasFewRows classes 0 axs
  no_rows axs e = record { fresh = []; few = omega arith; rows = λ row m. absurd (subst (OneOf row) e m) }

  one_row : (row : NormalAxiom) → IsFewRow classes [] row → HasFewRows classes 0 (row ∷ [])
  one_row row f = record { fresh = []; few = omega arith; rows = λ other m. elim m [ inl e ↦ subst (IsFewRow classes []) (sym e) f | inr z ↦ absurd z ] }

  join : (k l : ℕ) (as' bs : List NormalAxiom) → HasFewRows classes k as' → HasFewRows classes l bs → HasFewRows classes (k + l) (as' ++ bs)
  join k l as' bs g h = record {
    fresh = g.fresh ++ h.fresh;
    few = omega (arith, length-append g.fresh h.fresh, g.few, h.few);
    rows = λ row m. elim (member_cases row as' bs m) [
      | inl n ↦ few_among classes g.fresh (g.fresh ++ h.fresh) (λ a i. member_left a g.fresh h.fresh i) row (g.rows row n)
      | inr n ↦ few_among classes h.fresh (g.fresh ++ h.fresh) (λ a i. member_right a g.fresh h.fresh i) row (h.rows row n)
    ];
  }

  -- a fresh atom's axioms before others
  with_fresh : (q number : ℕ) (new axs : List NormalAxiom) → ((row : NormalAxiom) → OneOf row new → IsFewRow classes (q ∷ []) row) → HasFewRows classes number axs → HasFewRows classes (suc number) (new ++ axs)
  with_fresh q number new axs f h = at_most (1 + number) (suc number) (new ++ axs) (omega arith) (join 1 number new axs (record { fresh = q ∷ []; few = omega arith; rows = f }) h)

  -- ---- names have no axioms

  abbrev is_name : Expr → Bool
  is_name e = (fold-Expr Shape shape_by_parts e).is_name

  other_form : (e : Expr) (layer : Expr-F Expr) → roll-Expr layer ≡ e → (shape_by_parts (map-Expr Expr Shape (fold-Expr Shape shape_by_parts) layer)).is_name ≡ false → (c : ℕ) → e ≡ Name c → ⊥
  other_form e layer rolls differs c is =
      let other : is_name e ≡ false = ap is_name (sym rolls) ∙ (ap (λ (s : Shape). s.is_name) (fold-roll-Expr Shape shape_by_parts layer) ∙ differs) in
      let name : is_name (Name c) ≡ true = ap is_name (sym (rolls-Name c)) ∙ ap (λ (s : Shape). s.is_name) (fold-roll-Expr Shape shape_by_parts (Expr-F.Name c)) in
      false≢true (sym other ∙ (ap is_name is ∙ name))

  module _ (Fresh : ℕ → Label → Type 0) where
    of_name : {sign : Bool} {e : Expr} {x : ℕ} {axs : List NormalAxiom} → Represents classes Fresh sign e x axs → (c : ℕ) → e ≡ Name c → (axs ≡ []) × (x < classes)
    of_name (by_name below is none) c q = (none, below)
    of_name (pos_minus d below is fresh gives) c q = absurd (other_form (Minus (Name d)) (Expr-F.Minus (Name d)) (rolls-Minus (Name d)) refl c (sym is ∙ q))
    of_name (pos_meet parts ys more is fresh u gives) c q = absurd (other_form (Meet parts) (Expr-F.Meet parts) (rolls-Meet parts) refl c (sym is ∙ q))
    of_name (pos_join parts ys more is fresh u gives) c q = absurd (other_form (Join parts) (Expr-F.Join parts) (rolls-Join parts) refl c (sym is ∙ q))
    of_name (pos_some r part y more is fresh u gives) c q = absurd (other_form (SomeOf r part) (Expr-F.SomeOf r part) (rolls-SomeOf r part) refl c (sym is ∙ q))
    of_name (pos_all r part y more is fresh u gives) c q = absurd (other_form (AllOf r part) (Expr-F.AllOf r part) (rolls-AllOf r part) refl c (sym is ∙ q))
    of_name (neg_minus d below is fresh gives) c q = absurd (other_form (Minus (Name d)) (Expr-F.Minus (Name d)) (rolls-Minus (Name d)) refl c (sym is ∙ q))
    of_name (neg_meet parts ys more is fresh u gives) c q = absurd (other_form (Meet parts) (Expr-F.Meet parts) (rolls-Meet parts) refl c (sym is ∙ q))
    of_name (neg_join parts ys more is fresh u gives) c q = absurd (other_form (Join parts) (Expr-F.Join parts) (rolls-Join parts) refl c (sym is ∙ q))
    of_name (neg_some r part y more is fresh u gives) c q = absurd (other_form (SomeOf r part) (Expr-F.SomeOf r part) (rolls-SomeOf r part) refl c (sym is ∙ q))
    of_name (neg_all r part y z more is fresh other u gives) c q = absurd (other_form (AllOf r part) (Expr-F.AllOf r part) (rolls-AllOf r part) refl c (sym is ∙ q))

    name : (sign : Bool) (e : Expr) (x : ℕ) (axs : List NormalAxiom) → Represents classes Fresh sign (nnf e) x axs → IsName e → (axs ≡ []) × (x < classes)
    name sign e x axs u is = of_name u is.0 (ap nnf is.1 ∙ nnf-Name is.0)

    of_each : {sign : Bool} {es : List Expr} {xs : List ℕ} {axs : List NormalAxiom} → RepresentsEach classes Fresh sign es xs axs → ((e : Expr) → OneOf e es → IsName e) → (axs ≡ []) × ((a : ℕ) → OneOf a xs → a < classes)
    of_each at_end h = (refl, λ a m. absurd m)
    of_each (and_then {e = e} {es = es} {x = x} {xs = xs} here more u v) h =
        let is = h e (inl refl) in
        let a = of_name u is.0 is.1 in
        let b = of_each v (λ f m. h f (inr m)) in
        (ap (λ l. l ++ more) a.0 ∙ b.0, λ z m. elim m [ inl q ↦ subst (λ w. w < classes) (sym q) a.1 | inr k ↦ b.1 z k ])

    each : (sign : Bool) (es : List Expr) (xs : List ℕ) (axs : List NormalAxiom) → RepresentsEach classes Fresh sign (map nnf es) xs axs → ((e : Expr) → OneOf e es → IsName e) → (axs ≡ []) × ((a : ℕ) → OneOf a xs → a < classes)
    each sign es xs axs u h = of_each u (λ e m. let w = map_member nnf e es m in let is = h w.0 w.1 in (is.0, w.2 ∙ (ap nnf is.1 ∙ nnf-Name is.0)))

    -- ---- what the axioms give

    chain : (k : ℕ) (before : List Expr) (p : ℕ) (es : List Expr) (xs : List ℕ) (axs : List NormalAxiom) → Chain classes Fresh k before p es xs axs → HasFewRows classes (length es) axs
    chain k before p [] xs axs g = absurd g
    chain k before p (e ∷ []) [] axs g = absurd g
    chain k before p (e ∷ f ∷ es) [] axs g = absurd g
    chain k before p (e ∷ []) (x ∷ xs) axs g = at_most 0 1 axs (omega arith) (subst (HasFewRows classes 0) (sym g) (one_row (implies (x ∷ p ∷ []) []) (inl refl)))
    chain k before p (e ∷ f ∷ es) (x ∷ xs) axs (q, more, fresh, next, is) =
        let r = chain k (e ∷ before) q (f ∷ es) xs more next in
        let new : List NormalAxiom = implies (x ∷ []) (q ∷ []) ∷ implies (p ∷ []) (q ∷ []) ∷ implies (x ∷ p ∷ []) [] ∷ [] in
        at_most (suc (length (f ∷ es))) (length (e ∷ f ∷ es)) axs (omega arith)
        (subst (HasFewRows classes (suc (length (f ∷ es)))) (sym is)
        (with_fresh q (length (f ∷ es)) new more (λ row m. elim m [
          | inl a ↦ subst (IsFewRow classes (q ∷ [])) (sym a) (inr (q, refl, inr (inl refl)))
          | inr m ↦ elim m [
            | inl a ↦ subst (IsFewRow classes (q ∷ [])) (sym a) (inr (q, refl, inr (inl refl)))
            | inr m ↦ elim m [ inl a ↦ subst (IsFewRow classes (q ∷ [])) (sym a) (inl refl) | inr z ↦ absurd z ]
          ]
        ]) r))

    apart : (k : ℕ) (es : List Expr) (xs : List ℕ) (axs : List NormalAxiom) → Apart classes Fresh k es xs axs → HasFewRows classes (length es) axs
    apart k [] xs axs g = no_rows axs g
    apart k (e ∷ []) xs axs g = at_most 0 1 axs (omega arith) (no_rows axs g)
    apart k (e ∷ f ∷ []) xs axs g = at_most 0 2 axs (omega arith) (subst (HasFewRows classes 0) (sym g) (one_row (implies xs []) (inl refl)))
    apart k (e ∷ f ∷ g ∷ es) [] axs h = absurd h
    apart k (e ∷ f ∷ g ∷ es) (x ∷ xs) axs (p, more, fresh, next, is) =
        let r = chain k (e ∷ []) p (f ∷ g ∷ es) xs more next in
        at_most (suc (length (f ∷ g ∷ es))) (length (e ∷ f ∷ g ∷ es)) axs (omega arith)
        (subst (HasFewRows classes (suc (length (f ∷ g ∷ es)))) (sym is)
        (with_fresh p (length (f ∷ g ∷ es)) (implies (x ∷ []) (p ∷ []) ∷ []) more (λ row m. elim m [
          | inl a ↦ subst (IsFewRow classes (p ∷ [])) (sym a) (inr (p, refl, inr (inl refl)))
          | inr z ↦ absurd z
        ]) r))

    each_apart : (k : ℕ) (es : List Expr) (axs : List NormalAxiom) → RepresentsApart classes Fresh k es axs → ((e : Expr) → OneOf e es → IsName e) → HasFewRows classes (length es) axs
    each_apart k [] axs g h = no_rows axs g
    each_apart k (e ∷ []) axs g h = at_most 0 1 axs (omega arith) (no_rows axs g)
    each_apart k (e ∷ f ∷ es) axs (xs, a, b, u, g, is) h =
        let l : ℕ = length (e ∷ f ∷ es) in
        let none = (each false (e ∷ f ∷ es) xs a u h).0 in
        at_most (l + 0) l axs (omega arith) (subst (HasFewRows classes (l + 0)) (sym is) (join l 0 b a (apart k (e ∷ f ∷ es) xs b g) (no_rows a none)))

    kept_few : (seen es kept : List Expr) → Kept seen es kept → length kept ≤ length es
    kept_few seen [] kept k = omega (arith, ap (length {A = Expr}) k)
    kept_few seen (e ∷ es) kept (inl k) = let r = kept_few seen es kept k.1 in omega (arith, r)
    kept_few seen (e ∷ es) kept (inr k) = let r = kept_few (e ∷ seen) es k.1.0 k.1.2 in omega (arith, r, ap (length {A = Expr}) k.1.1)

    gives : (k : ℕ) (stated : Axiom) (axs : List NormalAxiom) → Gives classes Fresh k stated axs → IsOfNames stated → HasFewRows classes (disjoint_operands (stated ∷ [])) axs
    gives k (SubClass c d) axs (x, y, a, b, u, v, is) names =
        let p = name false c x a u names.0 in
        let q = name true d y b v names.1 in
        subst (HasFewRows classes 0) (sym is) (join 0 0 (implies (x ∷ []) (y ∷ []) ∷ []) (a ++ b) (one_row (implies (x ∷ []) (y ∷ [])) (inr (y, refl, inl q.1))) (join 0 0 a b (no_rows a p.0) (no_rows b q.0)))
    gives k (SameClasses l) axs (xs, ys, a, b, u, v, is) names =
        let p = each false l xs a u (all_of_member IsName l names) in
        let q = each true l ys b v (all_of_member IsName l names) in
        subst (HasFewRows classes 0) (sym is) (join 0 0 (circle atom_link xs ys) (a ++ b)
        (record {
          fresh = [];
          few = omega arith;
          rows = circle_all (IsFewRow classes []) atom_link xs ys (λ x. x < classes) (λ y. y < classes) (λ x y h k. inr (y, refl, inl k)) p.1 q.1;
        })
        (join 0 0 a b (no_rows a p.0) (no_rows b q.0)))
    gives k (Disjoint l) axs (kept, is, g) names =
        at_most (length kept) (disjoint_operands (Disjoint l ∷ [])) axs (omega (arith, kept_few [] l kept is))
        (each_apart k kept axs g (λ e m. all_of_member IsName l names e (kept_in [] l kept is e m).0))
    gives k (DisjointUnion c l) axs g names = absurd names
    gives k (SubRole r s) axs g names = subst (HasFewRows classes 0) (sym g) (one_row (role_link r s) tt)
    gives k (SameRoles l) axs g names = subst (HasFewRows classes 0) (sym g) (record {
      fresh = [];
      few = omega arith;
      rows = circle_all (IsFewRow classes []) role_link l l (λ r. Unit {0}) (λ r. Unit {0}) (λ r s h k. tt) (λ r m. tt) (λ r m. tt);
    })
    gives k (Domain r c) axs (x, a, u, is) names =
        subst (HasFewRows classes 0) (sym is) (join 0 0 _ a (one_row _ tt) (no_rows a (name true c x a u names).0))
    gives k (Range r c) axs (x, a, u, is) names =
        subst (HasFewRows classes 0) (sym is) (join 0 0 _ a (one_row _ tt) (no_rows a (name true c x a u names).0))

    one_more : (s : Axiom) (more : List Axiom) → disjoint_operands (s ∷ []) + disjoint_operands more ≡ disjoint_operands (s ∷ more)
    one_more (SubClass c d) more = omega arith
    one_more (SameClasses l) more = omega arith
    one_more (Disjoint l) more = omega arith
    one_more (DisjointUnion c l) more = omega arith
    one_more (SubRole r s) more = omega arith
    one_more (SameRoles l) more = omega arith
    one_more (Domain r c) more = omega arith
    one_more (Range r c) more = omega arith

    gives_from : (k : ℕ) (stated : List Axiom) (axs : List NormalAxiom) → GivesFrom classes Fresh k stated axs → All IsOfNames stated → HasFewRows classes (disjoint_operands stated) axs
    gives_from k [] axs g names = no_rows axs g
    gives_from k (s ∷ more) axs (a, b, g, h, is) names =
        subst (λ m. HasFewRows classes m axs) (one_more s more)
        (subst (HasFewRows classes (disjoint_operands (s ∷ []) + disjoint_operands more)) (sym is)
        (join (disjoint_operands (s ∷ [])) (disjoint_operands more) a b (gives k s a g (All-head IsOfNames s more names)) (gives_from (suc k) more b h (All-tail IsOfNames s more names))))

-- ---- the document

pub below_member : (a m : ℕ) → a < m → OneOf a (numbers_below m)
below_member a zero h = absurd (omega arith)
below_member a (suc m) h = elim (cases_eq a m) [ inl e ↦ inl e | inr d ↦ inr (below_member a m (omega arith)) ]

pub length-numbers_below : (m : ℕ) → length (numbers_below m) ≡ m
length-numbers_below zero = refl
length-numbers_below (suc m) = ap suc (length-numbers_below m)

abbrev right_of : NormalAxiom → List ℕ
right_of (n1 x) = x.right
right_of (n2 t) = []
right_of (n3 t) = []
right_of (n4 t) = []
right_of (n5 p) = []

module _ (document : Document) (n : Normal) (form : IsStructuralNormalForm document n) (names : All IsOfNames document.axioms) where
  abbrev classes : ℕ
  classes = length document.classes

  pub rows : HasFewRows classes (disjoint_operands document.axioms) form.axs
  rows = gives_from classes (IsFresh classes form.labels) 0 document.axioms form.axs form.gives names

  -- the classes, and the fresh atoms of axioms on disjoint classes
  abbrev pub atoms : List ℕ
  atoms = numbers_below classes ++ rows.fresh

  pub class_in : (a : ℕ) → a < classes → OneOf a atoms
  class_in a l = member_left a (numbers_below classes) rows.fresh (below_member a classes l)

  pub few_atoms : length atoms ≤ classes + disjoint_operands document.axioms
  few_atoms = omega (arith, length-append (numbers_below classes) rows.fresh, length-numbers_below classes, rows.few)

  some_class : 0 < classes
  some_class = omega (arith, length-take 2 document.classes, ap length document.reserved)

  pub no_choice : HasNoChoice n atoms
  no_choice = record {
    edgeless = λ t m. elim ((form.have (n2 t)).0 m) [
      | inl q ↦ (let z : n2 t ≡ implies [] (0 ∷ []) = q in cc)
      | inr k ↦ elim k [ inl q ↦ (let z : n2 t ≡ implies (1 ∷ []) [] = q in cc) | inr i ↦ rows.rows (n2 t) i ]
    ];
    single = λ x m. elim ((form.have (n1 x)).0 m) [
      | inl q ↦ inr (0, ap right_of q, class_in 0 some_class)
      | inr k ↦ elim k [ inl q ↦ inl (ap right_of q) | inr i ↦ right_in x (rows.rows (n1 x) i) ]
    ];
  }
    where
      right_in : (x : _) → IsFewRow classes rows.fresh (n1 x) → HasFewRight atoms x.right
      right_in x (inl none) = inl none
      right_in x (inr one) = inr (one.0, one.1, elim one.2 [ inl l ↦ class_in one.0 l | inr i ↦ member_right one.0 (numbers_below classes) rows.fresh i ])
