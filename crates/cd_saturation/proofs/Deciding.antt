-- What is decided stays decided where a group is replaced.
use Rattle.std.proofs.Common.{◌≡◌, ◌⊎◌, ℕ, ◌/◌, ◌<◌, true, List, [], ◌∷◌, ◌++◌, length, set, take, drop, refl, sym, ap, subst, ◌∙◌, inl, inr}
use Rattle.std.proofs.lemmas.List.{append-nil, length-set, take-append-drop}
use Rattle.cd_base.specs.Keys.{is_named}
use Rattle.cd_base.specs.Lists.{OneOf}
use Rattle.cd_base.specs.declared.answer.Answer.{Answer}
use Rattle.cd_base.specs.declared.answer.Answer.TheVariants.{Unsatisfiable, Of}
use Rattle.cd_base.specs.declared.normal.Normal.{Normal}
use Rattle.cd_base.proofs.Members.{member_left, member_right, member_cases}
use Rattle.cd_clause.specs.Derivations.{MayBeAsked}
use Rattle.cd_actor.specs.Cells.{At}
use Rattle.cd_actor.proofs.At.{at_of_set, at_one, at_same}
use Rattle.cd_model.specs.Exactness.{NoneIn, AllIn}
use Rattle.cd_saturation.specs.Decided.{HasMore, IsDecided, Replaces, with_name}
use Rattle.cd_saturation.specs.Groups.{halves}
use Rattle.cd_saturation.specs.declared.group.Group.{Group}

-- the second answer has the names of the first, and others only that have all members of the class
abbrev pub Extends : Normal → ℕ → Answer → Answer → Type 0
Extends n a Unsatisfiable Unsatisfiable = Unit {0}
Extends n a Unsatisfiable (Of cs) = ⊥
Extends n a (Of bs) Unsatisfiable = ⊥
Extends n a (Of bs) (Of cs) = ((b : ℕ) → OneOf b bs → OneOf b cs) × ((b : ℕ) → OneOf b cs → OneOf b bs ⊎ ((is_named n b ≡ true) × AllIn n a b))

extends_same : (n : Normal) (a : ℕ) (x : Answer) → Extends n a x x
extends_same n a Unsatisfiable = tt
extends_same n a (Of bs) = (λ b m. m, λ b m. inl m)

extends_more : (n : Normal) (a b : ℕ) → is_named n b ≡ true → AllIn n a b → (x : Answer) → Extends n a x (with_name b x)
extends_more n a b named all Unsatisfiable = tt
extends_more n a b named all (Of bs) = (
  λ c m. member_left c bs (b ∷ []) m,
  λ c m. elim (member_cases c bs (b ∷ []) m) [
    | inl k ↦ inl k
    | inr k ↦ elim k [ inl q ↦ inr (subst (λ z. (is_named n z ≡ true) × AllIn n a z) (sym q) (named, all)) | inr z ↦ absurd z ]
  ],
)

-- the answers grow by what is right, and each name that was open is in its answer or open in a group of the same class
pub record Moves (n : Normal) (above : List Answer) (groups : List Group) (above_new : List Answer) (groups_new : List Group) : Type 0 where
  pub each : length above_new ≡ length above
  pub answers : (a : ℕ) (y : Answer) → At above_new a y → (x : Answer) × At above a x × Extends n a x y
  pub from : (h : Group) → OneOf h groups_new → (g : Group) × OneOf g groups × (h.class ≡ g.class) × ((b : ℕ) → OneOf b h.names → OneOf b g.names)
  pub to : (g : Group) → OneOf g groups → (b : ℕ) → OneOf b g.names → AllIn n g.class b → (cs : List ℕ) → At above_new g.class (Of cs)
      → OneOf b cs ⊎ ((h : Group) × OneOf h groups_new × (h.class ≡ g.class) × OneOf b h.names)

module _ (n : Normal) (classes : ℕ) (above : List Answer) (groups : List Group) (above_new : List Answer) (groups_new : List Group) (d : IsDecided n classes above groups) (m : Moves n above groups above_new groups_new) where
  none_at : (a : ℕ) (x : Answer) → At above a x → Extends n a x Unsatisfiable → NoneIn n a
  none_at a Unsatisfiable at e = d.none a at
  none_at a (Of bs) at e = absurd e

  some_at : (a : ℕ) (x : Answer) (cs : List ℕ) → At above a x → Extends n a x (Of cs) → NoneIn n a → ⊥
  some_at a Unsatisfiable cs at e none = e
  some_at a (Of bs) cs at e none = d.some a bs at none

  only_at : (a : ℕ) (x : Answer) (cs : List ℕ) (b : ℕ) → At above a x → Extends n a x (Of cs) → OneOf b cs → (is_named n b ≡ true) × AllIn n a b
  only_at a Unsatisfiable cs b at e k = absurd e
  only_at a (Of bs) cs b at e k = elim (e.1 b k) [ inl j ↦ d.only a bs b at j | inr p ↦ p ]

  every_at : (a : ℕ) (x : Answer) (cs : List ℕ) (b : ℕ) → At above_new a (Of cs) → At above a x → Extends n a x (Of cs) → is_named n b ≡ true → AllIn n a b
      → OneOf b cs ⊎ ((g : Group) × OneOf g groups_new × (g.class ≡ a) × OneOf b g.names)
  every_at a Unsatisfiable cs b new at e named all = absurd e
  every_at a (Of bs) cs b new at e named all = elim (d.every a bs b at named all) [
    | inl k ↦ inl (e.0 b k)
    | inr g ↦ elim (m.to g.0 g.1 b g.3 (subst (λ z. AllIn n z b) (sym g.2) all) cs (subst (λ z. At above_new z (Of cs)) (sym g.2) new)) [
      | inl k ↦ inl k
      | inr h ↦ inr (h.0, h.1, h.2 ∙ g.2, h.3)
    ]
  ]

  pub moved : IsDecided n classes above_new groups_new
  moved = record {
    each = m.each ∙ d.each;
    none = λ a at. (let w = m.answers a Unsatisfiable at in none_at a w.0 w.1 w.2);
    some = λ a cs at. (let w = m.answers a (Of cs) at in some_at a w.0 cs w.1 w.2);
    only = λ a cs b at k. (let w = m.answers a (Of cs) at in only_at a w.0 cs b w.1 w.2 k);
    every = λ a cs b at named all. (let w = m.answers a (Of cs) at in every_at a w.0 cs b at w.1 w.2 named all);
    classes_below = λ h k. (let w = m.from h k in subst (λ z. z < classes) (sym w.2) (d.classes_below w.0 w.1));
    asked = λ h k b j. (let w = m.from h k in subst (λ (z : ℕ). MayBeAsked n z b) (sym w.2) (d.asked w.0 w.1 b (w.3 b j)));
  }

-- what stands in the place of a group
pub record Instead (n : Normal) (g : Group) (above_new : List Answer) (mid : List Group) : Type 0 where
  pub from : (h : Group) → OneOf h mid → (h.class ≡ g.class) × ((b : ℕ) → OneOf b h.names → OneOf b g.names)
  pub to : (b : ℕ) → OneOf b g.names → AllIn n g.class b → (cs : List ℕ) → At above_new g.class (Of cs)
      → OneOf b cs ⊎ ((h : Group) × OneOf h mid × (h.class ≡ g.class) × OneOf b h.names)

module _ (n : Normal) (g : Group) (above above_new : List Answer) (groups mid rest : List Group) (each : length above_new ≡ length above)
    (answers : (a : ℕ) (y : Answer) → At above_new a y → (x : Answer) × At above a x × Extends n a x y) (i : Instead n g above_new mid) where
  from_old : (h : Group) → OneOf h ((groups ++ mid) ++ rest) → (k : Group) × OneOf k (groups ++ g ∷ rest) × (h.class ≡ k.class) × ((b : ℕ) → OneOf b h.names → OneOf b k.names)
  from_old h m = elim (member_cases h (groups ++ mid) rest m) [
    | inl k ↦ elim (member_cases h groups mid k) [
      | inl p ↦ (h, member_left h groups (g ∷ rest) p, refl, λ b q. q)
      | inr p ↦ (let f = i.from h p in (g, member_right g groups (g ∷ rest) (inl refl), f.0, f.1))
    ]
    | inr k ↦ (h, member_right h groups (g ∷ rest) (inr k), refl, λ b q. q)
  ]

  abbrev Open : ℕ → ℕ → List ℕ → Type 0
  Open a b cs = OneOf b cs ⊎ ((h : Group) × OneOf h ((groups ++ mid) ++ rest) × (h.class ≡ a) × OneOf b h.names)

  to_mid : (b : ℕ) → OneOf b g.names → AllIn n g.class b → (cs : List ℕ) → At above_new g.class (Of cs) → Open g.class b cs
  to_mid b m all cs at = elim (i.to b m all cs at) [
    | inl o ↦ inl o
    | inr h ↦ inr (h.0, member_left h.0 (groups ++ mid) rest (member_right h.0 groups mid h.1), h.2, h.3)
  ]

  to_new : (k : Group) → OneOf k (groups ++ g ∷ rest) → (b : ℕ) → OneOf b k.names → AllIn n k.class b → (cs : List ℕ) → At above_new k.class (Of cs) → Open k.class b cs
  to_new k m b j all cs at = elim (member_cases k groups (g ∷ rest) m) [
    | inl p ↦ inr (k, member_left k (groups ++ mid) rest (member_left k groups mid p), refl, j)
    | inr p ↦ elim p [
      | inl q ↦ subst (λ (z : Group). OneOf b z.names → AllIn n z.class b → At above_new z.class (Of cs) → Open z.class b cs) (sym q) (λ j all at. to_mid b j all cs at) j all at
      | inr r ↦ inr (k, member_right k (groups ++ mid) rest r, refl, j)
    ]
  ]

  moves : Moves n above (groups ++ g ∷ rest) above_new ((groups ++ mid) ++ rest)
  moves = record { each = each; answers = answers; from = from_old; to = to_new }

  replaced : (classes : ℕ) (groups_new : List Group) → groups_new ≡ groups ++ mid → IsDecided n classes above (groups ++ g ∷ rest) → IsDecided n classes above_new (groups_new ++ rest)
  replaced classes groups_new e d =
      subst (λ (z : List Group). IsDecided n classes above_new (z ++ rest)) (sym e)
      (moved n classes above (groups ++ g ∷ rest) above_new ((groups ++ mid) ++ rest) d moves)

same_answers : (n : Normal) (above : List Answer) (a : ℕ) (y : Answer) → At above a y → (x : Answer) × At above a x × Extends n a x y
same_answers n above a y at = (y, at, extends_same n a y)

-- a group of which no name is above its class is let go of
pub dropped : (n : Normal) (g : Group) (above : List Answer) (groups : List Group) → ((b : ℕ) → OneOf b g.names → AllIn n g.class b → ⊥) → Replaces n g above groups above groups
dropped n g above groups none classes rest d =
    replaced n g above above groups [] rest refl (same_answers n above)
    record { from = λ h m. absurd m; to = λ b m all cs at. absurd (none b m all) }
    classes groups (sym (append-nil groups)) d

-- a group is replaced by its halves
pub halved : (n : Normal) (g : Group) (above : List Answer) (groups groups_new : List Group) → groups_new ≡ groups ++ halves g.class g.names → Replaces n g above groups above groups_new
halved n g above groups groups_new e classes rest d =
    replaced n g above above groups (halves g.class g.names) rest refl (same_answers n above) record { from = from; to = to } classes groups_new e d
  where
    front : Group
    front = record { class = g.class; names = take (length g.names / 2) g.names }

    back : Group
    back = record { class = g.class; names = drop (length g.names / 2) g.names }

    joined : take (length g.names / 2) g.names ++ drop (length g.names / 2) g.names ≡ g.names
    joined = take-append-drop (length g.names / 2) g.names

    of_front : (b : ℕ) → OneOf b (take (length g.names / 2) g.names) → OneOf b g.names
    of_front b m = subst (λ (z : List ℕ). OneOf b z) joined (member_left b (take (length g.names / 2) g.names) (drop (length g.names / 2) g.names) m)

    of_back : (b : ℕ) → OneOf b (drop (length g.names / 2) g.names) → OneOf b g.names
    of_back b m = subst (λ (z : List ℕ). OneOf b z) joined (member_right b (take (length g.names / 2) g.names) (drop (length g.names / 2) g.names) m)

    from : (h : Group) → OneOf h (halves g.class g.names) → (h.class ≡ g.class) × ((b : ℕ) → OneOf b h.names → OneOf b g.names)
    from h (inl q) = subst (λ (z : Group). (z.class ≡ g.class) × ((b : ℕ) → OneOf b z.names → OneOf b g.names)) (sym q) (refl, of_front)
    from h (inr (inl q)) = subst (λ (z : Group). (z.class ≡ g.class) × ((b : ℕ) → OneOf b z.names → OneOf b g.names)) (sym q) (refl, of_back)
    from h (inr (inr z)) = absurd z

    to : (b : ℕ) → OneOf b g.names → AllIn n g.class b → (cs : List ℕ) → At above g.class (Of cs) → OneOf b cs ⊎ ((h : Group) × OneOf h (halves g.class g.names) × (h.class ≡ g.class) × OneOf b h.names)
    to b m all cs at =
        elim (member_cases b (take (length g.names / 2) g.names) (drop (length g.names / 2) g.names) (subst (λ (z : List ℕ). OneOf b z) (sym joined) m)) [
          | inl j ↦ inr (front, inl refl, refl, j)
          | inr j ↦ inr (back, inr (inl refl), refl, j)
        ]

abbrev HasName : ℕ → Answer → Type 0
HasName b Unsatisfiable = Unit {0}
HasName b (Of cs) = OneOf b cs

name_added : (b : ℕ) (x : Answer) → HasName b (with_name b x)
name_added b Unsatisfiable = tt
name_added b (Of bs) = member_right b bs (b ∷ []) (inl refl)

-- a group of one name that is above its class goes into the answer
pub taken : (n : Normal) (g : Group) (b : ℕ) (above above_new : List Answer) (groups : List Group) → g.names ≡ b ∷ [] → AllIn n g.class b → HasMore g.class b above above_new → Replaces n g above groups above_new groups
taken n g b above above_new groups one all more classes rest d =
    replaced n g above above_new groups [] rest (ap length more.2 ∙ length-set above g.class (with_name b more.0)) answers
    record { from = λ h m. absurd m; to = to } classes groups (sym (append-nil groups)) d
  where
    named : is_named n b ≡ true
    named = (d.asked g (member_right g groups (g ∷ rest) (inl refl)) b (subst (λ (z : List ℕ). OneOf b z) (sym one) (inl refl))).0

    answers : (a : ℕ) (y : Answer) → At above_new a y → (x : Answer) × At above a x × Extends n a x y
    answers a y at = elim (at_of_set above g.class a (with_name b more.0) y (subst (λ (z : List Answer). At z a y) more.2 at)) [
      | inl p ↦ (
        more.0,
        subst (λ z. At above z more.0) (sym p.0) more.1,
        subst (λ z. Extends n a more.0 z) (sym p.1) (subst (λ z. Extends n z more.0 (with_name b more.0)) (sym p.0) (extends_more n g.class b named all more.0)),
      )
      | inr k ↦ (y, k, extends_same n a y)
    ]

    to : (c : ℕ) → OneOf c g.names → AllIn n g.class c → (cs : List ℕ) → At above_new g.class (Of cs) → OneOf c cs ⊎ ((h : Group) × OneOf h [] × (h.class ≡ g.class) × OneOf c h.names)
    to c m all cs at =
        let new : At (set above g.class (with_name b more.0)) g.class (Of cs) = subst (λ (z : List Answer). At z g.class (Of cs)) more.2 at in
        let q : Of cs ≡ with_name b more.0 = at_one (set above g.class (with_name b more.0)) g.class (Of cs) (with_name b more.0) new (at_same above g.class (with_name b more.0) more.0 more.1) in
        let j : OneOf b cs = subst (HasName b) (sym q) (name_added b more.0) in
        elim (subst (λ (z : List ℕ). OneOf c z) one m) [ inl e ↦ inl (subst (λ z. OneOf z cs) (sym e) j) | inr z ↦ absurd z ]
