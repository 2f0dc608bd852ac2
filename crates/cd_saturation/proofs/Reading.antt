-- What the contexts of closed cells tell, and how the answers grow by what is read of one class more.
use Rattle.std.proofs.Common.{◌≡◌, ◌⊎◌, ℕ, ◌+◌, ◌<◌, Bool, true, List, [], ◌∷◌, ◌++◌, length-append, refl, sym, ap, subst, ◌∙◌, inl, inr, arith}
use Rattle.cd_base.specs.Keys.{is_named}
use Rattle.cd_base.specs.Lists.{OneOf}
use Rattle.cd_base.specs.declared.answer.Answer.{Answer}
use Rattle.cd_base.specs.declared.answer.Answer.TheVariants.{Unsatisfiable, Of}
use Rattle.cd_base.specs.declared.normal.Normal.{Normal}
use Rattle.cd_base.proofs.Members.{member_left, member_right, member_cases}
use Rattle.cd_clause.specs.Derivations.{MayBeAsked}
use Rattle.cd_actor.specs.Cells.{At}
use Rattle.cd_actor.proofs.At.{at_one}
use Rattle.cd_context.specs.declared.facts.Fact.TheVariants.{Start}
use Rattle.cd_model.specs.Canonical.{RolesInRange}
use Rattle.cd_model.specs.Exactness.{NoneIn, AllIn}
use Rattle.cd_cell.specs.Cells.{CellState, place_of}
use Rattle.cd_cell.specs.ClosedCells.{AreSettled}
use Rattle.cd_cell.specs.Subsumers.{HasContextAt}
use Rattle.cd_cell.specs.TrueAnswers.{IsTrueReading, IsTrueReadingIn, IsTrueTestIn}
use Rattle.cd_cell.specs.declared.reading.Reading.{Reading}
use Rattle.cd_cell.proofs.Lookups.{has_from, member_of_state}
use Rattle.cd_saturation.specs.Decided.{AreExactCells, IsDecided, IsTrueTestOf, answer_of, group_of}
use Rattle.cd_saturation.specs.Groups.{open_of}
use Rattle.cd_saturation.specs.Saturation.{HasBegun, HasClosure}
use Rattle.cd_saturation.specs.declared.group.Group.{Group}
use Rattle.cd_saturation.proofs.Runs.{at_push}

-- ---- the cell of a key

module _ (count : ℕ) (key : List ℕ) (cells : List CellState) (place : ℕ) (is : place ≡ place_of count key) (c : CellState) (at : At cells place c) where
  -- a context that has begun is in the cell of its key
  pub context_here : HasBegun count cells key → HasContextAt c.contexts key
  context_here h =
      let f = has_from h.0.contexts (record { key = key; fact = Start }) h.2 in
      subst (λ (d : CellState). HasContextAt d.contexts key) (at_one cells place h.0 c (subst (λ p. At cells p h.0) (sym is) h.1) at)
      (f.0, member_of_state h.0.contexts key f.0 f.1)

module _ (cells : List CellState) (place : ℕ) (c : CellState) (at : At cells place c) (n : Normal) (e : AreExactCells n cells) where
  pub reading_true : (a : ℕ) (reading : Reading) → IsTrueReadingIn c a reading → IsTrueReading n a reading
  reading_true a reading is =
      (subst (λ z. HasClosure z → RolesInRange z → AreSettled z cells → IsTrueReading z a reading) (e.settled.normal place c at)
      (λ closure roles settled. is closure.0 closure.1 roles cells settled place at)) e.closure e.roles e.settled

  pub test_true : (key : List ℕ) (empty : Bool) → IsTrueTestIn c key empty → IsTrueTestOf n key empty
  test_true key empty is =
      (subst (λ z. HasClosure z → RolesInRange z → AreSettled z cells → IsTrueTestOf z key empty) (e.settled.normal place c at)
      (λ closure roles settled. is closure.0 closure.1 roles cells settled place at)) e.closure e.roles e.settled

-- ---- one class more

-- nothing is read of no class
pub none_read : (n : Normal) → IsDecided n 0 [] []
none_read n = record {
  each = refl;
  none = λ a at. absurd at;
  some = λ a bs at. absurd at;
  only = λ a bs b at. absurd at;
  every = λ a bs b at. absurd at;
  classes_below = λ g m. absurd m;
  asked = λ g m. absurd m;
}

abbrev IsNoList : Answer → Type 0
IsNoList Unsatisfiable = Unit {0}
IsNoList (Of bs) = ⊥

abbrev names_of : Answer → List ℕ
names_of Unsatisfiable = []
names_of (Of bs) = bs

open_member : (k b : ℕ) (left_open : List ℕ) → OneOf b left_open → OneOf (record { class = k; names = left_open }) (open_of k left_open)
open_member k b [] m = absurd m
open_member k b (c ∷ cs) m = inl refl

member_open : (k : ℕ) (left_open : List ℕ) (g : Group) → OneOf g (open_of k left_open) → g ≡ record { class = k; names = left_open }
member_open k [] g m = absurd m
member_open k (c ∷ cs) g (inl q) = q
member_open k (c ∷ cs) g (inr z) = absurd z

module _ (n : Normal) (k : ℕ) where
  new_none : (r : Reading) → IsTrueReading n k r → Unsatisfiable ≡ answer_of r → NoneIn n k
  new_none Reading.Unsatisfiable t e = t
  new_none (Reading.Of names left_open) t e = absurd (subst IsNoList e tt)

  new_some : (r : Reading) → IsTrueReading n k r → (bs : List ℕ) → Of bs ≡ answer_of r → NoneIn n k → ⊥
  new_some Reading.Unsatisfiable t bs e none = subst IsNoList (sym e) tt
  new_some (Reading.Of names left_open) t bs e none = t.some none

  new_only : (r : Reading) → IsTrueReading n k r → (bs : List ℕ) (b : ℕ) → Of bs ≡ answer_of r → OneOf b bs → (is_named n b ≡ true) × AllIn n k b
  new_only Reading.Unsatisfiable t bs b e m = absurd (subst IsNoList (sym e) tt)
  new_only (Reading.Of names left_open) t bs b e m = t.above_all b (subst (λ (z : List ℕ). OneOf b z) (ap names_of e) m)

  new_every : (r : Reading) → IsTrueReading n k r → (bs : List ℕ) (b : ℕ) → Of bs ≡ answer_of r → is_named n b ≡ true → AllIn n k b
      → OneOf b bs ⊎ ((g : Group) × OneOf g (group_of k r) × (g.class ≡ k) × OneOf b g.names)
  new_every Reading.Unsatisfiable t bs b e named all = absurd (subst IsNoList (sym e) tt)
  new_every (Reading.Of names left_open) t bs b e named all = elim (t.every b named all) [
    | inl m ↦ inl (subst (λ (z : List ℕ). OneOf b z) (sym (ap names_of e)) m)
    | inr m ↦ inr (record { class = k; names = left_open }, open_member k b left_open m, refl, m)
  ]

  new_class : (r : Reading) (g : Group) → OneOf g (group_of k r) → g.class ≡ k
  new_class Reading.Unsatisfiable g m = absurd m
  new_class (Reading.Of names left_open) g m = ap (λ (z : Group). z.class) (member_open k left_open g m)

  new_asked : (r : Reading) → IsTrueReading n k r → (g : Group) → OneOf g (group_of k r) → (b : ℕ) → OneOf b g.names → MayBeAsked n g.class b
  new_asked Reading.Unsatisfiable t g m b j = absurd m
  new_asked (Reading.Of names left_open) t g m b j =
      let is = member_open k left_open g m in
      subst (λ (z : ℕ). MayBeAsked n z b) (sym (ap (λ (z : Group). z.class) is)) (t.asked b (subst (λ (z : List ℕ). OneOf b z) (ap (λ (z : Group). z.names) is) j))

  module _ (above : List Answer) (groups : List Group) (r : Reading) (d : IsDecided n k above groups) (t : IsTrueReading n k r) where
    abbrev more_above : List Answer
    more_above = above ++ answer_of r ∷ []

    abbrev more_groups : List Group
    more_groups = groups ++ group_of k r

    none : (a : ℕ) → At more_above a Unsatisfiable → NoneIn n a
    none a at = elim (at_push above (answer_of r) Unsatisfiable a at) [
      | inl h ↦ d.none a h
      | inr h ↦ subst (NoneIn n) (sym (h.0 ∙ d.each)) (new_none r t h.1)
    ]

    some : (a : ℕ) (bs : List ℕ) → At more_above a (Of bs) → NoneIn n a → ⊥
    some a bs at = elim (at_push above (answer_of r) (Of bs) a at) [
      | inl h ↦ d.some a bs h
      | inr h ↦ subst (λ z. NoneIn n z → ⊥) (sym (h.0 ∙ d.each)) (new_some r t bs h.1)
    ]

    only : (a : ℕ) (bs : List ℕ) (b : ℕ) → At more_above a (Of bs) → OneOf b bs → (is_named n b ≡ true) × AllIn n a b
    only a bs b at m = elim (at_push above (answer_of r) (Of bs) a at) [
      | inl h ↦ d.only a bs b h m
      | inr h ↦ subst (λ z. (is_named n b ≡ true) × AllIn n z b) (sym (h.0 ∙ d.each)) (new_only r t bs b h.1 m)
    ]

    every_old : (a : ℕ) (bs : List ℕ) (b : ℕ) → At above a (Of bs) → is_named n b ≡ true → AllIn n a b → OneOf b bs ⊎ ((g : Group) × OneOf g more_groups × (g.class ≡ a) × OneOf b g.names)
    every_old a bs b h named all = elim (d.every a bs b h named all) [
      | inl m ↦ inl m
      | inr g ↦ inr (g.0, member_left g.0 groups (group_of k r) g.1, g.2, g.3)
    ]

    every_new : (bs : List ℕ) (b : ℕ) → Of bs ≡ answer_of r → is_named n b ≡ true → AllIn n k b → OneOf b bs ⊎ ((g : Group) × OneOf g more_groups × (g.class ≡ k) × OneOf b g.names)
    every_new bs b e named all = elim (new_every r t bs b e named all) [
      | inl m ↦ inl m
      | inr g ↦ inr (g.0, member_right g.0 groups (group_of k r) g.1, g.2, g.3)
    ]

    every : (a : ℕ) (bs : List ℕ) (b : ℕ) → At more_above a (Of bs) → is_named n b ≡ true → AllIn n a b → OneOf b bs ⊎ ((g : Group) × OneOf g more_groups × (g.class ≡ a) × OneOf b g.names)
    every a bs b at = elim (at_push above (answer_of r) (Of bs) a at) [
      | inl h ↦ every_old a bs b h
      | inr h ↦ subst (λ z. is_named n b ≡ true → AllIn n z b → OneOf b bs ⊎ ((g : Group) × OneOf g more_groups × (g.class ≡ z) × OneOf b g.names)) (sym (h.0 ∙ d.each)) (every_new bs b h.1)
    ]

    classes_below : (g : Group) → OneOf g more_groups → g.class < k + 1
    classes_below g m = elim (member_cases g groups (group_of k r) m) [
      | inl h ↦ (let l = d.classes_below g h in omega arith)
      | inr h ↦ (let l = new_class r g h in omega arith)
    ]

    asked : (g : Group) → OneOf g more_groups → (b : ℕ) → OneOf b g.names → MayBeAsked n g.class b
    asked g m b j = elim (member_cases g groups (group_of k r) m) [
      | inl h ↦ d.asked g h b j
      | inr h ↦ new_asked r t g h b j
    ]

    pub one_more : IsDecided n (k + 1) more_above more_groups
    one_more = record {
      each = (let e = d.each in omega (arith, length-append above (answer_of r ∷ [])));
      none = none;
      some = some;
      only = only;
      every = every;
      classes_below = classes_below;
      asked = asked;
    }

pub read_more : (n : Normal) (k : ℕ) (above above_new : List Answer) (groups groups_new : List Group) (r : Reading) → IsDecided n k above groups → IsTrueReading n k r
    → above_new ≡ above ++ answer_of r ∷ [] → groups_new ≡ groups ++ group_of k r → IsDecided n (k + 1) above_new groups_new
read_more n k above above_new groups groups_new r d t a g =
    subst (λ z. IsDecided n (k + 1) z groups_new) (sym a) (subst (λ z. IsDecided n (k + 1) (above ++ answer_of r ∷ []) z) (sym g) (one_more n k above groups r d t))
