-- What is decided of the superclasses of classes, and what is open.
use Rattle.std.specs.Prelude.{◌≡◌, ℕ, ◌<◌, ◌⊎◌, Bool, true, List, [], ◌∷◌, ◌++◌, length, slice_set}
use Rattle.cd_base.specs.Keys.{is_named}
use Rattle.cd_base.specs.Lists.{OneOf}
use Rattle.cd_base.specs.declared.answer.Answer.{Answer}
use Rattle.cd_base.specs.declared.answer.Answer.TheVariants.{Unsatisfiable, Of}
use Rattle.cd_base.specs.declared.normal.Normal.{Normal}
use Rattle.cd_actor.specs.Cells.{At}
use Rattle.cd_clause.specs.Derivations.{MayBeAsked, start_key}
use Rattle.cd_model.specs.Canonical.{RolesInRange}
use Rattle.cd_model.specs.Exactness.{NoneIn, AllIn}
use Rattle.cd_cell.specs.Cells.{CellState}
use Rattle.cd_cell.specs.ClosedCells.{AreSettled}
use Rattle.cd_cell.specs.TrueAnswers.{IsTrueTest}
use Rattle.cd_cell.specs.declared.reading.Reading.{Reading}
use Rattle.cd_saturation.specs.Groups.{open_of}
use Rattle.cd_saturation.specs.Saturation.{HasClosure}
use Rattle.cd_saturation.specs.declared.group.Group.{Group}

-- closed cells for these normal axioms, whose roles are in range and have a closure: what their contexts tell is true
pub record AreExactCells (n : Normal) (cells : List CellState) : Type 0 where
  pub closure : HasClosure n
  pub roles : RolesInRange n
  pub settled : AreSettled n cells

-- The answers of the first classes, as far as they are decided. In every model each member of a class is in the names of its answer; and a
-- name that has all members of the class in every model is in its answer, or in one of its groups, so that it is still open.
pub record IsDecided (n : Normal) (classes : ℕ) (above : List Answer)
    (groups : List Group) : Type 0 where
  pub each : length above ≡ classes
  pub none : (a : ℕ) → At above a Unsatisfiable → NoneIn n a
  pub some : (a : ℕ) (bs : List ℕ) → At above a (Of bs) → NoneIn n a → ⊥
  pub only : (a : ℕ) (bs : List ℕ) (b : ℕ) → At above a (Of bs) → OneOf b bs
      → (is_named n b ≡ true) × AllIn n a b
  pub every : (a : ℕ) (bs : List ℕ) (b : ℕ) → At above a (Of bs) → is_named n b ≡ true
      → AllIn n a b
      → OneOf b bs ⊎ ((g : Group) × OneOf g groups × (g.class ≡ a) × OneOf b g.names)
  pub classes_below : (g : Group) → OneOf g groups → g.class < classes
  pub asked : (g : Group) → OneOf g groups → (b : ℕ) → OneOf b g.names
      → MayBeAsked n g.class b

-- what was decided stays decided where the group is replaced, whatever other groups there are
abbrev pub Replaces : Normal → Group → List Answer → List Group → List Answer → List Group → Type 0
Replaces n g above groups above_new groups_new =
    (classes : ℕ) (rest : List Group) → IsDecided n classes above (groups ++ g ∷ rest)
    → IsDecided n classes above_new (groups_new ++ rest)

-- whether the context of the key has the empty clause is a true test of each class and names whose key it is
abbrev pub IsTrueTestOf : Normal → List ℕ → Bool → Type 0
IsTrueTestOf n key empty = (a : ℕ) (others : List ℕ) → key ≡ start_key a others
    → IsTrueTest n a others empty

-- the answer with one name more
abbrev pub with_name : ℕ → Answer → Answer
with_name b Unsatisfiable = Unsatisfiable
with_name b (Of bs) = Of (bs ++ b ∷ [])

-- the answer of the class has one name more, and the others are the same
abbrev pub HasMore : ℕ → ℕ → List Answer → List Answer → Type 0
HasMore class b above above_new = (answer : Answer) × At above class answer
    × (above_new ≡ slice_set above class (with_name b answer))

-- the answer that is read of a class
abbrev pub answer_of : Reading → Answer
answer_of Reading.Unsatisfiable = Unsatisfiable
answer_of (Reading.Of names left_open) = Of names

-- the group that is read of a class, if some names are open
abbrev pub group_of : ℕ → Reading → List Group
group_of class Reading.Unsatisfiable = []
group_of class (Reading.Of names left_open) = open_of class left_open
