-- What closed cells tell is so in every model.
use Rattle.std.specs.Prelude.{◌≡◌, ◌⊎◌, ℕ, Bool, true, false, List, [], ◌∷◌}
use Rattle.cd_base.specs.Keys.{is_named}
use Rattle.cd_base.specs.Lists.{OneOf}
use Rattle.cd_base.specs.declared.normal.Normal.{Normal}
use Rattle.cd_clause.specs.Derivations.{MayBeAsked, start_key}
use Rattle.cd_model.specs.Canonical.{IsClosure, RolesInRange}
use Rattle.cd_model.specs.Exactness.{NoneIn, AllIn, AllInSome}
use Rattle.cd_actor.specs.Cells.{At}
use Rattle.cd_cell.specs.Cells.{CellState}
use Rattle.cd_cell.specs.ClosedCells.{AreSettled}
use Rattle.cd_cell.specs.Subsumers.{HasContext, IsReadingIn}
use Rattle.cd_cell.specs.declared.reading.Reading.{Reading}
use Rattle.cd_cell.specs.declared.reading.Reading.TheVariants.{Unsatisfiable, Of}

-- the class has an element in some model, each element of it is in every model in those above, and each named atom that has all its elements in
-- every model is among those above or among those left open, which may be asked for
pub record IsTrueNames (n : Normal) (a : ℕ) (above left_open : List ℕ) : Type 0 where
  pub some : NoneIn n a → ⊥
  pub above_all : (b : ℕ) → OneOf b above → (is_named n b ≡ true) × AllIn n a b
  pub asked : (b : ℕ) → OneOf b left_open → MayBeAsked n a b
  pub every : (b : ℕ) → is_named n b ≡ true → AllIn n a b → OneOf b above ⊎ OneOf b left_open

abbrev pub IsTrueReading : Normal → ℕ → Reading → Type 0
IsTrueReading n a Unsatisfiable = NoneIn n a
IsTrueReading n a (Of above left_open) = IsTrueNames n a above left_open

-- where the cell is one of closed cells, the reading is true
abbrev pub IsTrueReadingIn : CellState → ℕ → Reading → Type 0
IsTrueReadingIn cell a reading = (below : ℕ → ℕ → Bool) → IsClosure cell.normal below
    → RolesInRange cell.normal → (cells : List CellState) → AreSettled cell.normal cells
    → (i : ℕ) → At cells i cell → IsTrueReading cell.normal a reading

-- whether a context of a and of these others, negated, is empty tells whether in every model each element of a is in some of the others; of
-- one other, whether it is in that; and where it isn't empty, none of the others has all elements of a in every model
pub record IsTrueTest (n : Normal) (a : ℕ) (others : List ℕ) (empty : Bool) : Type 0 where
  pub some : empty ≡ true → AllInSome n a others
  pub one : (b : ℕ) → others ≡ b ∷ [] → empty ≡ true → AllIn n a b
  pub none : empty ≡ false → (b : ℕ) → OneOf b others → AllIn n a b → ⊥

-- where the cell is one of closed cells, the test of the key's context is true
abbrev pub IsTrueTestIn : CellState → List ℕ → Bool → Type 0
IsTrueTestIn cell key empty = (below : ℕ → ℕ → Bool) → IsClosure cell.normal below
    → RolesInRange cell.normal → (cells : List CellState) → AreSettled cell.normal cells
    → (i : ℕ) → At cells i cell → (a : ℕ) (others : List ℕ) → key ≡ start_key a others
    → IsTrueTest cell.normal a others empty

-- no reading is against another
abbrev pub Agree : Reading → Reading → Type 0
Agree Unsatisfiable Unsatisfiable = Unit {0}
Agree Unsatisfiable (Of above left_open) = ⊥
Agree (Of above left_open) Unsatisfiable = ⊥
Agree (Of above left_open) (Of other_above other_open) =
    ((b : ℕ) → OneOf b above → OneOf b other_above ⊎ OneOf b other_open)
    × ((b : ℕ) → OneOf b other_above → OneOf b above ⊎ OneOf b left_open)

-- any two lists of closed cells for the same normal axioms, in which the class has a context, agree on it: so whatever the order of delivery and
-- the number of cells, what runs to their end tell is not against each other
abbrev pub SameReadings : Type 0
SameReadings = (n : Normal) (below : ℕ → ℕ → Bool) → IsClosure n below → RolesInRange n
    → (cells others : List CellState) → AreSettled n cells → AreSettled n others
    → (i j : ℕ) (c d : CellState) → At cells i c → At others j d → (a : ℕ)
    → HasContext c.contexts a → HasContext d.contexts a
    → (x y : Reading) → IsReadingIn n c.contexts a x → IsReadingIn n d.contexts a y → Agree x y
