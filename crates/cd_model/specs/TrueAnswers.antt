-- Answers that are so in every model.
use Rattle.std.specs.Prelude.{◌≡◌, ◌↔◌, ℕ, true}
use Rattle.std.specs.List.Sorted.{IsStrictlyIncreasing}
use Rattle.cd_base.specs.Keys.{is_named}
use Rattle.cd_base.specs.Lists.{OneOf}
use Rattle.cd_base.specs.declared.answer.Answer.{Answer}
use Rattle.cd_base.specs.declared.answer.Answer.TheVariants.{Unsatisfiable, Of}
use Rattle.cd_base.specs.declared.normal.Normal.{Normal}
use Rattle.cd_model.specs.Exactness.{NoneIn, AllIn}

-- the class has no element in any model; or it has one in some, and the atoms ascend and are the named ones that have each of its elements in every model
abbrev pub IsTrueAnswer : Normal → ℕ → Answer → Type 0
IsTrueAnswer n a Unsatisfiable = NoneIn n a
IsTrueAnswer n a (Of atoms) =
    (NoneIn n a → ⊥) × IsStrictlyIncreasing atoms
    × ((b : ℕ) → OneOf b atoms ↔ ((is_named n b ≡ true) × AllIn n a b))

-- a class has one true answer
abbrev pub OneTrueAnswer : Type 0
OneTrueAnswer = (n : Normal) (a : ℕ) (x y : Answer) → IsTrueAnswer n a x → IsTrueAnswer n a y
    → x ≡ y
