use Rattle.std.proofs.Common.{ℕ, ◌≡◌, ◌<◌, Ok, Err, Result}
use Rattle.std.specs.List.{All}
use Rattle.std.specs.Result.{IfOk}
use Rattle.cd_base.specs.declared.answer.Answer.TheVariants.{Of}
use Rattle.cd_taxonomy.specs.Steps.{superclasses}
use Rattle.cd_taxonomy.proofs.SuperclassLists.{superclasses_from_increasing, superclasses_of_unsatisfiable}
use Rattle.cd_taxonomy.proofs.counts.superclasses.Goals as goal

both_ok : {T E : Type 0} (P Q R : T → Type 0) (r : Result T E) → ((x : T) → P x → Q x → R x) → IfOk r P → IfOk r Q → IfOk r R
both_ok P Q R (Ok x) join p q = join x p q
both_ok P Q R (Err e) join p q = tt

pub returns-in-Unsatisfiable : goal.returns-in-Unsatisfiable
returns-in-Unsatisfiable c = rw (c.in-Unsatisfiable.is, superclasses_of_unsatisfiable) c.numbers_below.ensures

pub returns-in-Of : goal.returns-in-Of
returns-in-Of c =
    let atoms = c.in-Of.atoms in
    let within : All (λ (atom : ℕ). atom < c.args.n) atoms = rw c.in-Of.is at c.requires in
    rw c.in-Of.is (both_ok _ _ (λ found. found.items ≡ superclasses c.args.n (Of atoms)) c.numbers.result
    (λ found rises same. superclasses_from_increasing c.args.n atoms found.items within rises (rw c.items.ensures at same))
    c.numbers.ensures.ascending c.numbers.ensures.listed)
