-- The answers in which nothing is open are those to the document.
use Rattle.std.proofs.Common.{◌≡◌, ℕ, zero, suc, ◌<◌, List, [], ◌∷◌, length, get_or, slice_index_or, refl, sym, ap, subst, arith}
use Rattle.std.specs.Prelude.{Result, Ok, Err, IfErr}
use Rattle.cd_actor.specs.Cells.{At}
use Rattle.cd_base.specs.declared.answer.Answer.{Answer}
use Rattle.cd_base.specs.declared.answer.Answer.TheVariants.{Unsatisfiable}
use Rattle.cd_base.specs.declared.limit_kind.LimitKind.{LimitKind}
use Rattle.cd_base.specs.declared.normal.Normal.{Normal}
use Rattle.cd_meaning.specs.declared.document.Document.{Document}
use Rattle.cd_normal.specs.NormalForm.{IsStructuralNormalForm}
use Rattle.cd_saturation.specs.Answers.{AreAnswers}
use Rattle.cd_saturation.specs.Decided.{IsDecided}
use Rattle.cd_saturation.specs.Limit.{HasReached, HasHalted}
use Rattle.cd_saturation.specs.declared.halt.Halt.{Halt}
use Rattle.cd_saturation.specs.declared.halt.Halt.TheVariants.{Limit, Memory}
use Rattle.cd_saturation.proofs.Documents.{answer_decides, answer_within, are_answers}

-- what stands at a place of a list
at_place : {X : Type 0} (xs : List X) (i : ℕ) (d : X) → i < length xs → At xs i (get_or xs i d)
at_place [] i d lt = absurd (omega arith)
at_place (x ∷ xs) zero d lt = refl
at_place (x ∷ xs) (suc i) d lt = at_place xs i d (omega arith)

pub answers_are : (document : Document) (n : Normal) → IsStructuralNormalForm document n → (above : List Answer) → IsDecided n (length document.classes) above [] → AreAnswers document above
answers_are document n m above d =
    let each : length above ≡ length document.classes = d.each in
    are_answers document above
    (λ a b la lb. answer_decides document n m above d a la (slice_index_or above a Unsatisfiable) (at_place above a Unsatisfiable (omega arith)) b lb)
    each
    (λ a x lt. answer_within document n m above d a (get_or above a x) (at_place above a x lt))

-- what a result tells of its end
abbrev halt_in : {X : Type 0} → Result X Halt → Halt
halt_in (Ok x) = Memory
halt_in (Err halt) = halt

abbrev IsLimit : Halt → Type 0
IsLimit (Limit kind number) = Unit {0}
IsLimit Memory = ⊥

-- memory that ran out is no maximum
pub no_limit : {X : Type 0} (halt : Halt) (kind : LimitKind) (number : ℕ) → halt ≡ Memory → ◌≡◌ {A = Result X Halt} (Err halt) (Err (Limit kind number)) → ⊥
no_limit {X} halt kind number memory e = subst IsLimit memory (subst IsLimit (sym (ap (halt_in {X = X}) e)) tt)

-- a maximum that is told was reached
pub reached : {X : Type 0} (n : Normal) (max_contexts max_facts : ℕ) (r : Result X Halt) (kind : LimitKind) (number : ℕ) → IfErr r (HasHalted n max_contexts max_facts) → r ≡ Err (Limit kind number) → HasReached n max_contexts max_facts kind number
reached {X} n mc mf r kind number h e = subst (λ (z : Result X Halt). IfErr z (HasHalted n mc mf)) e h
