use Rattle.std.proofs.Common.{◌≡◌, ℕ, ◌<◌, true, false, ◌||◌, ◌∷◌, ◌++◌, [], length, get_or, nat_eq, arith, sym, ap, ◌∙◌}
use Rattle.std.specs.HashSet.{contains}
use Rattle.std.specs.List.{list_any}
use Rattle.std.proofs.lemmas.Grind.{common_steps}
use Rattle.std.proofs.lemmas.List.{get_or_read}
use Rattle.cd_base.specs.declared.answer.Answer.TheVariants.{Unsatisfiable}
use Rattle.cd_taxonomy.specs.declared.parents.Candidate.{Candidate}
use Rattle.cd_taxonomy.specs.Covered.{class_of, lists, covers}
use Rattle.cd_taxonomy.proofs.Uncovered.{covered_push, uncovered_passed, uncovered_taken}
use Rattle.cd_taxonomy.proofs.parents.uncovered.Goals as goal
use Rattle.cd_taxonomy.proofs.parents.uncovered.Goals.{then-not-contains+in_ok-push+in_ok-cover, else-not-contains}

pub loop-candidate-preserved : goal.loop-candidate-preserved
loop-candidate-preserved c =
    let cover = covers c.args.above.now in
    let i = c.loop-candidate.candidate-index in
    let none : Candidate = record { class = 0; superclasses = 0 } in
    let d : ℕ = class_of (get_or c.args.candidates.now i none) in
    let old = c.loop-candidate.found.items in
    let within : i < length c.args.candidates.now = omega arith in
    let covered : c.contains.result ≡ list_any (λ b. cover b d) old = c.contains.ensures ∙ c.loop-candidate.invariant.covered d in
    elim c.if-not-contains.branch [
      | then-not-contains+in_ok-push+in_ok-cover w ↦
          let pushed : c.if-not-contains.found.items ≡ old ++ d ∷ [] = grind (arith, common_steps) in
          let answer : w.index-above-candidate.result ≡ get_or c.args.above.now d Unsatisfiable
          = get_or_read c.args.above.now d w.index-above-candidate.result (c.requires i none within) w.index-above-candidate.is Unsatisfiable in
          let free : list_any (λ b. cover b d) old ≡ false = sym covered ∙ w.if-not-contains.true in
          record {
            found = pushed ∙ uncovered_taken cover c.args.candidates.now i none within old c.loop-candidate.invariant.found free;
            covered = λ b. ap (λ s. contains nat_eq s b) w.covered-is ∙ w.in_ok-cover.ensures b
                ∙ ap (λ t. t || lists w.index-above-candidate.result b) (c.loop-candidate.invariant.covered b)
                ∙ ap (λ a. list_any (λ e. cover e b) old || lists a b) answer
                ∙ sym (covered_push cover old d b)
                ∙ ap (λ xs. list_any (λ e. cover e b) xs) (sym pushed);
          }
      | else-not-contains w ↦
          let same : c.if-not-contains.found.items ≡ old = cc in
          let taken : list_any (λ b. cover b d) old ≡ true = sym covered ∙ w.if-not-contains.false in
          record {
            found = same ∙ uncovered_passed cover c.args.candidates.now i none within old c.loop-candidate.invariant.found taken;
            covered = λ b. ap (λ s. contains nat_eq s b) w.covered-is ∙ c.loop-candidate.invariant.covered b ∙ ap (λ xs. list_any (λ e. cover e b) xs) (sym same);
          }
    ]
