use Rattle.std.proofs.Common.{◌≡◌, ℕ, List, ◌==◌, length, sym, ap, ◌∙◌, Vec, Global}
use Rattle.cd_index.specs.Index.{is_free}
use Rattle.cd_index.proofs.Numbers.{left_read, numbers_taken, numbers_left}
use Rattle.cd_index.proofs.by_atom.free_numbers.Goals as goal
use Rattle.cd_index.proofs.by_atom.free_numbers.Goals.{then-is_empty+in_ok-push, else-is_empty}

pub loop-number-preserved : goal.loop-number-preserved
loop-number-preserved c =
    let axioms = c.args.axioms.now in
    let i = c.loop-number.number in
    let tested : is_free axioms i ≡ c.is_empty.result
    = ap (λ (l : List ℕ). length l == 0) (left_read axioms i c.index-axioms-number.result c.loop-number-test.true c.index-axioms-number.is ∙ sym c.items.ensures) ∙ sym c.is_empty.ensures in
    elim c.if-is_empty.branch [
      | then-is_empty+in_ok-push w ↦
          ap (λ (v : Vec ℕ Global). v.items) w.free-is
          ∙ numbers_taken (is_free axioms) i c.loop-number.free.items w.push.new.self.items (tested ∙ w.if-is_empty.true) c.loop-number.invariant w.in_ok-push.ensures.items
      | else-is_empty w ↦ ap (λ (v : Vec ℕ Global). v.items) w.free-is ∙ c.loop-number.invariant ∙ numbers_left (is_free axioms) i (tested ∙ w.if-is_empty.false)
    ]
