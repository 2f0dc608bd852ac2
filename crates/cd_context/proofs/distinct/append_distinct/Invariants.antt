use Rattle.cd_context.proofs.Once.{IsAdding}
use Rattle.cd_context.proofs.distinct.append_distinct.Given as goal

abbrev pub invariant-distinct : goal.invariant-distinct
invariant-distinct l = IsAdding l.initial.note-iterator l.note-iterator l.fn.out.items l.out.items
