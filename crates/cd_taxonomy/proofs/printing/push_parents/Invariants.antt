use Rattle.std.proofs.Common.{◌≡◌, ◌++◌, map, take, slice_index_or}
use Rattle.cd_meaning.specs.Text.{parents_text}
use Rattle.cd_taxonomy.specs.Lines.{head, no_group}
use Rattle.cd_taxonomy.proofs.printing.push_parents.Given as goal

abbrev pub invariant-loop-parent : goal.invariant-loop-parent
invariant-loop-parent l = l.text.items ≡ l.initial.text.items ++ parents_text l.names l.class (map (λ p. head (slice_index_or l.groups p no_group)) (take l.parent-index l.parents))
