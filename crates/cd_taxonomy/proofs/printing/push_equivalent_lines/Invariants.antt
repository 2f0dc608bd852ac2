use Rattle.std.proofs.Common.{◌≡◌, ◌++◌, flat_map, take}
use Rattle.cd_meaning.specs.Text.{group_text}
use Rattle.cd_taxonomy.specs.declared.groups.Group.{Group}
use Rattle.cd_taxonomy.proofs.printing.push_equivalent_lines.Given as goal

abbrev pub invariant-loop-group : goal.invariant-loop-group
invariant-loop-group l = l.text.items ≡ l.initial.text.items ++ flat_map (λ (g : Group). group_text l.names g.members) (take l.group-index l.groups)
