use Rattle.std.proofs.Common.{◌≡◌, ◌++◌, flat_map, filter, take}
use Rattle.cd_meaning.specs.Text.{parents_text}
use Rattle.cd_taxonomy.specs.declared.groups.Group.{Group}
use Rattle.cd_taxonomy.specs.Lines.{head, is_proper, parent_heads}
use Rattle.cd_taxonomy.proofs.printing.push_subclass_lines.Given as goal

abbrev pub invariant-loop-group : goal.invariant-loop-group
invariant-loop-group l = l.text.items
    ≡ l.initial.text.items ++ flat_map (λ (g : Group). parents_text l.names (head g) (parent_heads l.groups g)) (filter is_proper (take l.group-index l.groups))
