use Rattle.std.proofs.Common.{◌≡◌, ◌++◌, map, take}
use Rattle.std.specs.List.{join_with_byte}
use Rattle.cd_meaning.specs.Text.{full_iri}
use Rattle.cd_taxonomy.proofs.printing.push_operands.Given as goal

abbrev pub invariant-loop-i : goal.invariant-loop-i
invariant-loop-i l = l.text.items ≡ l.initial.text.items ++ join_with_byte 32 (map (full_iri l.names) (take l.i l.classes))
