use Rattle.std.proofs.Common.{◌≡◌, ◌++◌, take}
use Rattle.std.specs.List.{flat_map}
use Rattle.cd_normal.specs.Codes.{code}
use Rattle.cd_normal.proofs.codes.+write_code.Given as goal

abbrev pub invariant-write_codes-loop-part : goal.invariant-write_codes-loop-part
invariant-write_codes-loop-part l = l.out.items ≡ l.initial.out.items ++ flat_map code (take l.part-index l.parts)
