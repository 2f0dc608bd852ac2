use Rattle.std.proofs.Common.{◌≡◌, false, length, map, sum_by, take}
use Rattle.cd_meaning.specs.Nodes.{nodes_of}
use Rattle.cd_nnf.specs.Nnf.{nnf}
use Rattle.cd_normal.specs.Made.{IsUseEach, IsGrownBy}
use Rattle.cd_normal.specs.Operands.{operand}
use Rattle.cd_normal.proofs.apart.used_at.Given as goal

abbrev pub invariant-loop-place : goal.invariant-loop-place
invariant-loop-place l = record {
  is_use : IsUseEach l.classes l.fn.maker l.maker false (map nnf (take l.place-index (map (operand l.operands) l.places))) l.made.items;
  same_length : length l.made.items ≡ l.place-index;
  grown : IsGrownBy l.fn.maker l.maker false l.place-index (sum_by nodes_of (take l.place-index (map (operand l.operands) l.places)));
}
