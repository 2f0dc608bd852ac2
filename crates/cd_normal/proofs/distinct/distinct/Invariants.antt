use Rattle.std.proofs.Common.{◌≡◌, ℕ, ◌<◌, [], length, map, take, Vec, Global}
use Rattle.std.specs.HashSet.{contains}
use Rattle.std.specs.List.{All}
use Rattle.std.specs.Str.{bytes_eq}
use Rattle.cd_normal.specs.NormalForm.{Kept}
use Rattle.cd_normal.specs.Operands.{operand}
use Rattle.cd_normal.proofs.DistinctOperands.{is_coded}
use Rattle.cd_normal.proofs.distinct.distinct.Given as goal

abbrev pub invariant-loop-i : goal.invariant-loop-i
invariant-loop-i l = record {
  kept : Kept [] (take l.i l.operands) (map (operand l.operands) l.places.items);
  within : All (λ place. place < length l.operands) l.places.items;
  seen : (q : Vec ℕ Global) → contains (λ (x y : Vec ℕ Global). bytes_eq x.items y.items) l.seen q ≡ is_coded (take l.i l.operands) q.items;
}
