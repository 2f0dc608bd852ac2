-- How many atoms and axioms come.
use Rattle.std.proofs.Common.{◌≡◌, ℕ, ◌+◌, ◌*◌, ◌^◌, ◌<◌, ◌≤◌, Bool, true, false, List, length, get_or, take, sum_by, ap, arith}
use Rattle.cd_meaning.specs.declared.expression.Expr.{Expr}
use Rattle.cd_meaning.specs.Nodes.{nodes_of}
use Rattle.cd_normal.specs.declared.maker.Maker.{Maker}
use Rattle.cd_normal.specs.Made.{rows, share, IsGrownBy}
use Rattle.cd_normal.proofs.Sizes.{nodes_more, nodes_more_le}

share_le : (sign : Bool) (n : ℕ) → share sign n ≤ 2 * n
share_le true n = omega arith
share_le false n = omega arith

share_suc : (sign : Bool) (n : ℕ) → share sign n + 1 ≤ share sign (1 + n)
share_suc true n = omega arith
share_suc false n = omega arith

share_both : (sign : Bool) (n m : ℕ) → share sign (n + m) ≡ share sign n + share sign m
share_both true n m = omega arith
share_both false n m = omega arith

share_none : (sign : Bool) → share sign 0 ≡ 0
share_none true = omega arith
share_none false = omega arith

module _ (old new : Maker) (sign : Bool) where
  pub grown_none : IsGrownBy old old sign 0 0
  grown_none = let z = share_none sign in (omega (arith, z), omega arith)

  -- a class by its name
  pub grown_name : (total : ℕ) → total ≡ 1 → IsGrownBy old old sign 1 total
  grown_name total is = (omega arith, omega (arith, is))

  pub grown_first : (total : ℕ) → total ≡ 1 → new.next ≡ old.next + 1 → rows new ≤ rows old + 1 → IsGrownBy old new sign 1 total
  grown_first total is next few = let s = share_suc sign 0 in let t = ap (share sign) is in (omega (arith, next, s, t), omega (arith, few, is))

module _ (old mid new : Maker) (sign : Bool) where
  -- there is room for what an expression has beside its parts
  pub room : (k n total : ℕ) → total ≡ 1 + n → old.next + 2 * total < 2 ^ 32 → IsGrownBy old mid sign k n → mid.next + 1 < 2 ^ 32
  room k n total is few g = let s = share_le sign n in let g0 = g.0 in omega (arith, few, g0, s, is)

  pub grown_step : (n total : ℕ) → total ≡ 1 + n → IsGrownBy old mid sign 1 n → new.next ≡ mid.next + 1 → rows new ≤ rows mid + 1 → IsGrownBy old new sign 1 total
  grown_step n total is g next few = let s = share_suc sign n in let t = ap (share sign) is in let g0 = g.0 in let g1 = g.1 in (omega (arith, next, g0, s, t), omega (arith, few, g1, is))

  pub grown_list : (n k l total : ℕ) → total ≡ 1 + n → l ≡ k → IsGrownBy old mid sign k n → new.next ≡ mid.next + 1 → rows new ≤ rows mid + (1 + l) → IsGrownBy old new sign 1 total
  grown_list n k l total is same g next few = let s = share_suc sign n in let t = ap (share sign) is in let g0 = g.0 in let g1 = g.1 in (omega (arith, next, g0, s, t), omega (arith, few, g1, is, same))

  -- a loop over expressions
  pub room_each : (parts : List Expr) (i : ℕ) (e : Expr) → i < length parts → e ≡ get_or parts i e → old.next + 2 * sum_by nodes_of parts < 2 ^ 32 → IsGrownBy old mid sign i (sum_by nodes_of (take i parts)) → mid.next + 2 * nodes_of e < 2 ^ 32
  room_each parts i e lt at few g = let s = share_le sign (sum_by nodes_of (take i parts)) in let g0 = g.0 in let n = nodes_more_le parts i e lt at in omega (arith, few, g0, s, n)

  pub grown_each : (parts : List Expr) (i : ℕ) (e : Expr) → i < length parts → e ≡ get_or parts i e → IsGrownBy old mid sign i (sum_by nodes_of (take i parts)) → IsGrownBy mid new sign 1 (nodes_of e) → IsGrownBy old new sign (i + 1) (sum_by nodes_of (take (i + 1) parts))
  grown_each parts i e lt at f g =
      let n = nodes_more parts i e lt at in
      let s = share_both sign (sum_by nodes_of (take i parts)) (nodes_of e) in
      let t = ap (share sign) n in
      let f0 = f.0 in
      let f1 = f.1 in
      let g0 = g.0 in
      let g1 = g.1 in
      (omega (arith, f0, g0, s, t), omega (arith, f1, g1, n))

module _ (old mid new : Maker) where
  pub grown_rest : (n : ℕ) → IsGrownBy old mid true 1 n → new.next ≡ mid.next + 2 → rows new ≤ rows mid + 2 → IsGrownBy old new false 1 (1 + n)
  grown_rest n g next few = let g0 = g.0 in let g1 = g.1 in (omega (arith, next, g0), omega (arith, few, g1))
