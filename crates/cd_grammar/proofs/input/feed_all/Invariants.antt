use Rattle.std.proofs.Common.{◌≡◌, ◌≤◌, ◌-◌, vec_len}
use Rattle.cd_grammar.specs.Taking.{IsFedFrom}
use Rattle.cd_grammar.proofs.input.feed_all.Given as goal

abbrev pub invariant-loop-count : goal.invariant-loop-count
invariant-loop-count g l =
    (l.count ≤ l.most)
    × (vec_len l.buf ≡ 65536)
    × IsFedFrom (g.S.Source.left l.fn.source) (g.S.Source.left l.source) l.reader l.count
    × (g.S.Source.after l.source ≡ g.S.Source.after l.fn.source)
    × (g.S.Source.faults l.fn.source ≤ g.S.Source.faults l.source)

abbrev pub decreases-loop-count : goal.decreases-loop-count
decreases-loop-count g l = l.most - l.count
