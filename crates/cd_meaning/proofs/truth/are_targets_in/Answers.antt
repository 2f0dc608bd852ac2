use Rattle.std.proofs.Common.{◌≡◌, IsTrue}
use Rattle.std.proofs.lemmas.List.Elements.{All-more}
use Rattle.cd_meaning.specs.Membership.{member}
use Rattle.cd_meaning.proofs.Decided.{done_at}
use Rattle.cd_meaning.proofs.truth.are_targets_in.Goals as goal

pub loop-edge-preserved : goal.loop-edge-preserved
loop-edge-preserved c =
    All-more (λ edge. edge.role ≡ c.args.role → IsTrue (member c.args.i.now c.args.class.now edge.target)) c.args.edges.now c.loop-edge.edge-index _ c.loop-edge-test.true
    c.loop-edge.invariant (c.is_target_in.ensures.0 c.if-not-is_target_in.false)

pub returns : goal.returns
returns c =
    done_at (λ edge. edge.role ≡ c.args.role → IsTrue (member c.args.i.now c.args.class.now edge.target)) c.args.edges.now c.loop-edge.edge-index c.loop-edge-test.false c.loop-edge.invariant
