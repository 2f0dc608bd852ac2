use Rattle.std.specs.List.{All}
use Rattle.std.proofs.lemmas.List.Elements.{All-more}
use Rattle.cd_meaning.specs.Truth.{HasSameEdges}
use Rattle.cd_meaning.proofs.Decided.{decided_false, done_at, not_from_false}
use Rattle.cd_meaning.proofs.truth.have_same_edges.Goals as goal

pub returns-then-not-has_edges_of_each : goal.returns-then-not-has_edges_of_each
returns-then-not-has_edges_of_each c =
    decided_false (λ all. not_from_false c.has_edges_of_each.result c.has_edges_of_each.ensures.1 c.if-not-has_edges_of_each.true (all c.loop-role.role-index 0 c.loop-role-test.true))

pub loop-role-preserved : goal.loop-role-preserved
loop-role-preserved c =
    All-more (λ x. All (HasSameEdges c.args.i.now x) c.args.roles.now) c.args.roles.now c.loop-role.role-index 0 c.loop-role-test.true
    c.loop-role.invariant (c.has_edges_of_each.ensures.0 c.if-not-has_edges_of_each.false)

pub returns : goal.returns
returns c = done_at (λ x. All (HasSameEdges c.args.i.now x) c.args.roles.now) c.args.roles.now c.loop-role.role-index c.loop-role-test.false c.loop-role.invariant
