use Rattle.std.proofs.lemmas.List.Elements.{All-more}
use Rattle.cd_meaning.specs.Truth.{HasSameEdges}
use Rattle.cd_meaning.proofs.Decided.{decided_false, done_at, not_from_false}
use Rattle.cd_meaning.proofs.truth.has_edges_of_each.Goals as goal

pub returns-then-not-has_same_edges : goal.returns-then-not-has_same_edges
returns-then-not-has_same_edges c =
    decided_false (λ all. not_from_false c.has_same_edges.result c.has_same_edges.ensures.1 c.if-not-has_same_edges.true (all c.loop-role.role-index 0 c.loop-role-test.true))

pub loop-role-preserved : goal.loop-role-preserved
loop-role-preserved c =
    All-more (HasSameEdges c.args.i.now c.args.first) c.args.roles.now c.loop-role.role-index 0 c.loop-role-test.true
    c.loop-role.invariant (c.has_same_edges.ensures.0 c.if-not-has_same_edges.false)

pub returns : goal.returns
returns c = done_at (HasSameEdges c.args.i.now c.args.first) c.args.roles.now c.loop-role.role-index c.loop-role-test.false c.loop-role.invariant
