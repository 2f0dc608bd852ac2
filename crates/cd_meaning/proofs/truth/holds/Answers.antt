use Rattle.std.proofs.Common.{ap, sym, ◌∙◌}
use Rattle.cd_meaning.specs.declared.expression.Axiom.TheVariants.{SameClasses, Disjoint, DisjointUnion, SameRoles}
use Rattle.cd_meaning.specs.Truth.{Holds}
use Rattle.cd_meaning.proofs.Decided.{answers_at}
use Rattle.cd_meaning.proofs.truth.holds.Goals as goal

pub returns-in-SubClass : goal.returns-in-SubClass
returns-in-SubClass c = answers_at (Holds c.args.i.now) c.is_below.result c.in-SubClass.is c.is_below.ensures

pub returns-in-SameClasses : goal.returns-in-SameClasses
returns-in-SameClasses c =
    answers_at (Holds c.args.i.now) c.have_same_members.result (c.in-SameClasses.is ∙ ap SameClasses (sym c.items.ensures)) c.have_same_members.ensures

pub returns-in-Disjoint : goal.returns-in-Disjoint
returns-in-Disjoint c =
    answers_at (Holds c.args.i.now) c.are_pairwise_disjoint.result (c.in-Disjoint.is ∙ ap Disjoint (sym c.items-in-Disjoint.ensures)) c.are_pairwise_disjoint.ensures

pub returns-in-DisjointUnion : goal.returns-in-DisjointUnion
returns-in-DisjointUnion c =
    answers_at (Holds c.args.i.now) c.is_disjoint_union.result
    (c.in-DisjointUnion.is ∙ ap (DisjointUnion c.in-DisjointUnion.class) (sym c.items-in-DisjointUnion.ensures)) c.is_disjoint_union.ensures

pub returns-in-SameRoles : goal.returns-in-SameRoles
returns-in-SameRoles c =
    answers_at (Holds c.args.i.now) c.have_same_edges.result (c.in-SameRoles.is ∙ ap SameRoles (sym c.items-in-SameRoles.ensures)) c.have_same_edges.ensures
