use Rattle.std.proofs.Common.{◌∙◌, arith}
use Rattle.cd_gen.proofs.GeneratedDocument.{whole}
use Rattle.cd_gen.proofs.document.make.Goals as goal

pub invariant_of-result : goal.invariant_of-result
invariant_of-result c =
    let known = whole c.args.n c.of.result c.of-2.result c.of-3.result c.requires.least c.requires.most
    (c.of.ensures ∙ c.in_ok-axioms.ensures) (c.of-2.ensures ∙ c.in_ok-classes.ensures) (c.of-3.ensures ∙ c.in_ok-roles.ensures) in
    record {
      numbered = known.in_range;
      few_classes = omega (arith, known.class_count);
      few_roles = omega (arith, known.two_roles);
      reserved = known.reserved;
      distinct_classes = known.distinct_classes;
      distinct_roles = known.distinct_roles;
    }

pub returns : goal.returns
returns c =
    let axioms_are = c.of.ensures ∙ c.in_ok-axioms.ensures in
    let classes_are = c.of-2.ensures ∙ c.in_ok-classes.ensures in
    let roles_are = c.of-3.ensures ∙ c.in_ok-roles.ensures in
    let known = whole c.args.n c.of.result c.of-2.result c.of-3.result c.requires.least c.requires.most axioms_are classes_are roles_are in
    record {
      axioms = axioms_are;
      classes = classes_are;
      roles = roles_are;
      named = known.numbered;
      counts = (known.class_count, known.axiom_count, known.node_count);
      small = omega (arith, known.node_count);
      few = omega (arith, known.class_count, known.node_count);
      iris = known.iris;
    }
