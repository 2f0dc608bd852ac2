use Rattle.std.proofs.Common.{ℕ, ◌≡◌, ◌<◌, length, slice_index_or, sym, subst, ◌∙◌, arith}
use Rattle.std.specs.List.{All}
use Rattle.std.proofs.lemmas.List.{get_or_default}
use Rattle.cd_base.specs.declared.answer.Answer.TheVariants.{Unsatisfiable, Of}
use Rattle.cd_taxonomy.specs.Relation.{HasClassesBelow}
use Rattle.cd_taxonomy.proofs.RepresentativeByCount.{representative_by_nothing, representative_by_thing, representative_by_place, two_classes}
use Rattle.cd_taxonomy.proofs.representatives.representative.Goals as goal

pub returns-then-count-counts : goal.returns-then-count-counts
returns-then-count-counts c = sym (representative_by_nothing c.args.document.now.classes c.args.above.now c.args.counts.now
    (two_classes c.args.document.now) c.requires.answered c.requires.subsumption c.requires.counted c.args.c c.requires.class c.if-count-counts.true)

pub returns-then-count-counts-2 : goal.returns-then-count-counts-2
returns-then-count-counts-2 c = sym (representative_by_thing c.args.document.now.classes c.args.above.now c.args.counts.now
    (two_classes c.args.document.now) c.requires.answered c.requires.subsumption c.requires.counted c.args.c c.requires.class c.if-count-counts.false c.if-count-counts-2.true)

pub returns : goal.returns
returns c =
    let n = length c.args.document.now.classes in
    let is : slice_index_or c.args.above.now c.args.c Unsatisfiable ≡ Of c.in-Of.atoms
    = get_or_default c.args.above.now c.args.c Unsatisfiable c.index-above-c.result (omega (arith, c.requires.answered, c.requires.class)) ∙ sym c.index-above-c.is ∙ c.in-Of.is in
    let within : All (λ (atom : ℕ). atom < n) c.in-Of.atoms
    = subst (HasClassesBelow n) is (c.requires.within c.args.c Unsatisfiable (omega (arith, c.requires.answered, c.requires.class))) in
    let first = rw c.items.ensures at c.first_with_count.ensures.first in
    let listed = rw c.items.ensures at c.first_with_count.ensures.listed in
    sym (representative_by_place c.args.document.now.classes c.args.above.now c.args.counts.now
    (two_classes c.args.document.now) c.requires.answered c.requires.subsumption c.requires.counted c.args.c c.requires.class
    c.args.places.now c.requires.placed c.if-count-counts.false c.if-count-counts-2.false c.in-Of.atoms is within
    c.first_with_count.result c.first_with_count.ensures.counted listed first)
