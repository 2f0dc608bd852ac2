use Rattle.std.proofs.Common.{◌++◌, ◌-◌, true, false, length, replicate, ap, ◌∙◌}
use Rattle.cd_normal.proofs.FitsAxioms.{extends}
use Rattle.cd_normal.proofs.RestrictAxioms.{restricts}
use Rattle.cd_normal.proofs.Whole.{of_document, n1_in, n2_in, n3_in, n4_in, n5_in, is_normal_form, numbers_of}
use Rattle.cd_normal.proofs.documents.normalise.Goals as goal

pub made-requires-clause-within : goal.made-requires-clause-within
made-requires-clause-within c = numbers_of c.args.document.now c.items.result.now c.items-3.result.now c.items.ensures c.items-3.ensures

pub packed-requires-clause-n1_within : goal.packed-requires-clause-n1_within
packed-requires-clause-n1_within c = n1_in c.args.document.now c.in_ok-maker.maker (of_document c.args.document.now c.in_ok-maker.maker c.items.result.now c.items-3.result.now c.items.ensures c.items-3.ensures c.in_ok-maker.ensures.made)

pub packed-requires-clause-n2_within : goal.packed-requires-clause-n2_within
packed-requires-clause-n2_within c = n2_in c.args.document.now c.in_ok-maker.maker (of_document c.args.document.now c.in_ok-maker.maker c.items.result.now c.items-3.result.now c.items.ensures c.items-3.ensures c.in_ok-maker.ensures.made) (length c.items-2.result.now) (ap length c.items-2.ensures)

pub packed-requires-clause-n3_within : goal.packed-requires-clause-n3_within
packed-requires-clause-n3_within c = n3_in c.args.document.now c.in_ok-maker.maker (of_document c.args.document.now c.in_ok-maker.maker c.items.result.now c.items-3.result.now c.items.ensures c.items-3.ensures c.in_ok-maker.ensures.made) (length c.items-2.result.now) (ap length c.items-2.ensures)

pub packed-requires-clause-n4_within : goal.packed-requires-clause-n4_within
packed-requires-clause-n4_within c = n4_in c.args.document.now c.in_ok-maker.maker (of_document c.args.document.now c.in_ok-maker.maker c.items.result.now c.items-3.result.now c.items.ensures c.items-3.ensures c.in_ok-maker.ensures.made) (length c.items-2.result.now) (ap length c.items-2.ensures)

pub packed-requires-clause-n5_within : goal.packed-requires-clause-n5_within
packed-requires-clause-n5_within c = n5_in c.args.document.now c.in_ok-maker.maker (of_document c.args.document.now c.in_ok-maker.maker c.items.result.now c.items-3.result.now c.items.ensures c.items-3.ensures c.in_ok-maker.ensures.made) (length c.items-2.result.now) (ap length c.items-2.ensures)

pub returns-clause-normal_form : goal.returns-clause-normal_form
returns-clause-normal_form c = is_normal_form c.args.document.now c.in_ok-maker.maker (of_document c.args.document.now c.in_ok-maker.maker c.items.result.now c.items-3.result.now c.items.ensures c.items-3.ensures c.in_ok-maker.ensures.made)
    c.packed.result c.packed.ensures.n1 c.packed.ensures.n2 c.packed.ensures.n3 c.packed.ensures.n4 c.packed.ensures.n5 c.packed.ensures.atoms (c.packed.ensures.roles ∙ ap length c.items-2.ensures)
    (c.packed.ensures.named ∙ c.in_ok-named.ensures ∙ ap (λ l. replicate (length l) true ++ replicate (c.in_ok-maker.maker.next - length l) false) c.items.ensures)

pub returns-clause-restricts : goal.returns-clause-restricts
returns-clause-restricts c = λ i model. (restricts c.args.document.now c.packed.result i (returns-clause-normal_form c) model).0

pub returns-clause-extends : goal.returns-clause-extends
returns-clause-extends c = λ i model. extends c.args.document.now c.packed.result i (returns-clause-normal_form c) model
