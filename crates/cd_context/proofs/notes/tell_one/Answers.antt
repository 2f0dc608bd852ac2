use Rattle.std.proofs.Common.{◌≡◌, true}
use Rattle.std.specs.Result.{IsOk}
use Rattle.std.proofs.lemmas.Bool.{both_ways}
use Rattle.cd_context.specs.OwedParts.{IsAtomNote, IsUsefulNote}
use Rattle.cd_base.proofs.Appending.{none, otherwise}
use Rattle.cd_context.proofs.Owed.{of_use, use_found}
use Rattle.cd_context.proofs.notes.tell_one.Goals as goal

pub returns-then-is_under_one : goal.returns-then-is_under_one
returns-then-is_under_one c =
    let normal = c.args.index.now.normal in
    let link = c.args.link.now in
    let useful = of_use normal c.args.atom c.args.axioms.now link.role c.requires (c.is_under_one.ensures.0 c.if-is_under_one.true) in
    otherwise (IsAtomNote c.args.key.now c.args.atom c.args.alone link) (IsUsefulNote normal c.args.key.now c.args.atom c.args.alone link) (IsOk c.note_atom.result) (IsOk c.note_atom.result)
    c.args.out.now.items c.note_atom.new.out.items (λ note p. (useful, p)) (λ h note p. p.1) (λ h. h) c.note_atom.ensures

pub returns-else-is_under_one : goal.returns-else-is_under_one
returns-else-is_under_one c =
    let normal = c.args.index.now.normal in
    let link = c.args.link.now in
    none (IsUsefulNote normal c.args.key.now c.args.atom c.args.alone link) (true ≡ true) c.args.out.now.items
    (λ h note p. both_ways c.is_under_one.result c.if-is_under_one.false (c.is_under_one.ensures.1 (use_found normal c.args.atom c.args.axioms.now link.role c.requires p.0)))
