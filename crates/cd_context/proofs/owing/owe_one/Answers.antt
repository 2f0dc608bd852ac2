use Rattle.std.proofs.Common.{◌≡◌, ◌⊎◌, true, refl}
use Rattle.std.specs.Result.{IsOk}
use Rattle.cd_context.specs.OwedParts.{IsLinkOf, IsToldBy, IsOwedBy}
use Rattle.cd_base.proofs.Appending.{both, member_grows, otherwise}
use Rattle.cd_context.proofs.owing.owe_one.Goals as goal

pub returns : goal.returns
returns c =
    let normal = c.args.index.now.normal in
    let key = c.args.key.now in
    let clause = c.args.clause.now in
    let links = c.args.links.now in
    otherwise (λ note. IsLinkOf normal key clause note ⊎ IsToldBy normal key links clause note) (IsOwedBy normal key links clause) ((true ≡ true) × IsOk c.tell.result) (IsOk c.tell.result)
    c.args.out.now.items c.tell.new.out.items (λ note p. p) (λ h note p. p) (λ h. (refl, h))
    (both member_grows (IsLinkOf normal key clause) (IsToldBy normal key links clause) (true ≡ true) (IsOk c.tell.result) c.args.out.now.items c.note_links.new.out.items c.tell.new.out.items
    c.in_ok-note_links.ensures c.tell.ensures)
