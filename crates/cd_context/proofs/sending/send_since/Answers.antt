use Rattle.std.proofs.Common.{refl}
use Rattle.cd_context.proofs.Sent.{sends_moved}
use Rattle.cd_context.proofs.sending.send_since.Goals as goal

pub returns-clause-ok : goal.returns-clause-ok
returns-clause-ok c = λ backs sures deads.
    sends_moved c.args.index.now.normal _ _ _ _ c.owe_since.new.out.items c.args.out.now.items c.append.new.self.items c.new-notes.ensures.items (c.in_ok-owe_since.ensures backs sures deads) refl c.in_ok-append.ensures.items
