use Rattle.std.proofs.Common.{ℕ, List, refl, subst}
use Rattle.cd_base.specs.Lists.{HasNoRepeats}
use Rattle.cd_context.specs.State.{State}
use Rattle.cd_cell.proofs.Listed.{listing_goes}
use Rattle.cd_cell.proofs.Puts.{keys_of}
use Rattle.cd_cell.proofs.contexts.Contexts.list_owed.Goals as goal

pub loop-context-preserved : goal.loop-context-preserved
loop-context-preserved c =
    listing_goes c.args.index.now.normal c.args.self.now c.loop-context.context-iterator c.in-Some.field-0-0.now c.in-Some.context.now c.next.new.self c.loop-context.notes.items c.list_owed.new.out.items _ refl
    c.requires (subst (λ (es : List (List ℕ × State)). HasNoRepeats (keys_of es)) c.self.view_is c.self.invariant.1) c.in-Some.ensures.steps c.loop-context.invariant c.in_ok-list_owed.ensures
