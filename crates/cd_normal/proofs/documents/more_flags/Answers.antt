use Rattle.std.proofs.Common.{◌++◌, [], ◌∷◌, replicate, ap, ◌∙◌, append_assoc}
use Rattle.std.proofs.lemmas.List.{replicate_more}
use Rattle.cd_normal.proofs.documents.more_flags.Goals as goal

pub loop-preserved : goal.loop-preserved
loop-preserved c = c.in_ok-push.ensures.items ∙ ap (λ l. l ++ c.args.flag ∷ []) c.loop.invariant ∙ append_assoc c.args.made.now.items (replicate c.loop.counter c.args.flag) (c.args.flag ∷ []) ∙ ap (λ l. c.args.made.now.items ++ l) (replicate_more c.loop.counter c.args.flag)
