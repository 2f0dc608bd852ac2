use Rattle.std.proofs.Common.{◌≡◌, [], ap, sym, ◌∙◌, subst, get_or, arith}
use Rattle.cd_base.specs.Lists.{OneOf}
use Rattle.cd_base.proofs.Members.{member_get}
use Rattle.cd_store.specs.Coverings.{IsAtMost}
use Rattle.cd_store.proofs.Leasts.{only_empty}
use Rattle.cd_store.proofs.coverings.first_covering.Goals as goal

pub returns-in-len1-up-clause-empty : goal.returns-in-len1-up-clause-empty
returns-in-len1-up-clause-empty c = λ n m e.
    let cs = c.args.clauses.now in let k = get_or c.args.live.now 0 0 in
    let i = member_get c.args.live.now 0 0 (omega (arith, c.in-len1-up.len_at_least)) in
    let q : n ≡ k = only_empty cs c.args.live.now n k c.requires m i e in
    subst (λ j. IsAtMost c.lowered.result j) (sym q) (c.lowered.ensures.covers record { isin = i; covers = λ x h. absurd (subst (λ d. OneOf x d) (ap (λ j. get_or cs j []) (sym q) ∙ e) h) })
