use Rattle.std.proofs.Common.{List, ℕ, sym, ap, ◌∙◌, subst}
use Rattle.cd_rules.specs.LookUps.{filed_at}
use Rattle.cd_store.proofs.Gaining.{gain_less, gain_none}
use Rattle.cd_context.specs.Beside.{IsBesideByFiled, IsBesideByOne, Stands}
use Rattle.cd_context.specs.Waits.{numbers}
use Rattle.cd_context.proofs.beside.push_by_number.Goals as goal

pub returns-in_default : goal.returns-in_default
returns-in_default c =
    gain_none (IsBesideByFiled c.args.index.now.normal c.args.index.now.filed (Stands c.args.store.now.live (numbers c.args.waiting.now) c.args.premise) c.args.store.now.clauses c.args.atom c.args.number) c.args.found.now.items (λ m q. c.in_default.ensures q.0)

pub returns : goal.returns
returns c =
    let n = c.args.index.now.normal in
    gain_less (IsBesideByFiled n c.args.index.now.filed (Stands c.args.store.now.live (numbers c.args.waiting.now) c.args.premise) c.args.store.now.clauses c.args.atom c.args.number) (IsBesideByOne n (Stands c.args.store.now.live (numbers c.args.waiting.now) c.args.premise) c.args.store.now.clauses c.args.atom c.filed.result.now) c.args.found.now.items c.push_by_axioms.new.found.items
    (λ m q. subst (λ (l : List ℕ). IsBesideByOne n (Stands c.args.store.now.live (numbers c.args.waiting.now) c.args.premise) c.args.store.now.clauses c.args.atom l m) (sym (c.filed.ensures.list ∙ ap (λ (a : ℕ). filed_at c.args.index.now.filed n.atoms a) c.in-Some.ensures.0)) q.1)
    c.in_ok-push_by_axioms.ensures
