use Rattle.std.proofs.Common.{sym, subst}
use Rattle.cd_clause.specs.declared.elem.Elem.{Elem}
use Rattle.cd_store.specs.LookUps.{Gains}
use Rattle.cd_store.proofs.Gaining.{gain_both}
use Rattle.cd_context.specs.Beside.{IsBeside, IsBesideByCon, IsBesideUniversal, Stands}
use Rattle.cd_context.specs.Waits.{numbers}
use Rattle.cd_context.proofs.beside.push_beside_elem.Goals as goal

pub returns-in_ok-push_universal-in-Plain : goal.returns-in_ok-push_universal-in-Plain
returns-in_ok-push_universal-in-Plain c =
    let n = c.args.index.now.normal in
    subst (λ (e : Elem). Gains (IsBeside n (Stands c.args.store.now.live (numbers c.args.waiting.now) c.args.premise) c.args.store.now.clauses e) c.args.found.now.items c.push_universal.new.found.items) (sym c.in-Plain.is)
    (gain_both (IsBesideByCon n (Stands c.args.store.now.live (numbers c.args.waiting.now) c.args.premise) c.args.store.now.clauses c.in-Plain.atom) (IsBesideUniversal n c.args.store.now.clauses c.in-Plain.atom) c.args.found.now.items c.push_by_con.new.found.items c.push_universal.new.found.items
    c.in_ok-push_by_con-in-Plain.ensures c.in_ok-push_universal-in-Plain.ensures)

pub returns-in_ok-push_exist-in-Exist : goal.returns-in_ok-push_exist-in-Exist
returns-in_ok-push_exist-in-Exist c =
    subst (λ (e : Elem). Gains (IsBeside c.args.index.now.normal (Stands c.args.store.now.live (numbers c.args.waiting.now) c.args.premise) c.args.store.now.clauses e) c.args.found.now.items c.push_exist.new.found.items) (sym c.in-Exist.is) c.in_ok-push_exist-in-Exist.ensures
