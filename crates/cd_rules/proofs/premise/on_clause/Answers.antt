use Rattle.std.proofs.Common.{length, refl}
use Rattle.cd_base.proofs.Appending.{none, otherwise}
use Rattle.cd_clause.proofs.Eligibles.{none_eligible}
use Rattle.cd_rules.specs.Facts.{ToldFacts}
use Rattle.cd_rules.proofs.Ends.{not_ok}
use Rattle.cd_rules.proofs.Greatest.{is_eligible, is_only, beside}
use Rattle.cd_rules.proofs.Premises.{choices_below, elem_concluded, elem_concludes, none_concluded}
use Rattle.cd_rules.proofs.Pushed.{unpushed}
use Rattle.cd_rules.proofs.premise.on_clause.Goals as goal

pub returns-in-None : goal.returns-in-None
returns-in-None c =
    let facts : ToldFacts = record { backs = c.args.backs.now; sures = c.args.sures.now; deads = c.args.deads.now } in
    unpushed _ _ _ _ refl (λ h. none_concluded c.args.index.now.normal c.args.key.now c.args.clauses.now c.args.live.now c.args.premise facts c.index-clauses-premise.result
    c.requires.premise c.index-clauses-premise.is (λ x. none_eligible c.args.index.now.normal c.index-clauses-premise.result x c.in-None.ensures))

pub returns-in_err-choices-in-Some : goal.returns-in_err-choices-in-Some
returns-in_err-choices-in-Some c = none _ _ c.args.out.now.items (λ h. absurd (not_ok c.from_residual.result c.from_residual.ensures.0 h))

pub returns-in_err-others-in-Some : goal.returns-in_err-others-in-Some
returns-in_err-others-in-Some c = none _ _ c.args.out.now.items (λ h. absurd (not_ok c.from_residual-in_err-others-in-Some.result c.from_residual-in_err-others-in-Some.ensures.0 h))

pub on_elem-requires : goal.on_elem-requires
on_elem-requires c = record {
  choices = choices_below c.args.live.now c.deref.result.now c.in_ok-choices-in-Some.choices.items c.args.premise (length c.args.clauses.now) c.deref.ensures.value
      c.in_ok-choices-in-Some.ensures c.requires.premise c.requires.live;
}

pub returns-in_ok-others-in-Some : goal.returns-in_ok-others-in-Some
returns-in_ok-others-in-Some c =
    let n = c.args.index.now.normal in let p = c.index-clauses-premise.result in let x = c.index-elems-i.result in let others = c.in_ok-others-in-Some.others in
    let facts : ToldFacts = record { backs = c.args.backs.now; sures = c.args.sures.now; deads = c.args.deads.now } in
    let el = is_eligible n c.normal.result.now p c.elems-elems.result.now c.in-Some.i x c.normal.ensures c.in-Some.ensures c.elems-elems.ensures.elems c.index-elems-i.is in
    let only = is_only n c.normal.result.now p c.elems-elems.result.now c.in-Some.i x c.normal.ensures c.in-Some.ensures c.elems-elems.ensures.elems c.index-elems-i.is in
    let s = beside n c.normal.result.now p c.elems-elems.result.now c.in-Some.i x c.normal.ensures c.in-Some.ensures c.elems-elems.ensures.elems c.index-elems-i.is
    c.elems-elems.ensures.ascends others c.in_ok-others-in-Some.ensures in
    otherwise _ _ _ _ _ _
    (elem_concludes n c.args.key.now c.args.clauses.now c.args.live.now c.args.premise facts p c.requires.premise c.index-clauses-premise.is x others el only s
    c.deref.result.now c.in_ok-choices-in-Some.choices.items c.deref.ensures.value c.in_ok-choices-in-Some.ensures)
    (λ h. elem_concluded n c.args.key.now c.args.clauses.now c.args.live.now c.args.premise facts p c.requires.premise c.index-clauses-premise.is x others el only s
    c.deref.result.now c.in_ok-choices-in-Some.choices.items c.deref.ensures.value c.in_ok-choices-in-Some.ensures)
    (λ h. h) c.on_elem.ensures
