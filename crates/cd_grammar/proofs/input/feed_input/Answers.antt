use Rattle.std.proofs.Common.{refl, arith}
use Rattle.std.proofs.lemmas.Option.{IfSome_then}
use Rattle.std.proofs.lemmas.Result.{IfOk-from_err, err_from_is_err_and}
use Rattle.cd_grammar.specs.Taking.{IsFedWhole}
use Rattle.cd_grammar.proofs.Inputs.{whole, at_least, of_any, same_error, too_long, unless, ok_is_no_error, refusal_is_no_fault}
use Rattle.cd_grammar.proofs.input.feed_input.Goals as goal

pub returns-in_err-count : goal.returns-in_err-count
returns-in_err-count g c =
    let r = c.from_residual.result in
    let none = c.from_residual.ensures.0 in
    let p = err_from_is_err_and r c.from_residual.ensures.1 in
    let failed = c.in_err-count.ensures in
    record {
      fed = IfOk-from_err r (λ _. IsFedWhole (g.S.Source.left c.args.source.now) (g.S.Source.left c.feed_all.new.source) c.feed_all.new.reader c.args.max_bytes) none;
      ended = IfOk-from_err r _ none;
      after = IfOk-from_err r _ none;
      taken = failed.taken;
      refused = of_any (g.S.Source.left c.args.source.now) (λ input refusal h. absurd (failed.unjudged refusal (same_error r c.in_err-count.field-0.0 p.0 _ p.1 p.2 h)));
      read_fault = λ h. failed.fault (same_error r c.in_err-count.field-0.0 p.0 _ p.1 p.2 h);
      unended = λ h. failed.unended (same_error r c.in_err-count.field-0.0 p.0 _ p.1 p.2 h);
    }

pub returns-then-count-most : goal.returns-then-count-most
returns-then-count-most g c =
    let f = c.in_ok-count.ensures.fed in
    record {
      fed = tt;
      ended = tt;
      after = tt;
      taken = c.in_ok-count.ensures.taken;
      refused =
          IfSome_then (g.S.Source.left c.args.source.now) (at_least (g.S.Source.left c.args.source.now) (g.S.Source.left c.feed_all.new.source) f.0 f.2)
          (λ input h refusal e. too_long input c.args.max_bytes _ refusal (omega (arith, f.3, c.if-count-most.true)) refl e);
      read_fault = λ h. absurd (refusal_is_no_fault _ h);
      unended = λ h. absurd (refusal_is_no_fault _ h);
    }

pub returns : goal.returns
returns g c =
    let f = c.in_ok-count.ensures.fed in
    let end = unless c.in_ok-count.ensures.end c.if-count-most.false in
    record {
      fed = (
        f.0,
        f.1,
        omega (arith, f.3, c.in_ok-count.ensures.within, c.if-count-most.false),
        whole (g.S.Source.left c.args.source.now) (g.S.Source.left c.feed_all.new.source) f.0 f.2 end.1,
      );
      ended = end.0;
      after = c.in_ok-count.ensures.after;
      taken = c.in_ok-count.ensures.taken;
      refused = of_any (g.S.Source.left c.args.source.now) (λ input refusal h. absurd (ok_is_no_error _ _ h));
      read_fault = λ h. absurd (ok_is_no_error _ _ h);
      unended = λ h. absurd (ok_is_no_error _ _ h);
    }
