use Rattle.std.proofs.Common.{length, ap, arith}
use Rattle.std.proofs.lemmas.Option.{IfSome_then}
use Rattle.std.proofs.lemmas.Result.{IfOk-weaker, IfOk-from_err, err_from_is_err_and}
use Rattle.cd_io.proofs.Losing.{loses_none}
use Rattle.cd_meaning.specs.declared.document.Document.{Document}
use Rattle.cd_grammar.proofs.Inputs.{of_any, same_error, other_error, refused_whole, read_whole, small_within, few_bytes, memory_is_no_refusal, memory_is_no_fault}
use Rattle.cd_grammar.proofs.input.read_document.Goals as goal

pub returns-in_err-reader : goal.returns-in_err-reader
returns-in_err-reader g c =
    let left = g.S.Source.left c.args.source.now in
    let r = c.from_residual.result in
    let none = c.from_residual.ensures.0 in
    let p = err_from_is_err_and r c.from_residual.ensures.1 in
    record {
      read = of_any left (λ input. IfOk-from_err r _ none);
      only = of_any left (λ input. IfOk-from_err r _ none);
      ended = IfOk-from_err r _ none;
      after = IfOk-from_err r _ none;
      taken = loses_none left _;
      within = IfOk-from_err r _ none;
      small = of_any left (λ input. IfOk-from_err r _ none);
      iris = IfOk-from_err r _ none;
      refused = of_any left (λ input refusal h. absurd (memory_is_no_refusal {T = Document} refusal (same_error r _ p.0 _ p.1 p.2 h)));
      read_fault = λ h. absurd (memory_is_no_fault {T = Document} (same_error r _ p.0 _ p.1 p.2 h));
      unended = λ h. absurd (memory_is_no_fault {T = Document} (same_error r _ p.0 _ p.1 p.2 h));
    }

pub returns-in-Err : goal.returns-in-Err
returns-in-Err g c =
    let left = g.S.Source.left c.args.source.now in
    let failed = c.in-Err.ensures in
    record {
      read = of_any left (λ input. tt);
      only = of_any left (λ input. tt);
      ended = tt;
      after = tt;
      taken = failed.taken;
      within = tt;
      small = of_any left (λ input. tt);
      iris = tt;
      refused = IfSome_then left failed.refused (λ input h refusal e. h refusal (other_error _ _ e));
      read_fault = λ h. failed.read_fault (other_error _ _ h);
      unended = λ h. failed.unended (other_error _ _ h);
    }

pub finish-requires : goal.finish-requires
finish-requires g c =
    let f = c.in_default.ensures.fed in
    let limits = c.args.limits.now in
    (f.0, f.1, omega (arith, f.2, few_bytes limits.workers limits.cells limits.max_bytes limits.max_contexts limits.max_facts limits.in_range))

pub returns : goal.returns
returns g c =
    let left = g.S.Source.left c.args.source.now in
    let fed = c.in_default.ensures in
    let f = fed.fed in
    let r = c.finish.result in
    let judged = c.finish.ensures.read f.0 f.1 in
    record {
      read =
          IfSome_then left f.3
          (λ input h. IfOk-weaker r _ _ (λ document d. (omega (arith, ap length h.0, f.2), h.1, (read_whole input f.0 document h.0 d).0)) judged);
      only = IfSome_then left f.3 (λ input h. IfOk-weaker r _ _ (λ document d. (read_whole input f.0 document h.0 d).1) judged);
      ended = IfOk-weaker r _ _ (λ document d. fed.ended) judged;
      after = IfOk-weaker r _ _ (λ document d. fed.after) judged;
      taken = fed.taken;
      within = IfOk-weaker r _ _ (λ document d. small_within document (length f.0) c.args.limits.now.max_bytes f.2 d.2) judged;
      small = IfSome_then left f.3 (λ input h. IfOk-weaker r _ _ (λ document d. (read_whole input f.0 document h.0 d).2) judged);
      iris = IfOk-weaker r _ _ (λ document d. d.3) judged;
      refused = IfSome_then left f.3 (λ input h refusal e. refused_whole input f.0 c.args.limits.now.max_bytes refusal f.2 h.0 (c.finish.ensures.refused f.0 f.1 refusal e));
      read_fault = λ h. absurd (c.finish.ensures.judged h);
      unended = λ h. absurd (c.finish.ensures.judged h);
    }
