use Rattle.cd_store.proofs.Leasts.{first_filed, last_kept, nothing_left, under_kept}
use Rattle.cd_store.specs.Filing.{ends_in, goes_on_from}
use Rattle.std.proofs.Common.{cond}
use Rattle.cd_store.proofs.filing.Filing.file.Goals as goal

pub returns-clause-filed : goal.returns-clause-filed
returns-clause-filed c = c.elems.invariant.filed c.elems.self (λ q m i. i) (nothing_left c.elems.self c.args.number c.elems.rest.now c.in_default.len_below)

pub returns-in_err-file_elem-clause-kept : goal.returns-in_err-file_elem-clause-kept
returns-in_err-file_elem-clause-kept c = λ q n h. c.in_err-file_elem.ensures.kept q n (c.elems.invariant.kept q n h)

pub elems-preserved : goal.elems-preserved
elems-preserved c =
    let x = c.elem-item.result in let g = c.file_elem.new.self in record {
      kept = λ q n h. c.in_ok-file_elem.ensures.kept q n (c.elems.invariant.kept q n h);
      filed = λ f k h. c.elems.invariant.filed f (λ q m i. k q m (c.in_ok-file_elem.ensures.kept q m i))
          (first_filed f c.args.number c.elems.rest.now x c.is_empty.result c.in-len1-up.len_at_least c.elem-item.is c.is_empty.ensures
          (under_kept g f c.args.number (cond c.is_empty.result (ends_in x) (goes_on_from x)) x k c.in_ok-file_elem.ensures.under)
          (λ t. last_kept g f c.args.number x k (c.in_ok-file_elem.ensures.last t)) h);
    }
