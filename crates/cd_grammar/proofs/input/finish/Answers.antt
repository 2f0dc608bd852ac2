use Rattle.std.proofs.Common.{subst}
use Rattle.std.specs.Prelude.{Result, Err}
use Rattle.cd_meaning.specs.declared.document.Document.{Document}
use Rattle.cd_syntax.specs.declared.refusal.Refusal.{Refusal}
use Rattle.cd_grammar.specs.Reading.{IsFinished}
use Rattle.cd_grammar.proofs.Inputs.{ok_is_no_error, memory_is_no_refusal, memory_is_no_fault, refusal_is_no_fault, same_refusal}
use Rattle.cd_grammar.proofs.input.finish.Goals as goal

pub returns-in-Ok-Ok : goal.returns-in-Ok-Ok
returns-in-Ok-Ok c = record {
  read = λ fed r. subst (λ (x : Result Document Refusal). IsFinished fed x) c.in-Ok-Ok.field-0-is (c.in-Ok-Ok.ensures fed r);
  refused = λ fed r refusal h. absurd (ok_is_no_error _ _ h);
  judged = λ h. ok_is_no_error _ _ h;
}

pub returns-in-Ok-Err : goal.returns-in-Ok-Err
returns-in-Ok-Err c = record {
  read = λ fed r. tt;
  refused = λ fed r refusal h.
      subst (λ (x : Refusal). IsFinished fed (Err x)) (same_refusal _ _ h)
      (subst (λ (x : Result Document Refusal). IsFinished fed x) c.in-Ok-Err.field-0-is (c.in-Ok-Err.ensures fed r));
  judged = λ h. refusal_is_no_fault _ h;
}

pub returns-in-Err : goal.returns-in-Err
returns-in-Err c = record {
  read = λ fed r. tt;
  refused = λ fed r refusal h. absurd (memory_is_no_refusal _ h);
  judged = λ h. memory_is_no_fault h;
}
