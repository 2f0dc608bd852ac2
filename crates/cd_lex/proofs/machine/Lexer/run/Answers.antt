use Rattle.std.proofs.Common.{ap, sym, ◌∙◌, arith}
use Rattle.std.specs.Prelude.{is_some}
use Rattle.cd_lex.specs.Machine.{State}
use Rattle.cd_lex.proofs.MachineRuns.{none_if, no_fault, run_stopped, run_more, run_all}
use Rattle.cd_lex.proofs.machine.Lexer.run.Goals as goal

pub returns-then-is_some-clause-done : goal.returns-then-is_some-clause-done
returns-then-is_some-clause-done c =
    run_stopped c.args.self.now c.loop-byte.self c.args.piece.now c.loop-byte.byte-index c.loop-byte.invariant.done
    (sym (ap (λ (s : State). is_some s.fault) c.self.view_is) ∙ sym c.is_some.ensures ∙ c.if-is_some.true)

pub returns-then-is_some-clause-place : goal.returns-then-is_some-clause-place
returns-then-is_some-clause-place c = omega arith

pub returns-then-is_some-clause-closed : goal.returns-then-is_some-clause-closed
returns-then-is_some-clause-closed c = c.loop-byte.invariant.closed

pub step-requires : goal.step-requires
step-requires c = record {
  live = none_if c.loop-byte.self.fault (sym (ap (λ (s : State). is_some s.fault) c.self.view_is) ∙ sym c.is_some.ensures ∙ c.if-is_some.false);
  room = omega arith;
}

pub loop-byte-preserved : goal.loop-byte-preserved
loop-byte-preserved c = record {
  done = run_more c.args.self.now c.loop-byte.self c.step.new.self c.args.piece.now c.loop-byte.byte-index c.loop-byte-test.true
      c.loop-byte.invariant.done
      (sym (ap (λ (s : State). is_some s.fault) c.self.view_is) ∙ sym c.is_some.ensures ∙ c.if-is_some.false)
      c.step.ensures.done;
  stays = no_fault c.args.self.now.fault c.loop-byte.self.fault c.step.new.self.fault c.loop-byte.invariant.stays
      (sym (ap (λ (s : State). is_some s.fault) c.self.view_is) ∙ sym c.is_some.ensures ∙ c.if-is_some.false);
  place = omega arith;
  closed = c.step.ensures.closed ∙ c.loop-byte.invariant.closed;
}

pub returns-clause-done : goal.returns-clause-done
returns-clause-done c =
    run_all c.args.self.now c.loop-byte.self c.args.piece.now c.loop-byte.byte-index (omega arith) c.loop-byte.invariant.done

pub returns-clause-place : goal.returns-clause-place
returns-clause-place c = omega arith

pub returns-clause-closed : goal.returns-clause-closed
returns-clause-closed c = c.loop-byte.invariant.closed

pub returns-then-is_some-clause-stays : goal.returns-then-is_some-clause-stays
returns-then-is_some-clause-stays c = c.loop-byte.invariant.stays

pub returns-clause-stays : goal.returns-clause-stays
returns-clause-stays c = c.loop-byte.invariant.stays
