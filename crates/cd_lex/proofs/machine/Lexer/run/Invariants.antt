use Rattle.std.proofs.Common.{◌≡◌, ◌+◌, ◌≤◌, take}
use Rattle.std.specs.Prelude.{Some, IfSome}
use Rattle.cd_lex.specs.Machine.{IsRun, run}
use Rattle.cd_lex.proofs.machine.Lexer.run.Given as goal

abbrev pub invariant-loop-byte : goal.invariant-loop-byte
invariant-loop-byte l = record {
  done : IsRun (run l.fn.self (take l.byte-index l.piece)) l.self;
  stays : IfSome l.fn.self.fault (λ fault. l.self.fault ≡ Some fault);
  place : l.self.place ≤ l.fn.self.place + l.byte-index;
  closed : l.self.closed ≡ l.fn.self.closed;
}
