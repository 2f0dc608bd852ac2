use Rattle.std.proofs.Common.{List, ℕ, ◌∙◌, ap, sym, subst}
use Rattle.std.specs.Prelude.{◌++◌, [], ◌∷◌, codes, OnOk}
use Rattle.std.specs.Io.KnownBytes.{Appends}
use Rattle.cd_io.specs.Streams.{AppendsFront}
use Rattle.cd_top.specs.Status.{numbered, refusal_line}
use Rattle.cd_top.proofs.notes.put_refusal.Goals as goal

pub returns-in-TooLong-clause-all : goal.returns-in-TooLong-clause-all
returns-in-TooLong-clause-all g c =
    let line = ap (λ (n : ℕ). numbered (codes "condor: input longer than ") n (codes " bytes" ++ 10 ∷ [])) c.one_less.ensures ∙ sym (ap refusal_line c.in-TooLong.is) in
    subst (λ (text : List ℕ). OnOk c.put_numbered-in-TooLong.result (Appends (g.E.Sink.written c.args.notes.now) (g.E.Sink.written c.put_numbered-in-TooLong.new.notes) text))
    line c.put_numbered-in-TooLong.ensures.all

pub returns-in-TooLong-clause-front : goal.returns-in-TooLong-clause-front
returns-in-TooLong-clause-front g c =
    let line = ap (λ (n : ℕ). numbered (codes "condor: input longer than ") n (codes " bytes" ++ 10 ∷ [])) c.one_less.ensures ∙ sym (ap refusal_line c.in-TooLong.is) in
    subst (λ (text : List ℕ). AppendsFront (g.E.Sink.written c.args.notes.now) (g.E.Sink.written c.put_numbered-in-TooLong.new.notes) text)
    line c.put_numbered-in-TooLong.ensures.front
