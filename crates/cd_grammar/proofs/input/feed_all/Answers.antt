use Rattle.std.proofs.Common.{◌≡◌, ◌≤◌, ◌-◌, ◌++◌, ℕ, List, length, take, drop, subst, ◌∙◌, arith, length-append, length-take}
use Rattle.std.proofs.lemmas.List.{take-append-le}
use Rattle.std.proofs.KnownBytes.{Consumes-trans}
use Rattle.cd_io.proofs.Losing.{loses_more}
use Rattle.cd_grammar.specs.Reading.{IsReading}
use Rattle.cd_grammar.proofs.input.feed_all.Goals as goal

pub loop-count-preserved : goal.loop-count-preserved
loop-count-preserved g c =
    let i = c.loop-count.invariant in
    let bound = c.in-Ok.ensures.bound in
    let later = c.in-Ok.ensures.cause.later in
    let fed = i.2.0 in
    let got = take c.in-Ok.got c.read.new.buf in
    let same : take c.in-Ok.got (c.read.new.buf ++ drop c.min-room.result c.as_mut_slice-piece.result.now) ≡ got =
    take-append-le c.in-Ok.got c.read.new.buf (drop c.min-room.result c.as_mut_slice-piece.result.now) bound.0 in
    let room : length c.read.new.buf ≤ c.args.most - c.loop-count.count =
    omega (arith, c.read.auto.buf, length-take c.min-room.result c.as_mut_slice-piece.result.now, c.min-room.ensures) in
    let got_length : c.in-Ok.got ≡ length got = bound.1 in (
      omega arith,
      i.1,
      (
        fed ++ got,
        subst (λ (piece : List ℕ). IsReading c.feed.new.self (fed ++ piece)) same (c.in_ok-feed-in-Ok.ensures fed i.2.1),
        Consumes-trans (g.S.Source.left c.args.source.now) (g.S.Source.left c.loop-count.source) (g.S.Source.left c.read.new.self) fed got i.2.2 c.in-Ok.ensures.bytes.0,
        omega (arith, length-append fed got),
      ),
      c.in-Ok.ensures.after ∙ i.3,
      omega arith,
    )

pub returns-in_err-feed-in-Ok-clause-taken : goal.returns-in_err-feed-in-Ok-clause-taken
returns-in_err-feed-in-Ok-clause-taken g c =
    let i = c.loop-count.invariant in
    let bound = c.in-Ok.ensures.bound in
    let fed = i.2.0 in
    let got = take c.in-Ok.got c.read.new.buf in
    let room : length c.read.new.buf ≤ c.args.most - c.loop-count.count =
    omega (arith, c.read.auto.buf, length-take c.min-room.result c.as_mut_slice-piece.result.now, c.min-room.ensures) in
    let got_length : c.in-Ok.got ≡ length got = bound.1 in
    loses_more (g.S.Source.left c.args.source.now) (g.S.Source.left c.loop-count.source) (g.S.Source.left c.read.new.self) fed got c.args.most
    i.2.2 c.in-Ok.ensures.bytes.0 (omega arith)
