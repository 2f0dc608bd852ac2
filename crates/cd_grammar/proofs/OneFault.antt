-- A fault behind some items has one cause.
use Rattle.std.proofs.Common.{◌≡◌, ℕ, List, refl, ap, inl, inr}
use Rattle.cd_syntax.specs.declared.cause.Cause.{Cause}
use Rattle.cd_syntax.specs.declared.cause.Cause.TheVariants.{Construct, Prefix, Depth, Syntax}
use Rattle.cd_syntax.specs.declared.item.Item.{Item}
use Rattle.cd_syntax.proofs.ItemFault.{IsFront, IsRefusedConstruct, IsCause}
use Rattle.cd_syntax.specs.Grammar.{nesting}
use Rattle.cd_grammar.proofs.Causes.{refused_only}
use Rattle.cd_grammar.proofs.Runs.{front_reaches}

-- an item is of one refused construct
one_number : (front : List Item) (item : Item) (m n : ℕ) → IsFront nesting front → IsRefusedConstruct front item m → IsRefusedConstruct front item n → m ≡ n
one_number front item m n is first second =
    let (end, run) = front_reaches nesting front is in
    let e = refused_only front end.0 end.1 run item m first in
    let f = refused_only front end.0 end.1 run item n second in
    cc

-- an item behind the front of a document has one cause
pub one_cause : (front : List Item) (item : Item) (c d : Cause) → IsFront nesting front → IsCause front item c → IsCause front item d → c ≡ d
one_cause front item (Construct m) (Construct n) is first second = ap Construct (one_number front item m n is first second)
one_cause front item (Construct m) Prefix is first second = absurd (second.0 m first)
one_cause front item (Construct m) Depth is first second = absurd (second.0 m first)
one_cause front item (Construct m) Syntax is first second = absurd (second.0 m first)
one_cause front item Prefix (Construct n) is first second = absurd (first.0 n second)
one_cause front item Prefix Prefix is first second = refl
one_cause front item Prefix Depth is (none, inl unknown) second = absurd (second.1 unknown)
one_cause front item Prefix Depth is (none, inr clash) second = absurd (second.2 clash)
one_cause front item Prefix Syntax is (none, inl unknown) second = absurd (second.1 unknown)
one_cause front item Prefix Syntax is (none, inr clash) second = absurd (second.2 clash)
one_cause front item Depth (Construct n) is first second = absurd (first.0 n second)
one_cause front item Depth Prefix is first (none, inl unknown) = absurd (first.1 unknown)
one_cause front item Depth Prefix is first (none, inr clash) = absurd (first.2 clash)
one_cause front item Depth Depth is first second = refl
one_cause front item Depth Syntax is first second = absurd (second.3 first.3)
one_cause front item Syntax (Construct n) is first second = absurd (first.0 n second)
one_cause front item Syntax Prefix is first (none, inl unknown) = absurd (first.1 unknown)
one_cause front item Syntax Prefix is first (none, inr clash) = absurd (first.2 clash)
one_cause front item Syntax Depth is first second = absurd (first.3 second.3)
one_cause front item Syntax Syntax is first second = refl
