-- A trial has one level at least, since its numeral begins with a digit above zero.
use Rattle.std.proofs.Common.{◌≡◌, ℕ, ◌≤◌, Bool, true, false, List, [], ◌∷◌, ap, sym, arith, Some, None}
use Rattle.std.specs.Prelude.{if◌then◌else◌, unwrap_or}
use Rattle.std.specs.Str.Parse.{digits_value}
use Rattle.std.proofs.lemmas.Str.{digit_value_digit}
use Rattle.std.proofs.lemmas.Str.Parse.{digits_value-take-le}
use Rattle.cd_base.specs.declared.limits.Limits.{Limits}
use Rattle.cd_words.specs.declared.request.Command.TheVariants.{Trial}
use Rattle.cd_words.specs.Form.{Bytes, Asks, is_numeral, begins_above_zero, numeral}
use Rattle.cd_words.proofs.Pieces.{some≢none}
use Rattle.cd_words.proofs.Turns.{numeral_digits}

begins : (d : ℕ) (more : Bytes) → begins_above_zero (d ∷ more) ≡ true → (49 ≤ d) × (d ≤ 57)
begins d more e = (grind arith, grind arith)

value_is : (b : Bool) (v n : ℕ) → (if b then Some v else None) ≡ Some n → v ≡ n
value_is true v n e = ap (λ o. unwrap_or o 0) e
value_is false v n e = absurd (some≢none n (sym e))

numeral_least : (text : Bytes) (n : ℕ) → numeral text ≡ Some n → 1 ≤ n
numeral_least [] n e = absurd (some≢none n (sym e))
numeral_least (d ∷ more) n e =
    let digit = begins d more (numeral_digits n (d ∷ more) e).0 in
    let value : digits_value 10 (d ∷ more) ≡ n = value_is (is_numeral (d ∷ more)) (digits_value 10 (d ∷ more)) n e in
    omega (arith, value, digits_value-take-le 10 (d ∷ more) 1 (omega arith), digit_value_digit d (omega (arith, digit), digit.1), digit)

pub levels_least : (words : List Bytes) (n : ℕ) (limits : Limits) → Asks words (Trial n) limits → 1 ≤ n
levels_least words n limits asks = let command = asks.command in numeral_least command.0 n command.2

pub levels_most : (words : List Bytes) (n : ℕ) (limits : Limits) → Asks words (Trial n) limits → n ≤ 20000
levels_most words n limits asks = let command = asks.command in command.3
