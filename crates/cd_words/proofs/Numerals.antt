-- Numerals as std's `parse` reads them.
use Rattle.std.proofs.Common.{◌≡◌, ◌≢◌, ℕ, ◌<◌, ◌≤◌, ◌^◌, Bool, true, false, true≢false, [], ◌∷◌, length, get_or, nat_le, None, Result, Ok, Err, refl, sym, ◌∙◌, arith, rules}
use Rattle.std.specs.Result.{result_ok, OkIff}
use Rattle.std.specs.Str.{all_ascii_digits}
use Rattle.std.specs.Str.Parse.{digits_value, ParsesUnsigned}
use Rattle.std.proofs.lemmas.Str.Parse.{IsNumeralModel, numerals_by_value, parse_plain, parse_gives, digits_value_short}
use Rattle.cd_words.specs.Form.{Bytes, begins_above_zero, numeral}

own : IsNumeralModel (λ ds. all_ascii_digits ds ≡ true) (digits_value 10)
own = numerals_by_value _ (search rules)

starts : (text : Bytes) → begins_above_zero text ≡ true → (0 < length text) × (get_or text 0 0 ≢ 43)
starts [] e = absurd (true≢false (sym e))
starts (d ∷ more) e = (grind arith, grind arith)

pub numeral_read : {E : Type 0} (text : Bytes) (r : Result ℕ E) → ParsesUnsigned 64 10 text r → length text ≤ 10 → begins_above_zero text ≡ true
    → result_ok r ≡ numeral text
numeral_read {E} text r parsed short begun = go (all_ascii_digits text) refl
  where
    fits : nat_le (length text) 10 ≡ true
    fits = grind arith

    go : (digits : Bool) → all_ascii_digits text ≡ digits → result_ok r ≡ numeral text
    go true e =
        let small : digits_value 10 text < 10000000000 = digits_value_short own text 10 e short in
        let read : r ≡ Ok (digits_value 10 text) = parse_gives own 64 text r parsed e (starts text begun).0 (omega arith) in
        rw (read, fits, begun, e) refl
    go false e = rw (fits, begun, e) (refused r (parse_plain own 64 text r parsed (starts text begun).1))
      where
        refused : (q : Result ℕ E) → OkIff q ((all_ascii_digits text ≡ true) × (0 < length text) × (digits_value 10 text < 2 ^ 64)) (digits_value 10 text) → result_ok q ≡ None
        refused (Ok n) is = absurd (true≢false (sym is.0.0 ∙ e))
        refused (Err x) is = refl
