-- What one word is heard as: a name, a name with its value, or a word on its own.
use Rattle.std.proofs.Common.{◌≡◌, ℕ, ◌<◌, ◌≤◌, ◌&&◌, ◌==◌, Bool, cond, true, false, true≢false, List, [], ◌∷◌, ◌++◌, codes, length, Option, Some, None, option_and_then, refl, ap, ap₂, sym, ◌∙◌, inl, inr, arith, bytes_eq, nat_lt, lt-ltb, ltb-true, le-ltb, eqb-true, ne_eqb}
use Rattle.std.specs.List.{position_or_len, before_first, after_first}
use Rattle.std.specs.Str.{all_ascii_digits}
use Rattle.std.proofs.lemmas.List.Sums.{split_at_first, passes_at_first}
use Rattle.std.proofs.lemmas.Slice.Eq.{bytes_eq-Decides}
use Rattle.cd_words.specs.Form.{Bytes, Part, apart, joined, alone, name, words_of, begins_above_zero, is_numeral, numeral}
use Rattle.cd_words.specs.Reading.{setting_named, name_and_value, heard_value, heard_alone, heard_word, heard_waiting, heard_idle, heard_joined, heard_name, heard_all, verb_after}
use Rattle.cd_words.specs.declared.heard.Heard.{Heard}
use Rattle.cd_words.specs.declared.heard.Verb.{Verb}
use Rattle.cd_words.specs.declared.heard.Verb.TheVariants.{Missing, Classify, Trial}
use Rattle.cd_words.specs.declared.setting.Setting.{Setting}
use Rattle.cd_words.specs.declared.setting.Setting.TheVariants.{Workers, Cells, MaxContexts, MaxFacts}
use Rattle.cd_words.proofs.Pieces.{some≢none, is_or_not, heard_pieces, IsValue, IsAlone, value_heard, alone_heard, first_step, value_kept}

abbrev is_equals : ℕ → Bool
is_equals b = b == 61

-- ---- names

pub same : (a b : Bytes) → bytes_eq a b ≡ true → a ≡ b
same a b = (bytes_eq-Decides a b).0

-- a name that is found is spelled so
pub named : (text : Bytes) (option : Setting) → setting_named text ≡ Some option → text ≡ name option
named text option e = elim (is_or_not (bytes_eq text (name Workers))) [
  | inl is ↦ same text (name Workers) is ∙ ap name (cc_some (rw is at e))
  | inr not1 ↦ elim (is_or_not (bytes_eq text (name Cells))) [
    | inl is ↦ same text (name Cells) is ∙ ap name (cc_some (rw (not1, is) at e))
    | inr not2 ↦ elim (is_or_not (bytes_eq text (name MaxContexts))) [
      | inl is ↦ same text (name MaxContexts) is ∙ ap name (cc_some (rw (not1, not2, is) at e))
      | inr not3 ↦ elim (is_or_not (bytes_eq text (name MaxFacts))) [
        | inl is ↦ same text (name MaxFacts) is ∙ ap name (cc_some (rw (not1, not2, not3, is) at e))
        | inr not4 ↦ absurd (some≢none option (sym (rw (not1, not2, not3, not4) at e)))
      ]
    ]
  ]
]
  where
    cc_some : {a b : Setting} → Some a ≡ Some b → a ≡ b
    cc_some e = cc

-- ---- the first `=`

-- what stands before it and what after make up the word
parts : (word : Bytes) → nat_lt (position_or_len is_equals word) (length word) ≡ true → word ≡ before_first is_equals word ++ 61 ∷ after_first is_equals word
parts word less =
    let inside : position_or_len is_equals word < length word = ltb-true _ _ less in
    split_at_first is_equals word 61 inside
    ∙ ap (λ (b : ℕ). before_first is_equals word ++ b ∷ after_first is_equals word) (eqb-true _ _ (passes_at_first is_equals word 61 inside))

-- the name of an option with its value
splits : (option : Setting) (value : Bytes) → name_and_value (name option ++ (codes "=" ++ value)) ≡ Some (name option, value)
splits Workers value = rw (lt-ltb 9 (length (name Workers ++ (codes "=" ++ value))) (omega arith)) refl
splits Cells value = rw (lt-ltb 7 (length (name Cells ++ (codes "=" ++ value))) (omega arith)) refl
splits MaxContexts value = rw (lt-ltb 14 (length (name MaxContexts ++ (codes "=" ++ value))) (omega arith)) refl
splits MaxFacts value = rw (lt-ltb 11 (length (name MaxFacts ++ (codes "=" ++ value))) (omega arith)) refl

-- ---- from a word to what is heard

-- what a word may be heard as, where no option waits for its numeral
pub data Turn (heard : Heard) (word : Bytes) (next : Option Heard) : Type 0 where
  opens : (option : Setting) → word ≡ name option → next ≡ Some (record heard { waiting = Some option }) → Turn heard word next
  joins : (option : Setting) (value : Bytes) → word ≡ name option ++ (codes "=" ++ value) → next ≡ heard_value heard option value → Turn heard word next
  stands : next ≡ heard_alone heard word → Turn heard word next
  fails : next ≡ None → Turn heard word next

pub turn : (heard : Heard) (word : Bytes) → Turn heard word (heard_idle heard (name_and_value word) word)
turn heard word = elim (is_or_not (nat_lt (position_or_len is_equals word) (length word))) [
  | inl cut ↦ rw cut (valued (setting_named (before_first is_equals word)) refl cut)
  | inr whole ↦ rw whole (by_name (setting_named word) refl)
]
  where
    valued : (found : Option Setting) → setting_named (before_first is_equals word) ≡ found → nat_lt (position_or_len is_equals word) (length word) ≡ true
        → Turn heard word (heard_joined heard (setting_named (before_first is_equals word)) (after_first is_equals word))
    valued None is cut = fails (ap (λ (o : Option Setting). heard_joined heard o (after_first is_equals word)) is)
    valued (Some option) is cut =
        joins option (after_first is_equals word)
        (parts word cut ∙ ap (λ (t : Bytes). t ++ 61 ∷ after_first is_equals word) (named (before_first is_equals word) option is))
        (ap (λ (o : Option Setting). heard_joined heard o (after_first is_equals word)) is)

    by_name : (found : Option Setting) → setting_named word ≡ found → Turn heard word (heard_name heard (setting_named word) word)
    by_name None is = stands (ap (λ (o : Option Setting). heard_name heard o word) is)
    by_name (Some option) is = opens option (named word option is) (ap (λ (o : Option Setting). heard_name heard o word) is)

-- ---- words on their own

digits_only : (d : ℕ) (more : Bytes) → all_ascii_digits (d ∷ more) ≡ true → (48 ≤ d) × (d ≤ 57) × (all_ascii_digits more ≡ true)
digits_only d more e = (grind arith, grind arith, grind arith)

no_equals : (word : Bytes) → all_ascii_digits word ≡ true → position_or_len is_equals word ≡ length word
no_equals [] e = refl
no_equals (d ∷ more) e =
    let digit = digits_only d more e in
    let other : d == 61 ≡ false = ne_eqb d 61 (omega arith) in
    rw other (omega (arith, no_equals more digit.2))

chosen : {X : Type 0} (b : Bool) (x y : X) → cond b (Some x) None ≡ Some y → b ≡ true
chosen true x y e = refl
chosen false x y e = absurd (some≢none y (sym e))

both : (a b : Bool) → (a && b) ≡ true → (a ≡ true) × (b ≡ true)
both true b e = (refl, e)
both false b e = absurd (true≢false (sym e))

pub numeral_digits : (n : ℕ) (word : Bytes) → numeral word ≡ Some n → (begins_above_zero word ≡ true) × (all_ascii_digits word ≡ true)
numeral_digits n word e = both _ _ (both _ _ (chosen (is_numeral word) _ n e)).1

above : (d : ℕ) (more : Bytes) → begins_above_zero (d ∷ more) ≡ true → 49 ≤ d
above d more e = grind arith

-- a numeral is no option
plain_numeral : (n : ℕ) (word : Bytes) → numeral word ≡ Some n → (name_and_value word ≡ None) × (setting_named word ≡ None)
plain_numeral n [] e = absurd (some≢none n (sym e))
plain_numeral n (d ∷ more) e =
    let digits = numeral_digits n (d ∷ more) e in
    let no_hyphen : d == 45 ≡ false = ne_eqb d 45 (omega (arith, above d more digits.0)) in
    let whole : nat_lt (position_or_len is_equals (d ∷ more)) (length (d ∷ more)) ≡ false = le-ltb _ _ (omega (arith, no_equals (d ∷ more) digits.1)) in
    (rw whole refl, rw no_hyphen refl)

-- a word that may stand on its own is no option
plain_word : (verb next : Verb) (word : Bytes) → verb_after verb word ≡ Some next → (name_and_value word ≡ None) × (setting_named word ≡ None)
plain_word Missing next word e = elim (is_or_not (bytes_eq word (codes "classify"))) [
  | inl is ↦ rw (same word (codes "classify") is) (refl, refl)
  | inr isnt ↦ elim (is_or_not (bytes_eq word (codes "trial"))) [
    | inl is ↦ rw (same word (codes "trial") is) (refl, refl)
    | inr other ↦ absurd (some≢none next (sym (rw (isnt, other) at e)))
  ]
]
plain_word Classify next word e = absurd (some≢none next (sym e))
plain_word (Trial (Some n)) next word e = absurd (some≢none next (sym e))
plain_word (Trial None) next word e =
    let first = first_step (numeral word) (λ n. Some (Trial (Some n))) next e in
    plain_numeral first.0 word first.1

-- ---- from pieces to words, and back

alone_word : (heard next : Heard) (word : Bytes) → heard.waiting ≡ None → IsAlone heard word next → heard_word heard word ≡ Some next
alone_word heard next word idle v =
    let plain = plain_word heard.verb v.verb word v.told in
    ap (λ (o : Option Setting). heard_waiting heard o word) idle ∙ rw (plain.0, plain.1, v.told) (ap Some (sym v.is))

apart_words : (heard next : Heard) (option : Setting) (value : Bytes) (more : List Bytes) → heard.waiting ≡ None → IsValue heard option value next
    → heard_all heard (name option ∷ value ∷ more) ≡ heard_all next more
apart_words heard next option value more idle v = at option v
  where
    at : (o : Setting) → IsValue heard o value next → heard_all heard (name o ∷ value ∷ more) ≡ heard_all next more
    at Workers v = rw (idle, v.new, v.read) (ap (λ (x : Heard). heard_all x more) (sym v.is))
    at Cells v = rw (idle, v.new, v.read) (ap (λ (x : Heard). heard_all x more) (sym v.is))
    at MaxContexts v = rw (idle, v.new, v.read) (ap (λ (x : Heard). heard_all x more) (sym v.is))
    at MaxFacts v = rw (idle, v.new, v.read) (ap (λ (x : Heard). heard_all x more) (sym v.is))

named_back : (option : Setting) → setting_named (name option) ≡ Some option
named_back Workers = refl
named_back Cells = refl
named_back MaxContexts = refl
named_back MaxFacts = refl

joined_word : (heard next : Heard) (option : Setting) (value : Bytes) → heard.waiting ≡ None → heard_value heard option value ≡ Some next
    → heard_word heard (name option ++ (codes "=" ++ value)) ≡ Some next
joined_word heard next option value idle e = rw (idle, splits option value, named_back option) e

same_value : (heard : Heard) (option : Setting) (value : Bytes) → heard_value heard option value ≡ heard_value (record heard { waiting = Some option }) option value
same_value heard Workers value = refl
same_value heard Cells value = refl
same_value heard MaxContexts value = refl
same_value heard MaxFacts value = refl

value_waits : (heard next : Heard) (option : Setting) (value : Bytes) → IsValue heard option value next → next.waiting ≡ None
value_waits heard next option value v = ap (λ (x : Heard). x.waiting) v.is ∙ (value_kept heard option v.n).1

-- what is heard of pieces is heard of their words
pub words_heard : (pieces : List Part) (heard end : Heard) → heard.waiting ≡ None → heard_pieces heard pieces ≡ Some end
    → heard_all heard (words_of pieces) ≡ Some end
words_heard [] heard end idle e = e
words_heard (apart option value ∷ more) heard end idle e =
    let first = first_step (heard_value heard option value) (λ next. heard_pieces next more) end e in
    let v = value_heard heard first.0 option value first.1 in
    apart_words heard first.0 option value (words_of more) idle v ∙ words_heard more first.0 end (value_waits heard first.0 option value v) first.2
words_heard (joined option value ∷ more) heard end idle e =
    let first = first_step (heard_value heard option value) (λ next. heard_pieces next more) end e in
    let v = value_heard heard first.0 option value first.1 in
    ap (option_and_then (λ next. heard_all next (words_of more))) (joined_word heard first.0 option value idle first.1)
    ∙ words_heard more first.0 end (value_waits heard first.0 option value v) first.2
words_heard (alone word ∷ more) heard end idle e =
    let first = first_step (heard_alone heard word) (λ next. heard_pieces next more) end e in
    let v = alone_heard heard first.0 word first.1 in
    ap (option_and_then (λ next. heard_all next (words_of more))) (alone_word heard first.0 word idle v)
    ∙ words_heard more first.0 end (ap (λ (x : Heard). x.waiting) v.is ∙ idle) first.2

-- words that are heard to their end are those of pieces
abbrev pub AreOfPieces : Heard → List Bytes → Heard → Type 0
AreOfPieces heard words end = (pieces : List Part) × (words ≡ words_of pieces) × (heard_pieces heard pieces ≡ Some end)

-- the same of one more word, by what it is heard as
one_more : (heard end : Heard) (word : Bytes) (more : List Bytes) → heard.waiting ≡ None
    → ((next : Heard) → next.waiting ≡ None → heard_all next more ≡ Some end → AreOfPieces next more end)
    → ((option : Setting) → word ≡ name option → heard_all (record heard { waiting = Some option }) more ≡ Some end → AreOfPieces heard (word ∷ more) end)
    → heard_all heard (word ∷ more) ≡ Some end → AreOfPieces heard (word ∷ more) end
one_more heard end word more idle later opened e =
    let first = first_step (heard_word heard word) (λ next. heard_all next more) end e in
    let is : heard_idle heard (name_and_value word) word ≡ Some first.0 = sym (ap (λ (o : Option Setting). heard_waiting heard o word) idle) ∙ first.1 in
    by_turn first.0 first.2 is (turn heard word)
  where
    by_turn : (next : Heard) → heard_all next more ≡ Some end → heard_idle heard (name_and_value word) word ≡ Some next
        → Turn heard word (heard_idle heard (name_and_value word) word) → AreOfPieces heard (word ∷ more) end
    by_turn next rest is (opens option named told) =
        let same : next ≡ record heard { waiting = Some option } = cc in
        opened option named (ap (λ (x : Heard). heard_all x more) (sym same) ∙ rest)
    by_turn next rest is (joins option value spelt told) =
        let heard_so : heard_value heard option value ≡ Some next = sym told ∙ is in
        let v = value_heard heard next option value heard_so in
        let tail = later next (value_waits heard next option value v) rest in
        (joined option value ∷ tail.0, ap₂ (λ (w : Bytes) (ws : List Bytes). w ∷ ws) spelt tail.1, ap (option_and_then (λ next. heard_pieces next tail.0)) heard_so ∙ tail.2)
    by_turn next rest is (stands told) =
        let heard_so : heard_alone heard word ≡ Some next = sym told ∙ is in
        let v = alone_heard heard next word heard_so in
        let tail = later next (ap (λ (x : Heard). x.waiting) v.is ∙ idle) rest in
        (alone word ∷ tail.0, ap (λ (ws : List Bytes). word ∷ ws) tail.1, ap (option_and_then (λ next. heard_pieces next tail.0)) heard_so ∙ tail.2)
    by_turn next rest is (fails told) = absurd (some≢none next (sym is ∙ told))

pub of_pieces : (words : List Bytes) (heard end : Heard) → heard.waiting ≡ None → end.waiting ≡ None → heard_all heard words ≡ Some end → AreOfPieces heard words end
of_pieces [] heard end idle ended e = ([], refl, e)
of_pieces (word ∷ []) heard end idle ended e =
    one_more heard end word [] idle (λ next waits rest. of_pieces [] next end waits ended rest)
    (λ option named rest. let same : record heard { waiting = Some option } ≡ end = cc in absurd (some≢none option (ap (λ (x : Heard). x.waiting) same ∙ ended))) e
of_pieces (word ∷ value ∷ more) heard end idle ended e =
    one_more heard end word (value ∷ more) idle (λ next waits rest. of_pieces (value ∷ more) next end waits ended rest)
    (λ option named rest.
    let opened : Heard = record heard { waiting = Some option } in
    let first = first_step (heard_word opened value) (λ next. heard_all next more) end rest in
    let heard_so : heard_value heard option value ≡ Some first.0 = same_value heard option value ∙ first.1 in
    let v = value_heard heard first.0 option value heard_so in
    let tail = of_pieces more first.0 end (value_waits heard first.0 option value v) ended first.2 in
    (apart option value ∷ tail.0, ap₂ (λ (w : Bytes) (ws : List Bytes). w ∷ value ∷ ws) named tail.1, ap (option_and_then (λ next. heard_pieces next tail.0)) heard_so ∙ tail.2))
    e
