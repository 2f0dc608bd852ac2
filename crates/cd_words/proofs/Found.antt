-- What `clap` finds in words that were heard to their end.
use Rattle.std.proofs.Common.{◌≡◌, ℕ, ◌≤◌, ◌&&◌, Bool, cond, true, false, List, [], ◌∷◌, ◌++◌, codes, Some, None, refl, ap, ap₂, sym, subst, ◌∙◌, inl, inr, arith, bytes_eq, fold, append_assoc, append-nil, ne_eqb}
use Rattle.std.specs.Option.{unwrap_or}
use Rattle.clap.specs.Walk.{Held, Row, Rule, Text, Waiting, Walk, idle, positional, all_of, has_row, default_rows, reading_by, reacted, used, finished, nothing_held, settled, with_default, walked, walk}
use Rattle.clap.specs.declared.parser.matches.ValueSource.TheVariants.{CommandLine}
use Rattle.clap.specs.Simple.{matches_of}
use Rattle.clap.specs.Takes.{settle_passes, takes, turn_passes, walk_passes}
use Rattle.cd_words.specs.CommandLine.{command_line}
use Rattle.cd_words.specs.Form.{Part, apart, joined, alone, name, limit, given, values, own_words, words_of, numeral, begins_above_zero}
use Rattle.cd_words.specs.Reading.{heard_value, heard_alone, verb_after}
use Rattle.cd_words.specs.declared.heard.Heard.{Heard}
use Rattle.cd_words.specs.declared.heard.Verb.{Verb}
use Rattle.cd_words.specs.declared.heard.Verb.TheVariants.{Missing, Classify, Trial}
use Rattle.cd_words.specs.declared.setting.Setting.{Setting}
use Rattle.cd_words.specs.declared.setting.Setting.TheVariants.{Workers, Cells, MaxContexts, MaxFacts}
use Rattle.cd_words.proofs.Pieces.{some≢none, is_or_not, heard_pieces, first_step, value_heard, alone_heard}
use Rattle.cd_words.proofs.Turns.{numeral_digits, same}
use Rattle.cd_words.proofs.Rows.{listed, after_use, all_of-with_values}
use Rattle.cd_words.proofs.Walk.{shape, rules, option_built, words_built, walk_at, with_pending, joined_walks, joined_passes, name_walks, name_passes, IsPlain, plain, value_walks, value_passes, IsFree, word_walks, word_passes}

-- ---- words that are heard begin with no hyphen

numeral_plain : (n : ℕ) (word : Text) → numeral word ≡ Some n → IsPlain word
numeral_plain n [] e = absurd (some≢none n (sym e))
numeral_plain n (d ∷ more) e = plain d more (ne_eqb d 45 (omega (arith, above d more (numeral_digits n (d ∷ more) e).0)))
  where
    above : (d : ℕ) (more : Text) → begins_above_zero (d ∷ more) ≡ true → 49 ≤ d
    above d more e = grind arith

word_plain : (verb next : Verb) (word : Text) → verb_after verb word ≡ Some next → IsPlain word
word_plain Missing next word e = elim (is_or_not (bytes_eq word (codes "classify"))) [
  | inl is ↦ subst IsPlain (sym (same word (codes "classify") is)) (plain _ _ refl)
  | inr isnt ↦ elim (is_or_not (bytes_eq word (codes "trial"))) [
    | inl is ↦ subst IsPlain (sym (same word (codes "trial") is)) (plain _ _ refl)
    | inr other ↦ absurd (some≢none next (sym (rw (isnt, other) at e)))
  ]
]
word_plain Classify next word e = absurd (some≢none next (sym e))
word_plain (Trial (Some n)) next word e = absurd (some≢none next (sym e))
word_plain (Trial None) next word e =
    let first = first_step (numeral word) (λ n. Some (Trial (Some n))) next e in
    numeral_plain first.0 word first.1

-- ---- the rows

-- what was found is these values of the options, and these words on their own
pub record IsFound (rows : List Row) (texts : Setting → List Text) (words : List Text) : Type 0 where
  pub options : (option : Setting) → all_of (limit option) rows ≡ listed (texts option)
  pub words_found : all_of (codes "words") rows ≡ listed words

pushed : (same : Bool) (value : Text) (had : List Text) → cond same (Some (unwrap_or (listed had) [] ++ value ∷ [])) (listed had) ≡ listed (had ++ cond same (value ∷ []) [])
pushed true value [] = refl
pushed true value (v ∷ vs) = refl
pushed false value [] = refl
pushed false value (v ∷ vs) = ap (λ (xs : List Text). Some (v ∷ xs)) (sym (append-nil vs))

abbrev rows_in : Held → List Row
rows_in held = (settled rules held).rows

abbrev more_texts : (Setting → List Text) → Setting → Text → Setting → List Text
more_texts texts other value option = texts option ++ given option other value

no_words : (option : Setting) → bytes_eq (limit option) (codes "words") ≡ false
no_words Workers = refl
no_words Cells = refl
no_words MaxContexts = refl
no_words MaxFacts = refl

no_option : (option : Setting) → bytes_eq (codes "words") (limit option) ≡ false
no_option Workers = refl
no_option Cells = refl
no_option MaxContexts = refl
no_option MaxFacts = refl

-- after one more value of an option
option_found : (rows after : List Row) (texts : Setting → List Text) (words : List Text) (other : Setting) (value : Text) → IsFound rows texts words
    → after ≡ used (option_built other) (value ∷ []) rows → IsFound after (more_texts texts other value) words
option_found rows after texts words other value h is = record {
  options = λ option.
      let same = bytes_eq (limit other) (limit option) in
      ap (all_of (limit option)) is
      ∙ all_of-with_values (limit option) (limit other) (reading_by (option_built other)) CommandLine (value ∷ []) rows
      ∙ ap (after_use same (value ∷ [])) (h.options option)
      ∙ pushed same value (texts option);
  words_found =
      ap (all_of (codes "words")) is
      ∙ all_of-with_values (codes "words") (limit other) (reading_by (option_built other)) CommandLine (value ∷ []) rows
      ∙ ap (λ (b : Bool). after_use b (value ∷ []) (all_of (codes "words") rows)) (no_words other)
      ∙ h.words_found;
}

-- after one more word on its own
word_found : (rows after : List Row) (texts : Setting → List Text) (words : List Text) (word : Text) → IsFound rows texts words
    → after ≡ used words_built (word ∷ []) rows → IsFound after texts (words ++ word ∷ [])
word_found rows after texts words word h is = record {
  options = λ option.
      ap (all_of (limit option)) is
      ∙ all_of-with_values (limit option) (codes "words") (reading_by words_built) CommandLine (word ∷ []) rows
      ∙ ap (λ (b : Bool). after_use b (word ∷ []) (all_of (limit option) rows)) (no_option option)
      ∙ h.options option;
  words_found =
      ap (all_of (codes "words")) is
      ∙ all_of-with_values (codes "words") (codes "words") (reading_by words_built) CommandLine (word ∷ []) rows
      ∙ ap (after_use true (word ∷ [])) h.words_found
      ∙ pushed true word words;
}

-- ---- the walk over the words of pieces

-- the walk goes over the words to their end, where these values and words are found
record Goes (from : Walk) (over : List Text) (texts : Setting → List Text) (words : List Text) : Type 0 where
  held : Held
  waiting : Waiting
  walks : fold (walked rules []) from over ≡ walk_at held waiting
  passes : walk_passes shape [] from over ≡ true
  settles : settle_passes rules false held ≡ true
  found : IsFound (rows_in held) texts words

passes_none : (from : Walk) → walk_passes shape [] from [] ≡ true
unfolding walk_passes
passes_none from = refl

passes_one : (from next : Walk) (word : Text) (more : List Text) → turn_passes shape [] from word ≡ true → walked rules [] from word ≡ next
    → walk_passes shape [] next more ≡ true → walk_passes shape [] from (word ∷ more) ≡ true
unfolding walk_passes
passes_one from next word more passes is own_words = ap₂ (λ (a : Bool) (w : Walk). a && walk_passes shape [] w more) passes is ∙ own_words

one_more : (from next : Walk) (word : Text) (more : List Text) (texts : Setting → List Text) (words : List Text)
    → turn_passes shape [] from word ≡ true → walked rules [] from word ≡ next → Goes next more texts words → Goes from (word ∷ more) texts words
one_more from next word more texts words passes is goes = record {
  held = goes.held;
  waiting = goes.waiting;
  walks = ap (λ (w : Walk). fold (walked rules []) w more) is ∙ goes.walks;
  passes = passes_one from next word more passes is goes.passes;
  settles = goes.settles;
  found = goes.found;
}

settles_pending : (held : Held) (option : Setting) (value : Text) → settle_passes rules false (with_pending held (limit option) (value ∷ [])) ≡ true
settles_pending held Workers value = refl
settles_pending held Cells value = refl
settles_pending held MaxContexts value = refl
settles_pending held MaxFacts value = refl

rows_pending : (held : Held) (option : Setting) (value : Text)
    → rows_in (with_pending held (limit option) (value ∷ [])) ≡ used (option_built option) (value ∷ []) (rows_in held)
rows_pending held Workers value = refl
rows_pending held Cells value = refl
rows_pending held MaxContexts value = refl
rows_pending held MaxFacts value = refl

over_pieces : (pieces : List Part) (heard end : Heard) → heard_pieces heard pieces ≡ Some end
    → (held : Held) (waiting : Waiting) → IsFree waiting → settle_passes rules false held ≡ true
    → (texts all_texts : Setting → List Text) (words all_words : List Text) → IsFound (rows_in held) texts words
    → ((option : Setting) → texts option ++ values option pieces ≡ all_texts option) → words ++ own_words pieces ≡ all_words
    → Goes (walk_at held waiting) (words_of pieces) all_texts all_words
over_pieces [] heard end e held waiting free settles texts all_texts words all_words h is_texts is_words = record {
  held = held;
  waiting = waiting;
  walks = refl;
  passes = passes_none (walk_at held waiting);
  settles = settles;
  found = record {
    options = λ option. h.options option ∙ ap listed (sym (append-nil (texts option)) ∙ is_texts option);
    words_found = h.words_found ∙ ap listed (sym (append-nil words) ∙ is_words);
  };
}
over_pieces (apart option value ∷ more) heard end e held waiting free settles texts all_texts words all_words h is_texts is_words =
    let first = first_step (heard_value heard option value) (λ next. heard_pieces next more) end e in
    let v = value_heard heard first.0 option value first.1 in
    let plain_value = numeral_plain v.n value v.read in
    let pending = with_pending held (limit option) (value ∷ []) in
    one_more (walk_at held waiting) (walk_at (with_pending held (limit option) []) (Waiting.option (limit option))) (name option) (value ∷ words_of more) all_texts all_words
    (name_passes option held waiting settles) (name_walks option held waiting)
    (one_more (walk_at (with_pending held (limit option) []) (Waiting.option (limit option))) (walk_at pending idle) value (words_of more) all_texts all_words
    (value_passes option value held plain_value) (value_walks option value held plain_value)
    (over_pieces more first.0 end first.2 pending idle IsFree.after_option (settles_pending held option value)
    (more_texts texts option value) all_texts words all_words
    (option_found (rows_in held) (rows_in pending) texts words option value h (rows_pending held option value))
    (λ o. append_assoc (texts o) (given o option value) (values o more) ∙ is_texts o) is_words))
over_pieces (joined option value ∷ more) heard end e held waiting free settles texts all_texts words all_words h is_texts is_words =
    let first = first_step (heard_value heard option value) (λ next. heard_pieces next more) end e in
    let after = reacted rules (option_built option) (value ∷ []) held in
    one_more (walk_at held waiting) (walk_at after idle) (name option ++ (codes "=" ++ value)) (words_of more) all_texts all_words
    (joined_passes option value held waiting settles) (joined_walks option value held waiting)
    (over_pieces more first.0 end first.2 after idle IsFree.after_option refl
    (more_texts texts option value) all_texts words all_words
    (option_found (rows_in held) (rows_in after) texts words option value h refl)
    (λ o. append_assoc (texts o) (given o option value) (values o more) ∙ is_texts o) is_words)
over_pieces (alone word ∷ more) heard end e held waiting free settles texts all_texts words all_words h is_texts is_words =
    let first = first_step (heard_alone heard word) (λ next. heard_pieces next more) end e in
    let v = alone_heard heard first.0 word first.1 in
    let plain_word = word_plain heard.verb v.verb word v.told in
    let pending = with_pending held (codes "words") (word ∷ []) in
    one_more (walk_at held waiting) (walk_at pending positional) word (words_of more) all_texts all_words
    (word_passes word held waiting free plain_word settles) (word_walks word held waiting free plain_word)
    (over_pieces more first.0 end first.2 pending positional IsFree.after_word refl
    texts all_texts (words ++ word ∷ []) all_words
    (word_found (rows_in held) (rows_in pending) texts words word h refl)
    is_texts (append_assoc words (word ∷ []) (own_words more) ∙ is_words))

-- ---- what is found at the end

same_default : (rows : List Row) (rule : Rule) → rule.defaults ≡ [] → with_default rows rule ≡ rows
same_default rows rule none = elim (is_or_not (has_row rule.id rows)) [
  | inl is ↦ rw is refl
  | inr isnt ↦ rw isnt (ap (λ (ds : List Text). default_rows rule.id (reading_by rule) ds rows) none)
]

no_defaults : (held : Held) → finished rules held ≡ rows_in held
no_defaults held =
    let rows = rows_in held in
    ap (λ (r : List Row). fold with_default r (option_built Cells ∷ option_built MaxContexts ∷ option_built MaxFacts ∷ words_built ∷ [])) (same_default rows (option_built Workers) refl)
    ∙ ap (λ (r : List Row). fold with_default r (option_built MaxContexts ∷ option_built MaxFacts ∷ words_built ∷ [])) (same_default rows (option_built Cells) refl)
    ∙ ap (λ (r : List Row). fold with_default r (option_built MaxFacts ∷ words_built ∷ [])) (same_default rows (option_built MaxContexts) refl)
    ∙ ap (λ (r : List Row). fold with_default r (words_built ∷ [])) (same_default rows (option_built MaxFacts) refl)
    ∙ same_default rows words_built refl

-- `clap` takes words that were heard to their end, and finds what their pieces give
pub clap_takes : (pieces : List Part) (heard end : Heard) → heard_pieces heard pieces ≡ Some end
    → (takes command_line (words_of pieces) ≡ true) × IsFound (matches_of command_line (words_of pieces)) (λ option. values option pieces) (own_words pieces)
clap_takes pieces heard end e =
    let goes = over_pieces pieces heard end e nothing_held idle IsFree.after_option refl (λ option. []) (λ option. values option pieces) [] (own_words pieces)
    (record { options = λ option. refl; words_found = refl }) (λ option. refl) refl in
    let held : (walk rules [] nothing_held (words_of pieces)).held ≡ goes.held = ap (λ (w : Walk). w.held) goes.walks in (
      rw (goes.walks, goes.passes, goes.settles) refl,
      subst (λ (rows : List Row). IsFound rows (λ option. values option pieces) (own_words pieces)) (sym (ap (finished rules) held ∙ no_defaults goes.held)) goes.found,
    )
