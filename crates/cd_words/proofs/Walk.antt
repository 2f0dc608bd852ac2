-- How `clap` goes over words of the form.
use Rattle.std.proofs.Common.{◌≡◌, ℕ, ◌==◌, ◌&&◌, Bool, true, false, List, [], ◌∷◌, ◌++◌, codes, Some, None, refl, bytes_eq}
use Rattle.clap.specs.Walk.{Held, Rule, Text, Waiting, Walk, idle, positional, is_pending, reacted, settled, subcommand_met, walked}
use Rattle.clap.specs.Lexer.{long_of, short_of}
use Rattle.clap.specs.Simple.{Shape, built, filled, is_simple, with_index}
use Rattle.clap.specs.Takes.{settle_passes, turn_passes}
use Rattle.cd_words.specs.CommandLine.{command_line, option_rule, words_rule}
use Rattle.cd_words.specs.Form.{name, limit}
use Rattle.cd_words.specs.declared.setting.Setting.{Setting}
use Rattle.cd_words.specs.declared.setting.Setting.TheVariants.{Workers, Cells, MaxContexts, MaxFacts}

abbrev pub shape : Shape
shape = (built command_line).top

abbrev pub rules : List Rule
rules = shape.rules

pub simple : is_simple command_line ≡ true
simple = refl

-- the arguments as building makes them
abbrev pub option_built : Setting → Rule
option_built option = with_index 1 (filled (option_rule (limit option)))

abbrev pub words_built : Rule
words_built = with_index 1 (filled words_rule)

-- ---- the walk between two words, where no option waits for its value

abbrev pub walk_at : Held → Waiting → Walk
walk_at held waiting = record { held = held; waiting = waiting; position = 1; is_trailing = false; stopped = None }

no_subcommand : (waiting : Waiting) (word : Text) → subcommand_met [] waiting word ≡ None
no_subcommand idle word = refl
no_subcommand positional word = refl
no_subcommand (Waiting.option o) word = refl

and_true : (a : Bool) → (a && true) ≡ a
and_true true = refl
and_true false = refl

-- ---- an option and its value as one word

pub joined_walks : (option : Setting) (value : Text) (held : Held) (waiting : Waiting)
    → walked rules [] (walk_at held waiting) (name option ++ (codes "=" ++ value)) ≡ walk_at (reacted rules (option_built option) (value ∷ []) held) idle
unfolding walked
joined_walks Workers value held waiting = rw (no_subcommand waiting (name Workers ++ (codes "=" ++ value))) refl
joined_walks Cells value held waiting = rw (no_subcommand waiting (name Cells ++ (codes "=" ++ value))) refl
joined_walks MaxContexts value held waiting = rw (no_subcommand waiting (name MaxContexts ++ (codes "=" ++ value))) refl
joined_walks MaxFacts value held waiting = rw (no_subcommand waiting (name MaxFacts ++ (codes "=" ++ value))) refl

pub joined_passes : (option : Setting) (value : Text) (held : Held) (waiting : Waiting) → settle_passes rules false held ≡ true
    → turn_passes shape [] (walk_at held waiting) (name option ++ (codes "=" ++ value)) ≡ true
joined_passes Workers value held waiting settles = rw (no_subcommand waiting (name Workers ++ (codes "=" ++ value)), settles) refl
joined_passes Cells value held waiting settles = rw (no_subcommand waiting (name Cells ++ (codes "=" ++ value)), settles) refl
joined_passes MaxContexts value held waiting settles = rw (no_subcommand waiting (name MaxContexts ++ (codes "=" ++ value)), settles) refl
joined_passes MaxFacts value held waiting settles = rw (no_subcommand waiting (name MaxFacts ++ (codes "=" ++ value)), settles) refl

-- ---- an option as a word of its own

abbrev pub with_pending : Held → Text → List Text → Held
with_pending held id vs = record (settled rules held) { pending = Some (id, vs) }

pub name_walks : (option : Setting) (held : Held) (waiting : Waiting)
    → walked rules [] (walk_at held waiting) (name option) ≡ walk_at (with_pending held (limit option) []) (Waiting.option (limit option))
unfolding walked
name_walks Workers held waiting = rw (no_subcommand waiting (name Workers)) refl
name_walks Cells held waiting = rw (no_subcommand waiting (name Cells)) refl
name_walks MaxContexts held waiting = rw (no_subcommand waiting (name MaxContexts)) refl
name_walks MaxFacts held waiting = rw (no_subcommand waiting (name MaxFacts)) refl

pub name_passes : (option : Setting) (held : Held) (waiting : Waiting) → settle_passes rules false held ≡ true
    → turn_passes shape [] (walk_at held waiting) (name option) ≡ true
name_passes Workers held waiting settles = rw (no_subcommand waiting (name Workers), settles) refl
name_passes Cells held waiting settles = rw (no_subcommand waiting (name Cells), settles) refl
name_passes MaxContexts held waiting settles = rw (no_subcommand waiting (name MaxContexts), settles) refl
name_passes MaxFacts held waiting settles = rw (no_subcommand waiting (name MaxFacts), settles) refl

-- ---- words that begin with no hyphen

pub record IsPlain (word : Text) : Type 0 where
  pub long : long_of word ≡ None
  pub short : short_of word ≡ None
  pub dashes : bytes_eq word (45 ∷ 45 ∷ []) ≡ false

pub plain : (first : ℕ) (more : Text) → first == 45 ≡ false → IsPlain (first ∷ more)
plain first more e = record { long = rw e refl; short = rw e refl; dashes = rw e refl }

-- the value of an option
pub value_walks : (option : Setting) (value : Text) (held : Held) → IsPlain value
    → walked rules [] (walk_at (with_pending held (limit option) []) (Waiting.option (limit option))) value ≡ walk_at (with_pending held (limit option) (value ∷ [])) idle
unfolding walked
value_walks Workers value held p = rw (p.dashes, p.long, p.short) refl
value_walks Cells value held p = rw (p.dashes, p.long, p.short) refl
value_walks MaxContexts value held p = rw (p.dashes, p.long, p.short) refl
value_walks MaxFacts value held p = rw (p.dashes, p.long, p.short) refl

pub value_passes : (option : Setting) (value : Text) (held : Held) → IsPlain value
    → turn_passes shape [] (walk_at (with_pending held (limit option) []) (Waiting.option (limit option))) value ≡ true
value_passes Workers value held p = rw (p.dashes, p.long, p.short) refl
value_passes Cells value held p = rw (p.dashes, p.long, p.short) refl
value_passes MaxContexts value held p = rw (p.dashes, p.long, p.short) refl
value_passes MaxFacts value held p = rw (p.dashes, p.long, p.short) refl

-- a word on its own, where no option waits for it
pub data IsFree : Waiting → Type 0 where
  after_option : IsFree idle
  after_word : IsFree positional

and_false : (a : Bool) → (a && false) ≡ false
and_false true = refl
and_false false = refl

pub word_walks : (word : Text) (held : Held) (waiting : Waiting) → IsFree waiting → IsPlain word
    → walked rules [] (walk_at held waiting) word ≡ walk_at (with_pending held (codes "words") (word ∷ [])) positional
unfolding walked
word_walks word held idle free p = rw (p.dashes, p.long, p.short, and_false (is_pending words_built held.pending)) refl
word_walks word held positional free p = rw (p.dashes, p.long, p.short, and_false (is_pending words_built held.pending)) refl
word_walks word held (Waiting.option o) free p = elim free [ ]

pub word_passes : (word : Text) (held : Held) (waiting : Waiting) → IsFree waiting → IsPlain word → settle_passes rules false held ≡ true
    → turn_passes shape [] (walk_at held waiting) word ≡ true
word_passes word held idle free p settles = rw (p.dashes, p.long, p.short, and_false (is_pending words_built held.pending), settles) refl
word_passes word held positional free p settles = rw (p.dashes, p.long, p.short, and_false (is_pending words_built held.pending), settles) refl
word_passes word held (Waiting.option o) free p settles = elim free [ ]
