-- The words one by one: what those so far ask.
use Rattle.std.specs.Prelude.{ℕ, ◌==◌, if◌then◌else◌, nat_lt, List, [], ◌∷◌, length, codes, Option, Some, None, is_some, option_map, option_and_then}
use Rattle.std.specs.List.{position_or_len, before_first, after_first}
use Rattle.std.specs.Str.{bytes_eq}
use Rattle.cd_words.specs.Form.{Bytes, numeral}
use Rattle.cd_words.specs.declared.heard.Heard.{Heard}
use Rattle.cd_words.specs.declared.heard.Verb.{Verb}
use Rattle.cd_words.specs.declared.heard.Verb.TheVariants.{Missing, Classify, Trial}
use Rattle.cd_words.specs.declared.setting.Setting.{Setting}
use Rattle.cd_words.specs.declared.setting.Setting.TheVariants.{Workers, Cells, MaxContexts, MaxFacts}

-- the option of a name
abbrev pub setting_named : Bytes → Option Setting
setting_named text =
    if bytes_eq text (codes "--workers") then Some Workers
    else if bytes_eq text (codes "--cells") then Some Cells
    else if bytes_eq text (codes "--max-contexts") then Some MaxContexts
    else if bytes_eq text (codes "--max-facts") then Some MaxFacts
    else None

-- what stands before the first `=` (61) and what after it
abbrev pub name_and_value : Bytes → Option (Bytes × Bytes)
name_and_value word =
    if nat_lt (position_or_len (λ b. b == 61) word) (length word)
    then Some (before_first (λ b. b == 61) word, after_first (λ b. b == 61) word) else None

abbrev pub nothing_heard : Heard
nothing_heard = record {
  workers = None;
  cells = None;
  max_contexts = None;
  max_facts = None;
  verb = Missing;
  waiting = None;
}

-- the number of an option
abbrev pub number_heard : Heard → Setting → Option ℕ
number_heard heard Workers = heard.workers
number_heard heard Cells = heard.cells
number_heard heard MaxContexts = heard.max_contexts
number_heard heard MaxFacts = heard.max_facts

abbrev pub with_number : Heard → Setting → ℕ → Heard
with_number heard Workers n = record heard { workers = Some n; waiting = None }
with_number heard Cells n = record heard { cells = Some n; waiting = None }
with_number heard MaxContexts n = record heard { max_contexts = Some n; waiting = None }
with_number heard MaxFacts n = record heard { max_facts = Some n; waiting = None }

-- a value of an option that has none yet
abbrev pub heard_value : Heard → Setting → Bytes → Option Heard
heard_value heard option value =
    if is_some (number_heard heard option) then None else option_map (with_number heard option)
    (numeral value)

-- the words on their own, after one more
abbrev pub verb_after : Verb → Bytes → Option Verb
verb_after Missing word =
    if bytes_eq word (codes "classify") then Some Classify
    else if bytes_eq word (codes "trial") then Some (Trial None)
    else None
verb_after (Trial None) word = option_map (λ n. Trial (Some n)) (numeral word)
verb_after other word = None

abbrev pub heard_alone : Heard → Bytes → Option Heard
heard_alone heard word = option_map (λ verb. record heard { verb = verb })
    (verb_after heard.verb word)

abbrev pub heard_name : Heard → Option Setting → Bytes → Option Heard
heard_name heard (Some option) word = Some (record heard { waiting = Some option })
heard_name heard None word = heard_alone heard word

-- a word without `=`
abbrev pub heard_whole : Heard → Bytes → Option Heard
heard_whole heard word = heard_name heard (setting_named word) word

abbrev pub heard_joined : Heard → Option Setting → Bytes → Option Heard
heard_joined heard (Some option) value = heard_value heard option value
heard_joined heard None value = None

abbrev pub heard_idle : Heard → Option (Bytes × Bytes) → Bytes → Option Heard
heard_idle heard (Some p) word = heard_joined heard (setting_named p.0) p.1
heard_idle heard None word = heard_whole heard word

abbrev pub heard_waiting : Heard → Option Setting → Bytes → Option Heard
heard_waiting heard (Some option) word = heard_value heard option word
heard_waiting heard None word = heard_idle heard (name_and_value word) word

-- one more word
abbrev pub heard_word : Heard → Bytes → Option Heard
heard_word heard word = heard_waiting heard heard.waiting word

-- all words, one by one
abbrev pub heard_all : Heard → List Bytes → Option Heard
heard_all heard [] = Some heard
heard_all heard (word ∷ more) =
    option_and_then (λ next. heard_all next more) (heard_word heard word)
