-- What is heard of the words, by what `clap` found in them, and what it asks.
use Rattle.std.specs.Prelude.{◌≡◌, ◌≤◌, ℕ, List, [], ◌∷◌, codes, if◌then◌else◌, Option, Some, None, unwrap_or, option_map, map}
use Rattle.std.specs.Borrow.{Bor}
use Rattle.std.specs.Str.{bytes_eq}
use Rattle.clap.specs.Words.{Row, all_of}
use Rattle.cd_base.specs.declared.limits.Limits.{Limits}
use Rattle.cd_words.specs.Form.{Bytes, limit, numeral, usual_limit}
use Rattle.cd_words.specs.declared.request.Command.{Command}
use Rattle.cd_words.specs.declared.request.Command.TheVariants as command
use Rattle.cd_words.specs.declared.heard.Heard.{Heard}
use Rattle.cd_words.specs.declared.heard.Verb.{Verb}
use Rattle.cd_words.specs.declared.heard.Verb.TheVariants as verb
use Rattle.cd_words.specs.declared.setting.Setting.TheVariants.{Workers, Cells, MaxContexts, MaxFacts}

-- the words on their own are those of the command
abbrev pub IsVerb : Verb → Command → Type 0
IsVerb heard command.Classify = heard ≡ verb.Classify
IsVerb heard (command.Trial n) = (heard ≡ verb.Trial (Some n)) × (n ≤ 20000)

-- the limits are the numbers that were heard, and the standard ones where none was
pub record HasNumbers (heard : Heard) (limits : Limits) : Type 0 where
  pub workers : unwrap_or heard.workers (usual_limit Workers) ≡ limits.workers
  pub cells : unwrap_or heard.cells (usual_limit Cells) ≡ limits.cells
  pub max_contexts : unwrap_or heard.max_contexts (usual_limit MaxContexts) ≡ limits.max_contexts
  pub max_facts : unwrap_or heard.max_facts (usual_limit MaxFacts) ≡ limits.max_facts
  pub max_bytes : limits.max_bytes ≡ 268435456

-- the words were complete, and ask for the command under the limits
pub record IsHeardAs (heard : Heard) (request : Command) (limits : Limits) : Type 0 where
  pub complete : heard.waiting ≡ None
  pub verb : IsVerb heard.verb request
  pub numbers : HasNumbers heard limits

-- ---- by what was found

-- the texts that a slice of references has
abbrev pub texts_of : Option (Bor (List (Bor Bytes))) → Option (List Bytes)
texts_of = option_map (λ words. map (λ word. word.now) words.now)

-- the number of one numeral
abbrev pub number_found : Option (List Bytes) → Option ℕ
number_found (Some (value ∷ [])) = numeral value
number_found other = None

-- `classify`, or `trial` and its number
abbrev pub verb_found : Option (List Bytes) → Verb
verb_found (Some (word ∷ [])) =
    if bytes_eq word (codes "classify") then verb.Classify else verb.Missing
verb_found (Some (word ∷ size ∷ [])) =
    if bytes_eq word (codes "trial") then verb.Trial (numeral size) else verb.Missing
verb_found other = verb.Missing

-- what is heard of words in which `clap` found this
abbrev pub heard_of : List Row → Heard
heard_of rows = record {
  workers = number_found (all_of (limit Workers) rows);
  cells = number_found (all_of (limit Cells) rows);
  max_contexts = number_found (all_of (limit MaxContexts) rows);
  max_facts = number_found (all_of (limit MaxFacts) rows);
  verb = verb_found (all_of (codes "words") rows);
  waiting = None;
}
