use Rattle.std.proofs.Common.{◌≡◌, map, length, string_bytes}
use Rattle.cd_words.specs.Reading.{heard_all, nothing_heard}
use Rattle.cd_words.proofs.heard.Heard.all.Given as goal

abbrev pub invariant-words : goal.invariant-words
invariant-words l = heard_all nothing_heard (map string_bytes l.words) ≡ heard_all l.heard (map string_bytes l.rest)

abbrev pub decreases-words : goal.decreases-words
decreases-words l = length l.rest
