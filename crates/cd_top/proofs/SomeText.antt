-- No text that is written is empty.
use Rattle.std.proofs.Common.{◌<◌, ℕ, Bool, List, length, sym, subst, arith}
use Rattle.cd_meaning.specs.declared.document.Document.{Document}
use Rattle.cd_meaning.specs.Answer.{IsAnswer}
use Rattle.cd_meaning.specs.Text.{text}
use Rattle.cd_taxonomy.specs.declared.groups.Summary.{Summary}
use Rattle.cd_taxonomy.specs.Summary.{summary_of, summary_text}
use Rattle.cd_top.specs.Trial.{IsTrialText}

-- a text begins with a word
some_text : (names : List (List ℕ)) (below : ℕ → ℕ → Bool) → 0 < length (text names below)
some_text names below = omega arith

pub some_answer : (document : Document) (bytes : List ℕ) → IsAnswer document bytes → 0 < length bytes
some_answer document bytes (below, decides, is) = subst (λ (bs : List ℕ). 0 < length bs) (sym is) (some_text document.classes below)

-- and so does a summary
some_summary : (counts : Summary) → 0 < length (summary_text counts)
some_summary counts = omega arith

pub some_trial : (levels : ℕ) (bytes : List ℕ) → IsTrialText levels bytes → 0 < length bytes
some_trial levels bytes (document, generated, below, decides, is) =
    subst (λ (bs : List ℕ). 0 < length bs) (sym is) (some_summary (summary_of document.classes below))
