-- The text of what a document entails is the answer to its input, the only one, and says what holds over every domain.
use Rattle.std.proofs.Common.{◌≡◌, ◌<◌, ◌↔◌, ℕ, Bool, List, length, sym, subst, ◌∙◌, slice_get}
use Rattle.std.specs.Prelude.{IsTrue, Some}
use Rattle.std.proofs.lemmas.Option.{slice_get_within, get_or_from_slice_get}
use Rattle.cd_meaning.specs.declared.document.Document.{Document}
use Rattle.cd_meaning.specs.declared.expression.Axiom.{Axiom}
use Rattle.cd_meaning.specs.Answer.{IsAnswer}
use Rattle.cd_meaning.specs.Entailment.{Entails}
use Rattle.cd_meaning.specs.Text.{text}
use Rattle.cd_meaning.proofs.FiniteModels.{finite_is_enough}
use Rattle.cd_meaning.proofs.OneText.{one_answer}
use Rattle.cd_syntax.specs.Grammar.{IsRead, IsSame}
use Rattle.cd_grammar.proofs.OneReading.{one_reading}
use Rattle.cd_top.specs.Headline.{IsAnswered, HasOneText, IsBelowOver}
use Rattle.cd_top.specs.Restated.{EntailsNamed}
use Rattle.cd_top.proofs.Restated.{answer_restated}
use Rattle.cd_top.proofs.RestatedNames.{same_number}

-- the answer to the document that an input is
pub answered : (input bytes : List ℕ) (document : Document) → IsRead input document → IsAnswer document bytes → IsAnswered input bytes
answered input bytes document read answer =
    let restated = answer_restated input bytes document read answer in
    (document, read, answer, restated.0, restated.1)

-- ---- one text

-- an answer depends on the axioms and the classes alone
abbrev Answers : List Axiom → List (List ℕ) → List ℕ → Type 0
Answers axioms classes bytes = (below : ℕ → ℕ → Bool)
    × ((a b : ℕ) → a < length classes → b < length classes → IsTrue (below a b) ↔ Entails axioms a b) × (bytes ≡ text classes below)

moved : (d e : Document) (bytes : List ℕ) → IsSame d e → IsAnswer e bytes → IsAnswer d bytes
moved d e bytes same is =
    subst (λ (axioms : List Axiom). Answers axioms d.classes bytes) (sym same.axioms)
    (subst (λ (classes : List (List ℕ)). Answers e.axioms classes bytes) (sym same.classes) is)

pub one_text : HasOneText
one_text input one other (d, read, is, said, restates) (e, read', is', said', restates') =
    one_answer d one other is (moved d e other (one_reading input d e read read') is')

-- ---- every domain

-- what is said of names depends on the axioms and the classes alone
abbrev Named : List ℕ → List ℕ → List Axiom → List (List ℕ) → Type 0
Named i j axioms classes = (a : ℕ) × (b : ℕ) × (slice_get classes a ≡ Some i) × (slice_get classes b ≡ Some j) × Entails axioms a b

named_too : (d e : Document) (i j : List ℕ) → IsSame d e → EntailsNamed d i j → EntailsNamed e i j
named_too d e i j same is =
    subst (λ (axioms : List Axiom). Named i j axioms e.classes) same.axioms (subst (Named i j d.axioms) same.classes is)

-- where the classes of these numbers have these names, they are the only ones
at_names : (d : Document) (a b : ℕ) (i j : List ℕ) → slice_get d.classes a ≡ Some i → slice_get d.classes b ≡ Some j → EntailsNamed d i j → Entails d.axioms a b
at_names d a b i j a_at b_at (p, q, p_at, q_at, entails) =
    subst (λ (x : ℕ). Entails d.axioms x b) (one_number p a i p_at a_at) (subst (λ (x : ℕ). Entails d.axioms p x) (one_number q b j q_at b_at) entails)
  where
    one_number : (m n : ℕ) (k : List ℕ) → slice_get d.classes m ≡ Some k → slice_get d.classes n ≡ Some k → m ≡ n
    one_number m n k m_at n_at =
        same_number d.classes d.distinct_classes m n (slice_get_within d.classes m k m_at) (slice_get_within d.classes n k n_at) k k
        (get_or_from_slice_get d.classes m k k m_at ∙ sym (get_or_from_slice_get d.classes n k k n_at))

pub below_over : (D : Type 0) → IsBelowOver D
below_over D input bytes document said (d, read, is, s, restates) is_read is_said a b i j a_at b_at =
    let same = one_reading input d document read is_read in
    let back = one_reading input document d is_read read in
    let said_same = one_reading bytes s said restates.read is_said in
    let said_back = one_reading bytes said s is_said restates.read in
    let over = finite_is_enough D document.axioms a b in (
      λ said_so. over.0 (at_names document a b i j a_at b_at
          (named_too d document i j same ((restates.same.below i j).1 (named_too said s i j said_back said_so)))),
      λ everywhere. named_too s said i j said_same
          ((restates.same.below i j).0 (named_too document d i j back (a, b, a_at, b_at, over.1 everywhere))),
    )
