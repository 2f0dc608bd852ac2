-- An accepted document of named classes alone, small beside the maxima, is answerable.
use Rattle.std.proofs.Common.{ℕ, ◌+◌, ◌*◌, ◌<◌, List, length, subst}
use Rattle.std.specs.List.{All}
use Rattle.cd_meaning.specs.declared.document.Document.{Document}
use Rattle.cd_meaning.specs.declared.expression.Axiom.{Axiom}
use Rattle.cd_syntax.specs.Grammar.{IsSame}
use Rattle.cd_grammar.proofs.OneReading.{one_reading}
use Rattle.cd_saturation.specs.Answerable.{IsOfNames, IsOfNamesWithin, disjoint_operands}
use Rattle.cd_saturation.proofs.NamesAlone.{names_answerable}
use Rattle.cd_top.specs.Headline.{NamesAreAnswered}

-- it depends on the axioms and the classes alone
same_within : (d e : Document) (max_contexts max_facts : ℕ) → IsSame d e → IsOfNamesWithin d max_contexts max_facts → IsOfNamesWithin e max_contexts max_facts
same_within d e max_contexts max_facts same small = record {
  names = subst (λ (axioms : List Axiom). All IsOfNames axioms) same.axioms small.names;
  contexts = subst (λ (classes : List (List ℕ)). length classes < max_contexts) same.classes small.contexts;
  facts = subst (λ (axioms : List Axiom). length e.classes * (length e.classes + disjoint_operands axioms + 1) < max_facts) same.axioms
      (subst (λ (classes : List (List ℕ)). length classes * (length classes + disjoint_operands d.axioms + 1) < max_facts) same.classes small.facts);
}

pub names_answered : NamesAreAnswered
names_answered input document most max_contexts max_facts within read small = record {
  accepted = (within, document, read);
  unlimited = λ kind number (w, other, other_read, reached).
      names_answerable other max_contexts max_facts (same_within document other max_contexts max_facts (one_reading input document other read other_read) small) kind number reached;
}
