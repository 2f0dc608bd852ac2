-- What small texts say, as the checker computes it.
use Rattle.std.proofs.Common.{◌≡◌, ◌^◌, ℕ, true, ltb, List, ◌++◌, length, refl, ap, ◌∙◌, arith}
use Rattle.std.proofs.lemmas.Bool.{ltb-true}
use Rattle.std.specs.Prelude.{Option, Some, None}
use Rattle.std.specs.List.{fold}
use Rattle.cd_meaning.specs.declared.expression.Axiom.{Axiom}
use Rattle.cd_meaning.specs.Iri.{reserved_classes}
use Rattle.cd_lex.specs.declared.token.Token.{Token}
use Rattle.cd_lex.specs.Tokens.{Ending, placed}
use Rattle.cd_lex.proofs.CutComputed.{cut_of, ending_of, items_are}
use Rattle.cd_syntax.specs.declared.refusal.Refusal.{Refusal}
use Rattle.cd_grammar.specs.Causes.{stand_after, Standing, Going, Stopped}
use Rattle.cd_syntax.specs.Items.{all_of}
use Rattle.cd_grammar.specs.Reading.{started}
use Rattle.cd_syntax.specs.Refusal.{IsFaulty}
use Rattle.cd_syntax.specs.WorkedTexts.{IsReadAs, WorkedDocuments, WorkedFaults}
use Rattle.cd_grammar.proofs.Finishing.{faulty, document_at, ends_by}
use Rattle.cd_grammar.proofs.Standing.{goes_on}

-- ---- what is computed

abbrev tokens_of : List ℕ → List Token
tokens_of text = placed 0 (cut_of text).0

abbrev end_of : List ℕ → Ending
end_of text = ending_of (length text) (cut_of text)

-- where the parser stands behind all items of the text
abbrev outcome : List ℕ → Standing
outcome text = fold stand_after started (all_of (tokens_of text) (end_of text))

-- axioms, classes and roles
abbrev Told : Type 0
Told = List Axiom × List (List ℕ) × List (List ℕ)

-- what is known where the parser went on to the end
abbrev told : Standing → Option Told
told (Going known stack) = Some (known.axioms, known.classes, known.roles)
told (Stopped refusal) = None

-- ---- what it shows

same_some : {A : Type 0} (x y : A) → Some x ≡ Some y → x ≡ y
same_some x y h = cc

read_by : (text : List ℕ) (axioms : List Axiom) (classes roles : List (List ℕ)) (s : Standing) → ltb (length text) (2 ^ 31) ≡ true → outcome text ≡ s
    → told s ≡ Some (axioms, reserved_classes ++ classes, roles) → IsReadAs text axioms classes roles
read_by text axioms classes roles (Stopped refusal) short is says = absurd cc
read_by text axioms classes roles (Going known stack) short is says =
    let whole = goes_on (all_of (tokens_of text) (end_of text)) known stack is in
    let end = ends_by text (tokens_of text) (end_of text) known stack (items_are text) whole in
    let (document, read, of) = document_at known text (ltb-true (length text) (2 ^ 31) short) end in
    let from : Told = (known.axioms, known.classes, known.roles) in
    let to : Told = (axioms, reserved_classes ++ classes, roles) in
    let same : from ≡ to = same_some from to says in
    record {
      document = document;
      read = read;
      axioms_are = of.axioms ∙ ap (λ (t : Told). t.0) same;
      classes_are = of.classes ∙ ap (λ (t : Told). t.1) same;
      roles_are = of.roles ∙ ap (λ (t : Told). t.2) same;
    }

-- a text that is short, and of which the parser tells this
read_as : (text : List ℕ) (axioms : List Axiom) (classes roles : List (List ℕ)) → ltb (length text) (2 ^ 31) ≡ true
    → told (outcome text) ≡ Some (axioms, reserved_classes ++ classes, roles) → IsReadAs text axioms classes roles
read_as text axioms classes roles short says = read_by text axioms classes roles (outcome text) short refl says

-- a text at which the parser stops so
faulty_at : (text : List ℕ) (refusal : Refusal) → outcome text ≡ Stopped refusal → IsFaulty text refusal
faulty_at text refusal stopped = faulty text (tokens_of text) (end_of text) refusal (items_are text) stopped

-- ---- the rows

pub worked_documents : WorkedDocuments
worked_documents = record {
  empty = read_as _ _ _ _ refl refl;
  subsumption = read_as _ _ _ _ refl refl;
  restriction = read_as _ _ _ _ refl refl;
  expression = read_as _ _ _ _ refl refl;
  one_operand = read_as _ _ _ _ refl refl;
  disjointness = read_as _ _ _ _ refl refl;
  roles = read_as _ _ _ _ refl refl;
  domain_and_range = read_as _ _ _ _ refl refl;
  short_names = read_as _ _ _ _ refl refl;
  same_prefix = read_as _ _ _ _ refl refl;
  annotations = read_as _ _ _ _ refl refl;
  annotation_axioms = read_as _ _ _ _ refl refl;
  declarations = read_as _ _ _ _ refl refl;
  declared_first = read_as _ _ _ _ refl refl;
  most_constructors = read_as _ _ _ _ refl refl;
  most_annotations = read_as _ _ _ _ refl refl;
}

pub worked_faults : WorkedFaults
worked_faults = record {
  empty = faulty_at _ _ refl;
  cut_off = faulty_at _ _ refl;
  comment = faulty_at _ _ refl;
  second_ontology = faulty_at _ _ refl;
  byte_order_mark = faulty_at _ _ refl;
  missing_operand = faulty_at _ _ refl;
  one_equivalent = faulty_at _ _ refl;
  third_operand = faulty_at _ _ refl;
  other_word = faulty_at _ _ refl;
  bad_byte = faulty_at _ _ refl;
  open_string = faulty_at _ _ refl;
  nameless_node = faulty_at _ _ refl;
  inverse = faulty_at _ _ refl;
  key = faulty_at _ _ refl;
  top_role = faulty_at _ _ refl;
  bottom_role = faulty_at _ _ refl;
  unknown_prefix = faulty_at _ _ refl;
  two_prefixes = faulty_at _ _ refl;
  standard_prefix = faulty_at _ _ refl;
  deep_constructor = faulty_at _ _ refl;
  deep_annotation = faulty_at _ _ refl;
  first_of_two = faulty_at _ _ refl;
  too_long = (omega arith, refl);
}
