-- The text of what a document entails is a document that says the same.
use Rattle.std.proofs.Common.{◌≡◌, ℕ, ◌<◌, ◌^◌, Bool, IsTrue, List, [], ◌∷◌, length, get_or, slice_get, refl, sym, ap, subst, ◌∙◌, arith}
use Rattle.std.specs.Prelude.{Some, ◌↔◌}
use Rattle.std.specs.List.{All, Contains, list_all}
use Rattle.std.proofs.lemmas.Bool.{false_from_ne_true}
use Rattle.std.proofs.lemmas.List.{get_or_default}
use Rattle.std.proofs.lemmas.List.Elements.{All-contains}
use Rattle.std.specs.Cmp.Lexicographic.{nat_list_eq_equiv}
use Rattle.std.specs.Str.{bytes_eq}
use Rattle.std.proofs.lemmas.Map.Keys.{IsDistinct-from_apart}
use Rattle.std.proofs.lemmas.Map.Made.{length-le_from_is_member}
use Rattle.std.proofs.lemmas.Slice.Eq.{bytes_eq-Decides}
use Rattle.std.proofs.lemmas.Option.{slice_get_within, get_or_from_slice_get, slice_get-get_or}
use Rattle.cd_meaning.specs.declared.expression.Axiom.{Axiom}
use Rattle.cd_meaning.specs.declared.document.Document.{Document}
use Rattle.cd_meaning.specs.Answer.{Decides}
use Rattle.cd_meaning.specs.Entailment.{Entails}
use Rattle.cd_meaning.specs.Numbered.{has_numbers_below}
use Rattle.cd_meaning.specs.Hierarchy.{name_of}
use Rattle.cd_meaning.specs.Text.{text}
use Rattle.cd_names.specs.Names.{number}
use Rattle.cd_lex.specs.declared.token.Kind.{Kind}
use Rattle.cd_lex.specs.declared.token.Kind.TheVariants.{Opening, Closing, Word}
use Rattle.cd_lex.specs.Tokens.{Blank, Lexeme}
use Rattle.std.specs.Prelude.{codes}
use Rattle.cd_base.specs.Iri.{IsIri}
use Rattle.cd_taxonomy.specs.Relation.{IsSubsumption}
use Rattle.cd_taxonomy.specs.ReadBack.{AreNames}
use Rattle.cd_syntax.specs.declared.known.Known.{Known}
use Rattle.cd_syntax.specs.Grammar.{begun, Text, Leads, nesting, IsDocument}
use Rattle.cd_top.specs.Restated.{EntailsNamed, SaysTheSame, AnswerIsRestated}
use Rattle.cd_grammar.proofs.Finishing.{known_is_sound}
use Rattle.cd_taxonomy.proofs.Decided.{subsumption}
use Rattle.cd_top.proofs.SameAnswer.{also_answer}
use Rattle.cd_top.proofs.RestatedLines.{Statement, statements, text_pieces, cut_text, kinds_of_pieces}
use Rattle.cd_top.proofs.RestatedNames.{any_there, there_from_any, none_alike, number_is}
use Rattle.cd_top.proofs.RestatedTokens.{said_by, leads_text, axioms_are}
use Rattle.cd_top.proofs.RestatedAxioms.{lines, final, number_of, axioms, lines_iris, has_name, are_names, final_distinct, final_reserved, numbered, number_inside_final, name_at, entailed, entailed_so}

module _ (given : Document) (below : ℕ → ℕ → Bool) (names : AreNames given.classes) (decided : Decides given below) where
  s : IsSubsumption (length given.classes) below
  s = subsumption given below decided

  abbrev said : Known
  said = said_by given.classes (lines given.classes below names s)

  -- the text is its document
  is_document : IsDocument (text given.classes below) said
  is_document =
      let ss : List Statement = statements given.classes below in (
        text_pieces given.classes ss,
        cut_text given.classes below (lines_iris given.classes below names s),
        subst (λ (kinds : List Kind). Leads nesting begun (Text ∷ []) (Word (codes "Ontology") ∷ Opening ∷ kinds) said [])
            (sym (kinds_of_pieces given.classes ss (Lexeme Closing (41 ∷ []) ∷ Blank 10 ∷ [])))
            (leads_text given.classes nesting ss),
      )

  axioms_said : said.axioms ≡ axioms given.classes below names s
  axioms_said = axioms_are given.classes (final given.classes below names s) [] (lines given.classes below names s)

  same_classes : (i : List ℕ) → Contains given.classes i ↔ Contains said.classes i
  same_classes i = (
    λ at. subst (Contains said.classes) (get_or_default given.classes at.0 [] i at.1 ∙ at.2) (has_name given.classes below names s at.0 at.1),
    λ at. All-contains (Contains given.classes) said.classes i (are_names given.classes below names s) at,
  )

  -- the number of a name, by that in the document that is read
  number_from : (i : List ℕ) (a : ℕ) → slice_get said.classes a ≡ Some i
      → (k : ℕ) × (k < length given.classes) × (slice_get given.classes k ≡ Some i) × (number_of given.classes below names s k ≡ a)
  number_from i a at =
      let inside : a < length said.classes = slice_get_within said.classes a i at in
      let there : Contains given.classes i = (same_classes i).1 (a, inside, get_or_from_slice_get said.classes a i i at) in
      let k : ℕ = there.0 in
      let is : name_of given.classes k ≡ i = get_or_default given.classes k [] i there.1 ∙ there.2 in (
        k,
        there.1,
        slice_get-get_or given.classes k [] there.1 ∙ ap (λ (x : List ℕ). Some x) is,
        ap (number said.classes) is ∙ number_is said.classes (final_distinct given.classes below names s) i a [] inside (get_or_from_slice_get said.classes a i [] at),
      )

  number_to : (i : List ℕ) (a : ℕ) → slice_get given.classes a ≡ Some i → slice_get said.classes (number_of given.classes below names s a) ≡ Some i
  number_to i a at =
      let a_in : a < length given.classes = slice_get_within given.classes a i at in
      slice_get-get_or said.classes (number_of given.classes below names s a) [] (number_inside_final given.classes below names s a a_in)
      ∙ ap (λ (x : List ℕ). Some x) (name_at given.classes below names s a a_in [] ∙ get_or_from_slice_get given.classes a i [] at)

  -- ---- what is read can be a document

  few : length said.classes < 2 ^ 32
  few = omega (
    arith,
    length-le_from_is_member nat_list_eq_equiv said.classes given.classes
        (IsDistinct-from_apart bytes_eq said.classes
        (λ i j d before within. false_from_ne_true (bytes_eq (get_or said.classes i d) (get_or said.classes j d))
        (λ h. final_distinct given.classes below names s i j d before within ((bytes_eq-Decides (get_or said.classes i d) (get_or said.classes j d)).0 h))))
        (λ i h. any_there i given.classes ((same_classes i).1 (there_from_any i said.classes h))),
    given.few_classes,
  )

  abbrev document : Document
  document = record {
    axioms = said.axioms;
    classes = said.classes;
    roles = [];
    numbered = subst (λ (all : List Axiom). IsTrue (list_all (has_numbers_below (length said.classes) 0) all)) (sym axioms_said) (numbered given.classes below names s 0);
    few_classes = few;
    few_roles = omega arith;
    reserved = final_reserved given.classes below names s;
    distinct_classes = final_distinct given.classes below names s;
    distinct_roles = none_alike;
  }

  said_of : (i j : List ℕ) → EntailsNamed given i j → EntailsNamed document i j
  said_of i j (a, b, a_at, b_at, follows) =
      let a_in = slice_get_within given.classes a i a_at in
      let b_in = slice_get_within given.classes b j b_at in (
        number_of given.classes below names s a,
        number_of given.classes below names s b,
        number_to i a a_at,
        number_to j b b_at,
        subst (λ (all : List Axiom). Entails all (number_of given.classes below names s a) (number_of given.classes below names s b)) (sym axioms_said)
            (entailed given.classes below names s a b a_in b_in ((decided a b a_in b_in).1 follows)),
      )

  given_of : (i j : List ℕ) → EntailsNamed document i j → EntailsNamed given i j
  given_of i j (a, b, a_at, b_at, follows) =
      let k = number_from i a a_at in
      let l = number_from j b b_at in
      let moved : Entails (axioms given.classes below names s) a b = subst (λ (all : List Axiom). Entails all a b) axioms_said follows in
      let renumbered : Entails (axioms given.classes below names s) (number_of given.classes below names s k.0) (number_of given.classes below names s l.0)
      = subst (λ (x : ℕ). Entails (axioms given.classes below names s) x (number_of given.classes below names s l.0)) (sym k.3)
      (subst (λ (x : ℕ). Entails (axioms given.classes below names s) a x) (sym l.3) moved) in
      (k.0, l.0, k.2, l.2, (decided k.0 l.0 k.1 l.1).0 (entailed_so given.classes below names s k.0 l.0 k.1 l.1 renumbered))

pub answer_restated : AnswerIsRestated
answer_restated input bytes given (begins, is_input, of) (below, decided, is) =
    let names : AreNames given.classes = record {
      iris = subst (All IsIri) (sym of.classes) (known_is_sound input begins is_input).1;
      reserved = given.reserved;
      distinct = given.distinct_classes;
    } in
    let new : Document = document given below names decided in
    let same : SaysTheSame given new = record {
      classes = same_classes given below names decided;
      below = λ i j. (said_of given below names decided i j, given_of given below names decided i j);
    } in (
      new,
      record {
        read = (
          said given below names decided,
          subst (λ (text : List ℕ). IsDocument text (said given below names decided)) (sym is) (is_document given below names decided),
          record { axioms = refl; classes = refl; roles = refl },
        );
        same = same;
        answer = also_answer given new bytes same (below, decided, is);
      },
    )
