-- Small texts, each with the document that it is or with its first fault, written by hand.
use Rattle.std.specs.Prelude.{◌≡◌, ℕ, List, [], ◌∷◌, ◌++◌, codes}
use Rattle.std.specs.Fn.{iterate}
use Rattle.cd_meaning.specs.declared.document.Document.{Document}
use Rattle.cd_meaning.specs.declared.expression.Axiom.{Axiom}
use Rattle.cd_meaning.specs.declared.expression.Axiom.TheVariants.{SubClass, SameClasses, Disjoint, DisjointUnion, SubRole, SameRoles, Domain, Range}
use Rattle.cd_meaning.specs.declared.expression.Expr.TheVariants.{Name, Meet, Join, Minus, SomeOf, AllOf}
use Rattle.cd_meaning.specs.Iri.{reserved_classes}
use Rattle.cd_syntax.specs.declared.refusal.Refusal.TheVariants.{Syntax, Construct, Prefix, Depth, TooLong}
use Rattle.cd_syntax.specs.Grammar.{IsRead}
use Rattle.cd_syntax.specs.Refusal.{IsFaulty, IsRefused}

-- the text is a document with these axioms, with these classes behind owl:Thing and owl:Nothing, and with these roles
pub record IsReadAs (text : List ℕ) (axioms : List Axiom)
    (classes roles : List (List ℕ)) : Type 0 where
  pub document : Document
  pub read : IsRead text document
  pub axioms_are : document.axioms ≡ axioms
  pub classes_are : document.classes ≡ reserved_classes ++ classes
  pub roles_are : document.roles ≡ roles

-- a subsumption in which so many complements stand inside each other
abbrev pub nested_complements : ℕ → List ℕ
nested_complements n =
    codes "Ontology(SubClassOf(<x:A> "
    ++ iterate (λ (inner : List ℕ). codes "ObjectComplementOf(" ++ inner ++ codes ")") n
    (codes "<x:B>") ++ codes "))"

-- an ontology in which so many annotations stand inside each other
abbrev pub nested_annotations : ℕ → List ℕ
nested_annotations n = codes "Ontology("
    ++ iterate (λ (inner : List ℕ). codes "Annotation(" ++ inner ++ codes "rdfs:label \"a\")") n []
    ++ codes ")"

-- each of these texts is the document that was written down for it
pub record WorkedDocuments : Type 0 where
  -- no axiom, and no class but owl:Thing and owl:Nothing
  pub empty : IsReadAs (codes "Ontology()") [] [] []
  -- the first class of the text has number 2
  pub subsumption : IsReadAs (codes "Ontology(SubClassOf(<x:A> <x:B>))")
      (SubClass (Name 2) (Name 3) ∷ []) (codes "x:A" ∷ codes "x:B" ∷ []) []
  -- classes, and roles apart from them, go by number in the order in which they first occur
  pub restriction : IsReadAs (codes
      "Ontology(EquivalentClasses(<x:A> ObjectIntersectionOf(<x:B> ObjectSomeValuesFrom(<x:R> <x:A>))))")
      (SameClasses (Name 2 ∷ Meet (Name 3 ∷ SomeOf 0 (Name 2) ∷ []) ∷ []) ∷ [])
      (codes "x:A" ∷ codes "x:B" ∷ []) (codes "x:R" ∷ [])
  -- the other constructors of class expressions, and owl:Thing by its standard prefix
  pub expression : IsReadAs (codes
      "Ontology(SubClassOf(ObjectUnionOf(<x:B> ObjectComplementOf(<x:A>)) ObjectAllValuesFrom(<x:R> owl:Thing)))")
      (SubClass (Join (Name 2 ∷ Minus (Name 3) ∷ [])) (AllOf 0 (Name 0)) ∷ [])
      (codes "x:B" ∷ codes "x:A" ∷ []) (codes "x:R" ∷ [])
  -- one operand is enough for an intersection or a union
  pub one_operand : IsReadAs (codes "Ontology(SubClassOf(<x:A> ObjectIntersectionOf(<x:B>)))")
      (SubClass (Name 2) (Meet (Name 3 ∷ [])) ∷ []) (codes "x:A" ∷ codes "x:B" ∷ []) []
  -- a disjoint union begins with a class
  pub disjointness : IsReadAs (codes
      "Ontology(DisjointUnion(<x:A> <x:B> <x:C>) DisjointClasses(<x:B> owl:Nothing))")
      (DisjointUnion 2 (Name 3 ∷ Name 4 ∷ []) ∷ Disjoint (Name 3 ∷ Name 1 ∷ []) ∷ [])
      (codes "x:A" ∷ codes "x:B" ∷ codes "x:C" ∷ []) []
  -- axioms on roles
  pub roles : IsReadAs
      (codes "Ontology(SubObjectPropertyOf(<x:R> <x:S>) EquivalentObjectProperties(<x:S> <x:T>))")
      (SubRole 0 1 ∷ SameRoles (1 ∷ 2 ∷ []) ∷ []) [] (codes "x:R" ∷ codes "x:S" ∷ codes "x:T" ∷ [])
  -- a domain and a range
  pub domain_and_range : IsReadAs
      (codes "Ontology(ObjectPropertyDomain(<x:R> <x:A>) ObjectPropertyRange(<x:R> <x:B>))")
      (Domain 0 (Name 2) ∷ Range 0 (Name 3) ∷ []) (codes "x:A" ∷ codes "x:B" ∷ [])
      (codes "x:R" ∷ [])
  -- a short name and a full IRI are one class, and a comment ends with its line
  pub short_names : IsReadAs (codes
      "Prefix(p:=<x:>) # )\nOntology(SubClassOf(p:A <x:B>) SubClassOf(p:B <x:A>))")
      (SubClass (Name 2) (Name 3) ∷ SubClass (Name 3) (Name 2) ∷ [])
      (codes "x:A" ∷ codes "x:B" ∷ []) []
  -- a prefix may be declared twice with one IRI
  pub same_prefix : IsReadAs (codes "Prefix(:=<x:>)Prefix(:=<x:>)Ontology(Declaration(Class(:A)))")
      [] (codes "x:A" ∷ []) []
  -- annotations say nothing of classes: with a string that has escapes, with a language, and with a datatype
  pub annotations : IsReadAs
      (codes "Ontology(<x:o> Annotation(rdfs:label \"\\\"A\\\\\"@en) SubClassOf(Annotation(rdfs:comment \"1\"^^xsd:int) <x:A> owl:Thing))")
      (SubClass (Name 2) (Name 0) ∷ []) (codes "x:A" ∷ []) []
  -- axioms on annotations say nothing of classes, and an ontology may have a version
  pub annotation_axioms : IsReadAs
      (codes "Ontology(<x:o> <x:v> AnnotationAssertion(rdfs:label _:a \"A\") AnnotationPropertyDomain(<x:a> <x:A>))") [] [] []
  -- a declaration makes a class, which no axiom needs to have, and nothing of any other entity
  pub declarations : IsReadAs (codes
      "Ontology(Declaration(Class(<x:A>)) Declaration(ObjectProperty(owl:topObjectProperty)))")
      [] (codes "x:A" ∷ []) []
  -- a class that is declared first has the first number
  pub declared_first : IsReadAs
      (codes "Ontology(Declaration(Class(<x:B>)) SubClassOf(<x:A> <x:B>))")
      (SubClass (Name 3) (Name 2) ∷ []) (codes "x:B" ∷ codes "x:A" ∷ []) []
  -- 256 constructors may stand inside each other
  pub most_constructors : IsReadAs (nested_complements 256)
      (SubClass (Name 2) (iterate Minus 256 (Name 3)) ∷ []) (codes "x:A" ∷ codes "x:B" ∷ []) []
  -- 256 annotations may stand inside each other
  pub most_annotations : IsReadAs (nested_annotations 256) [] [] []

-- each of these texts has the first fault that was written down for it, with its place
pub record WorkedFaults : Type 0 where
  -- the end of the text, which has no ontology
  pub empty : IsFaulty [] (Syntax 0)
  -- the end of a text that was cut off
  pub cut_off : IsFaulty (codes "Ontology(SubClassOf(<x:A> <x:B>)") (Syntax 32)
  -- the end of the text, since its parenthesis stands in a comment
  pub comment : IsFaulty (codes "Ontology(#)") (Syntax 11)
  -- a second ontology
  pub second_ontology : IsFaulty (codes "Ontology() Ontology()") (Syntax 11)
  -- a byte order mark, which is part of a word
  pub byte_order_mark : IsFaulty (239 ∷ 187 ∷ 191 ∷ codes "Ontology()") (Syntax 0)
  -- the parenthesis behind one operand
  pub missing_operand : IsFaulty (codes "Ontology(SubClassOf(<x:A>))") (Syntax 25)
  -- the parenthesis behind the one class of an equivalence
  pub one_equivalent : IsFaulty (codes "Ontology(EquivalentClasses(<x:A>))") (Syntax 32)
  -- a third operand
  pub third_operand : IsFaulty (codes "Ontology(SubClassOf(<x:A> <x:B> <x:C>))") (Syntax 32)
  -- a word that is none of the standard's
  pub other_word : IsFaulty (codes "Ontology(SubclassOf(<x:A> <x:B>))") (Syntax 9)
  -- a byte at which no token begins, as no IRI has a blank
  pub bad_byte : IsFaulty (codes "Ontology(SubClassOf(<x:A> <x B>))") (Syntax 26)
  -- the quotation mark of a string that does not end
  pub open_string : IsFaulty (codes "Ontology(Annotation(rdfs:label \"a))") (Syntax 31)
  -- an anonymous individual without a name
  pub nameless_node : IsFaulty (codes "Ontology(AnnotationAssertion(rdfs:label _: \"a\"))")
      (Syntax 40)
  -- the inverse of a role, at its word
  pub inverse : IsFaulty (codes "Ontology(SubClassOf(<x:A> ObjectInverseOf(<x:R>)))")
      (Construct 2 26)
  -- a construct that is refused, wherever it stands
  pub key : IsFaulty (codes "Ontology() HasKey") (Construct 37 11)
  -- owl:topObjectProperty where a role is wanted
  pub top_role : IsFaulty (codes "Ontology(SubObjectPropertyOf(<x:R> owl:topObjectProperty))")
      (Construct 45 35)
  -- owl:bottomObjectProperty, also in full
  pub bottom_role : IsFaulty (codes
      "Ontology(ObjectPropertyDomain(<http://www.w3.org/2002/07/owl#bottomObjectProperty> <x:A>))")
      (Construct 46 30)
  -- a prefix that isn't declared
  pub unknown_prefix : IsFaulty (codes "Ontology(SubClassOf(p:A <x:B>))") (Prefix 20)
  -- a prefix declared with two IRIs, at the second one
  pub two_prefixes : IsFaulty (codes "Prefix(p:=<x:>)Prefix(p:=<y:>)Ontology()") (Prefix 25)
  -- a prefix of the standard declared with another IRI
  pub standard_prefix : IsFaulty (codes "Prefix(owl:=<x:>)Ontology()") (Prefix 12)
  -- the word of the 257th constructor inside another
  pub deep_constructor : IsFaulty (nested_complements 257) (Depth 4890)
  -- the word of the 257th annotation inside another
  pub deep_annotation : IsFaulty (nested_annotations 257) (Depth 2825)
  -- the first of two faults
  pub first_of_two : IsFaulty (codes "Ontology(SubClassOf(p:A ObjectInverseOf(<x:R>)))") (Prefix 20)
  -- an input longer than the limit, whatever it says
  pub too_long : IsRefused (codes "Ontology()") 9 (TooLong 10)
