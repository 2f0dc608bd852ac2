-- The parser's keys for the words of the grammar: Structural Specification, sections 3.7, 5.8, 8.1, 8.2, 9.1, 9.2 and 10. The grammar itself
-- speaks of the words.
use Rattle.std.specs.Prelude.{ℕ, List, [], ◌∷◌, codes, Option, Some, None}
use Rattle.cd_syntax.specs.declared.words.AxiomForm.{AxiomForm}
use Rattle.cd_syntax.specs.declared.words.AxiomForm.TheVariants.{SubClassOf, EquivalentClasses, DisjointClasses, DisjointUnion, SubObjectPropertyOf, EquivalentObjectProperties, ObjectPropertyDomain, ObjectPropertyRange}
use Rattle.cd_syntax.specs.declared.words.ExprForm.{ExprForm}
use Rattle.cd_syntax.specs.declared.words.ExprForm.TheVariants.{ObjectIntersectionOf, ObjectUnionOf, ObjectComplementOf, ObjectSomeValuesFrom, ObjectAllValuesFrom}
use Rattle.cd_syntax.specs.declared.words.Keyword.{Keyword}
use Rattle.cd_syntax.specs.declared.words.Keyword.TheVariants.{Prefix, Ontology, Annotation, Declaration, Class, Entity, AnnotationAssertion, AnnotationAxiom, Axiom, Expr, Refused, Other}
use Rattle.cd_syntax.specs.Constructs.{entry, refused_number}

-- the axioms on classes and roles
abbrev pub axiom_forms : List (List ℕ × AxiomForm)
axiom_forms =
    (codes "SubClassOf", SubClassOf)
    ∷ (codes "EquivalentClasses", EquivalentClasses)
    ∷ (codes "DisjointClasses", DisjointClasses)
    ∷ (codes "DisjointUnion", DisjointUnion)
    ∷ (codes "SubObjectPropertyOf", SubObjectPropertyOf)
    ∷ (codes "EquivalentObjectProperties", EquivalentObjectProperties)
    ∷ (codes "ObjectPropertyDomain", ObjectPropertyDomain)
    ∷ (codes "ObjectPropertyRange", ObjectPropertyRange)
    ∷ []

-- the class expressions with operands
abbrev pub expr_forms : List (List ℕ × ExprForm)
expr_forms =
    (codes "ObjectIntersectionOf", ObjectIntersectionOf)
    ∷ (codes "ObjectUnionOf", ObjectUnionOf)
    ∷ (codes "ObjectComplementOf", ObjectComplementOf)
    ∷ (codes "ObjectSomeValuesFrom", ObjectSomeValuesFrom)
    ∷ (codes "ObjectAllValuesFrom", ObjectAllValuesFrom)
    ∷ []

-- the other words that an accepted document may have
abbrev pub other_words : List (List ℕ × Keyword)
other_words =
    (codes "Prefix", Prefix)
    ∷ (codes "Ontology", Ontology)
    ∷ (codes "Annotation", Annotation)
    ∷ (codes "Declaration", Declaration)
    ∷ (codes "Class", Class)
    ∷ (codes "Datatype", Entity)
    ∷ (codes "ObjectProperty", Entity)
    ∷ (codes "DataProperty", Entity)
    ∷ (codes "AnnotationProperty", Entity)
    ∷ (codes "NamedIndividual", Entity)
    ∷ (codes "AnnotationAssertion", AnnotationAssertion)
    ∷ (codes "SubAnnotationPropertyOf", AnnotationAxiom)
    ∷ (codes "AnnotationPropertyDomain", AnnotationAxiom)
    ∷ (codes "AnnotationPropertyRange", AnnotationAxiom)
    ∷ []

-- the key that one of the tables has
abbrev pub first_key : Option AxiomForm → Option ExprForm → Option Keyword → Option ℕ → Keyword
first_key (Some form) expr other number = Axiom form
first_key None (Some form) other number = Expr form
first_key None None (Some key) number = key
first_key None None None (Some number) = Refused number
first_key None None None None = Other

-- what the word is to the grammar
abbrev pub key_of : List ℕ → Keyword
key_of w = first_key (entry axiom_forms w) (entry expr_forms w) (entry other_words w)
    (refused_number w)
