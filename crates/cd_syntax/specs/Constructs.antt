-- The constructs of the standard that no accepted document has, each with its number: Structural Specification, sections 3.4, 5.3, 6, 7, 8
-- and 9.
use Rattle.std.specs.Prelude.{ℕ, ◌==◌, ◌++◌, if◌then◌else◌, List, [], ◌∷◌, codes, Option, Some, None}
use Rattle.std.specs.Str.{bytes_eq}

-- the entry of a word in a table
abbrev pub entry : {V : Type 0} → List (List ℕ × V) → List ℕ → Option V
entry [] w = None
entry (e ∷ more) w = if bytes_eq w e.0 then Some e.1 else entry more w

-- imports and object properties
abbrev pub refused_roles : List (List ℕ × ℕ)
refused_roles =
    (codes "Import", 1)
    ∷ (codes "ObjectInverseOf", 2)
    ∷ (codes "ObjectPropertyChain", 3)
    ∷ (codes "TransitiveObjectProperty", 4)
    ∷ (codes "FunctionalObjectProperty", 5)
    ∷ (codes "InverseFunctionalObjectProperty", 6)
    ∷ (codes "ReflexiveObjectProperty", 7)
    ∷ (codes "IrreflexiveObjectProperty", 8)
    ∷ (codes "SymmetricObjectProperty", 9)
    ∷ (codes "AsymmetricObjectProperty", 10)
    ∷ (codes "DisjointObjectProperties", 11)
    ∷ (codes "InverseObjectProperties", 12)
    ∷ []

-- classes and cardinalities
abbrev pub refused_classes : List (List ℕ × ℕ)
refused_classes =
    (codes "ObjectOneOf", 13)
    ∷ (codes "ObjectHasValue", 14)
    ∷ (codes "ObjectHasSelf", 15)
    ∷ (codes "ObjectMinCardinality", 16)
    ∷ (codes "ObjectMaxCardinality", 17)
    ∷ (codes "ObjectExactCardinality", 18)
    ∷ (codes "DataSomeValuesFrom", 19)
    ∷ (codes "DataAllValuesFrom", 20)
    ∷ (codes "DataHasValue", 21)
    ∷ (codes "DataMinCardinality", 22)
    ∷ (codes "DataMaxCardinality", 23)
    ∷ (codes "DataExactCardinality", 24)
    ∷ []

-- data, keys and individuals
abbrev pub refused_data : List (List ℕ × ℕ)
refused_data =
    (codes "DataIntersectionOf", 25)
    ∷ (codes "DataUnionOf", 26)
    ∷ (codes "DataComplementOf", 27)
    ∷ (codes "DataOneOf", 28)
    ∷ (codes "DatatypeRestriction", 29)
    ∷ (codes "SubDataPropertyOf", 30)
    ∷ (codes "EquivalentDataProperties", 31)
    ∷ (codes "DisjointDataProperties", 32)
    ∷ (codes "DataPropertyDomain", 33)
    ∷ (codes "DataPropertyRange", 34)
    ∷ (codes "FunctionalDataProperty", 35)
    ∷ (codes "DatatypeDefinition", 36)
    ∷ (codes "HasKey", 37)
    ∷ (codes "SameIndividual", 38)
    ∷ (codes "DifferentIndividuals", 39)
    ∷ (codes "ClassAssertion", 40)
    ∷ (codes "ObjectPropertyAssertion", 41)
    ∷ (codes "NegativeObjectPropertyAssertion", 42)
    ∷ (codes "DataPropertyAssertion", 43)
    ∷ (codes "NegativeDataPropertyAssertion", 44)
    ∷ []

-- the first number that there is
abbrev pub first_of : Option ℕ → Option ℕ → Option ℕ → Option ℕ
first_of (Some n) second third = Some n
first_of None (Some n) third = Some n
first_of None None third = third

-- the number of the refused construct that has this word
abbrev pub refused_number : List ℕ → Option ℕ
refused_number w = first_of (entry refused_roles w) (entry refused_classes w) (entry refused_data w)

-- the word of this number in a table
abbrev pub text_in : List (List ℕ × ℕ) → ℕ → Option (List ℕ)
text_in [] number = None
text_in (e ∷ more) number = if e.1 == number then Some e.0 else text_in more number

-- the word of a refused construct, or the short name of a refused role
abbrev pub word_of : ℕ → Option (List ℕ)
word_of number = text_in (refused_roles ++ refused_classes ++ refused_data
    ++ (codes "owl:topObjectProperty", 45) ∷ (codes "owl:bottomObjectProperty", 46) ∷ []) number
