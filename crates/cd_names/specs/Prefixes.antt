-- The prefixes of a document: Structural Specification, section 3.7 and table 2 of section 2.4.
use Rattle.std.specs.Prelude.{ℕ, if◌then◌else◌, List, [], ◌∷◌, ◌++◌, codes, Option, Some, None, is_some}
use Rattle.std.specs.Str.{bytes_eq}

-- a prefix with its colon, and the IRI that it stands for
abbrev pub Declared : Type 0
Declared = List (List ℕ × List ℕ)

-- what a prefix stands for
abbrev pub meaning : Declared → List ℕ → Option (List ℕ)
meaning [] p = None
meaning (d ∷ more) p = if bytes_eq d.0 p then Some d.1 else meaning more p

-- those that need no declaration
abbrev pub standard : Declared
standard =
    (codes "rdf:", codes "http://www.w3.org/1999/02/22-rdf-syntax-ns#")
    ∷ (codes "rdfs:", codes "http://www.w3.org/2000/01/rdf-schema#")
    ∷ (codes "xsd:", codes "http://www.w3.org/2001/XMLSchema#")
    ∷ (codes "owl:", codes "http://www.w3.org/2002/07/owl#")
    ∷ []

-- a new declaration goes to the end, and one of a prefix that is there changes nothing
abbrev pub declare : Declared → List ℕ → List ℕ → Declared
declare ds p i = if is_some (meaning ds p) then ds else ds ++ (p, i) ∷ []
