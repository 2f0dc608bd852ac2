-- How the direct superclasses are found: classes are gone through in order, and one that no earlier one covers is taken.
use Rattle.std.specs.Prelude.{ℕ, Bool, not, false, ◌==◌, ◌&&◌, if◌then◌else◌, List, [], ◌∷◌, ◌++◌, slice_index, slice_index_or}
use Rattle.std.specs.List.{list_any, fold}
use Rattle.cd_base.specs.declared.answer.Answer.{Answer}
use Rattle.cd_base.specs.declared.answer.Answer.TheVariants.{Unsatisfiable, Of}
use Rattle.cd_taxonomy.specs.declared.parents.Candidate.{Candidate}

-- d stands for its group, and has not as many superclasses as r
abbrev pub is_candidate : List ℕ → List ℕ → ℕ → ℕ → Bool
is_candidate representative_of counts r d =
    slice_index representative_of d == d && not (slice_index counts d == slice_index counts r)

abbrev pub with_count : List ℕ → ℕ → Candidate
with_count counts d = record { class = d; superclasses = slice_index counts d }

abbrev pub class_of : Candidate → ℕ
class_of candidate = candidate.class

-- whether an answer lists the class b: that of an unsatisfiable class lists none
abbrev pub lists : Answer → ℕ → Bool
lists Unsatisfiable b = false
lists (Of atoms) b = list_any (λ (atom : ℕ). atom == b) atoms

-- whether the answer of the class c lists the class b
abbrev pub covers : List Answer → ℕ → ℕ → Bool
covers above c b = lists (slice_index_or above c Unsatisfiable) b

-- the classes with d, unless one of them covers it
abbrev pub add_uncovered : (ℕ → ℕ → Bool) → List ℕ → ℕ → List ℕ
add_uncovered cover found d = if list_any (λ c. cover c d) found then found else found ++ d ∷ []

-- the classes that none of those taken before them covers
abbrev pub uncovered : (ℕ → ℕ → Bool) → List ℕ → List ℕ
uncovered cover order = fold (add_uncovered cover) [] order
