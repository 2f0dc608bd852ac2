-- Groups of names of which it is open whether a class is below them.
use Rattle.std.specs.Prelude.{ℕ, suc, ◌*◌, ◌/◌, List, [], ◌∷◌, length, map, take, drop}
use Rattle.std.specs.List.{sum_by}
use Rattle.cd_base.specs.Keys.{plain, negated, key_with}
use Rattle.cd_context.specs.declared.facts.Note.{Note}
use Rattle.cd_saturation.specs.declared.group.Group.{Group}
use Rattle.cd_saturation.specs.Saturation.{start_at}

-- the key with these names too, negated, one after the other
abbrev pub with_negated : List ℕ → List ℕ → List ℕ
with_negated key [] = key
with_negated key (b ∷ bs) = with_negated (key_with (negated b) key) bs

-- the key of what is in the class and in none of the names
abbrev pub key_of : ℕ → List ℕ → List ℕ
key_of class names = with_negated (plain class ∷ []) names

-- the messages that begin the contexts of the groups
abbrev pub starts_of : ℕ → List Group → List (ℕ × Note)
starts_of count groups = map (λ (g : Group). start_at count (key_of g.class g.names)) groups

-- the groups of both halves of the names
abbrev pub halves : ℕ → List ℕ → List Group
halves class names =
    record { class = class; names = take (length names / 2) names }
    ∷ record { class = class; names = drop (length names / 2) names }
    ∷ []

-- the group of the names, if there are any
abbrev pub open_of : ℕ → List ℕ → List Group
open_of class [] = []
open_of class (b ∷ bs) = record { class = class; names = b ∷ bs } ∷ []

-- a bound of how often a group may still be asked for: both halves have less than the whole
abbrev pub weight : List ℕ → ℕ
weight [] = 1
weight (b ∷ bs) = suc (2 * length bs)

abbrev pub weights : List Group → ℕ
weights groups = sum_by (λ (g : Group). weight g.names) groups
