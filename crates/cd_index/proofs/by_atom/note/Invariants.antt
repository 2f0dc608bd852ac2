use Rattle.std.proofs.Common.{◌++◌, ◌∷◌, [], length, take, get_or, cond}
use Rattle.cd_index.specs.Index.{has}
use Rattle.cd_index.specs.Lists.{AreLists}
use Rattle.cd_index.proofs.by_atom.note.Given as goal

abbrev pub invariant-loop-atom : goal.invariant-loop-atom
invariant-loop-atom l =
    AreLists (length l.initial.lists.items) l.lists.items
    (λ a. get_or l.initial.lists.items a [] ++ cond (has a (take l.atom-index l.atoms)) (l.number ∷ []) [])
