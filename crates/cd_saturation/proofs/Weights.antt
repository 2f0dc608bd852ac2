-- Both halves of a group have less weight than the group.
use Rattle.std.proofs.Common.{◌≡◌, ◌+◌, ◌-◌, ◌*◌, ◌/◌, ◌<◌, ℕ, List, [], ◌∷◌, ◌++◌, length, take, drop, min, length-drop, arith}
use Rattle.std.proofs.lemmas.List.{length-take}
use Rattle.std.proofs.lemmas.List.Sums.{sum_by-append}
use Rattle.cd_saturation.specs.Groups.{halves, weight, weights}
use Rattle.cd_saturation.specs.declared.group.Group.{Group}

pub weight_some : (names : List ℕ) → 0 < weight names
weight_some [] = omega arith
weight_some (b ∷ bs) = omega arith

weight_is : (names : List ℕ) → 0 < length names → weight names + 1 ≡ 2 * length names
weight_is [] h = absurd (omega arith)
weight_is (b ∷ bs) h = omega arith

pub halves_lighter : (class : ℕ) (names : List ℕ) → 1 < length names → weights (halves class names) < weight names
halves_lighter class names h =
    let k = length names / 2 in
    let p : length (take k names) ≡ min k (length names) = length-take k names in
    let q : length (drop k names) ≡ length names - k = length-drop k names in
    let u : weight (take k names) + 1 ≡ 2 * length (take k names) = weight_is (take k names) (omega arith) in
    let v : weight (drop k names) + 1 ≡ 2 * length (drop k names) = weight_is (drop k names) (omega arith) in
    let w : weight names + 1 ≡ 2 * length names = weight_is names (omega arith) in
    omega arith

pub weights_join : (groups more : List Group) → weights (groups ++ more) ≡ weights groups + weights more
weights_join groups more = sum_by-append (λ (g : Group). weight g.names) groups more
