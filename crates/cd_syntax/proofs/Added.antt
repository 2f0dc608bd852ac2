-- Names to which one is added.
use Rattle.std.proofs.Common.{◌≡◌, ◌≢◌, ℕ, ◌+◌, ◌<◌, ◌≤◌, Bool, true, false, not, ◌||◌, cond, List, [], ◌∷◌, ◌++◌, length, take, get_or, sym, arith, length-append}
use Rattle.std.specs.Prelude.{AllPairs}
use Rattle.std.specs.List.{list_any, position_or_len}
use Rattle.std.specs.Str.{bytes_eq}
use Rattle.std.proofs.lemmas.Bool.{false≢true, both_ways, cond_both}
use Rattle.std.proofs.lemmas.List.Folds.{list_any_at}
use Rattle.std.proofs.lemmas.List.Quantifiers.{all_pairs_push}
use Rattle.std.proofs.lemmas.List.Sums.{prefix_len-le-length}
use Rattle.std.proofs.lemmas.Slice.Eq.{bytes_eq-Decides}
use Rattle.cd_meaning.specs.Iri.{reserved_classes}
use Rattle.cd_names.specs.Names.{add_name, number}

-- what holds of the names and of those with one more at the end
added : (P : List (List ℕ) → Type 0) (names : List (List ℕ)) (i : List ℕ)
    → (list_any (bytes_eq i) names ≡ true → P names) → (list_any (bytes_eq i) names ≡ false → P (names ++ i ∷ [])) → P (add_name names i)
added P names i old new = cond_both (list_any (bytes_eq i) names) names (names ++ i ∷ []) P old new

pub length_added : (names : List (List ℕ)) (i : List ℕ) → length (add_name names i) ≤ length names + 1
length_added names i = added (λ after. length after ≤ length names + 1) names i (λ there. omega arith) (λ new. omega (arith, length-append names (i ∷ [])))

pub added_length : (names : List (List ℕ)) (i : List ℕ) → length names ≤ length (add_name names i)
added_length names i = added (λ after. length names ≤ length after) names i (λ there. omega arith) (λ new. omega (arith, length-append names (i ∷ [])))

place_within : {X : Type 0} (p : X → Bool) (xs : List X) → list_any p xs ≡ true → position_or_len p xs < length xs
place_within p [] h = absurd (false≢true h)
place_within p (x ∷ xs) h =
    let P : Bool → Type 0 = λ t. (t || list_any p xs) ≡ true → cond (not t) (1 + position_or_len p xs) 0 < length (x ∷ xs) in
    (elim (p x) as P [ true ↦ λ _. omega arith | false ↦ λ rest. let less = place_within p xs rest in omega arith ]) h

-- the number of a name is that of one of them, once it is added
pub number_within : (names : List (List ℕ)) (i : List ℕ) → number names i < length (add_name names i)
number_within names i =
    added (λ after. number names i < length after) names i (λ there. place_within (bytes_eq i) names there)
    (λ new. omega (arith, prefix_len-le-length (λ name. not (bytes_eq i name)) names, length-append names (i ∷ [])))

absent_differs : (names : List (List ℕ)) (i : List ℕ) → list_any (bytes_eq i) names ≡ false → (k : ℕ) (d : List ℕ) → k < length names → get_or names k d ≢ i
absent_differs names i absent k d less same =
    both_ways (list_any (bytes_eq i) names) absent (list_any_at (bytes_eq i) names k d less ((bytes_eq-Decides i (get_or names k d)).1 (sym same)))

-- different names stay so
pub distinct_added : (names : List (List ℕ)) (i : List ℕ) → AllPairs (λ a b. a ≢ b) names → AllPairs (λ a b. a ≢ b) (add_name names i)
distinct_added names i distinct =
    added (AllPairs (λ a b. a ≢ b)) names i (λ there. distinct)
    (λ new. all_pairs_push (λ a b. a ≢ b) names i distinct (absent_differs names i new))

reserved_before : (names more : List (List ℕ)) → take 2 names ≡ reserved_classes → take 2 (names ++ more) ≡ reserved_classes
reserved_before [] more h = absurd cc
reserved_before (a ∷ []) more h = absurd cc
reserved_before (a ∷ b ∷ names) more h = h

-- the first two stay
pub reserved_added : (names : List (List ℕ)) (i : List ℕ) → take 2 names ≡ reserved_classes → take 2 (add_name names i) ≡ reserved_classes
reserved_added names i reserved = added (λ after. take 2 after ≡ reserved_classes) names i (λ there. reserved) (λ new. reserved_before names (i ∷ []) reserved)
