-- Looking a number up among ascending ones.
use Rattle.std.proofs.Common.{◌≡◌, ℕ, zero, suc, ◌<◌, ◌≤◌, Bool, true, List, [], ◌∷◌, length, get_or, sym, ◌∙◌, subst, arith}
use Rattle.std.proofs.Common.{Result, Ok, Err, is_ok, inl, inr}
use Rattle.std.specs.List.Sorted.{IsBinarySearchResult}
use Rattle.std.specs.Ordering.{nat_cmp}
use Rattle.std.proofs.lemmas.Bool.{cases_lt, false≢true}
use Rattle.std.proofs.lemmas.List.Sorted.{searched}
use Rattle.cd_base.specs.Lists.{OneOf}
use Rattle.cd_base.proofs.Members.{member_get, member_at}
use Rattle.cd_store.specs.Store.{IsAscending}

rises : (xs : List ℕ) (i j : ℕ) → IsAscending xs → i ≤ j → j < length xs → get_or xs i 0 ≤ get_or xs j 0
rises [] i j a l h = absurd (omega arith)
rises (x ∷ xs) zero zero a l h = omega arith
rises (x ∷ xs) zero (suc j) a l h = let b : x < get_or xs j 0 = a.0 _ (member_get xs j 0 (omega arith)) in omega arith
rises (x ∷ xs) (suc i) zero a l h = absurd (omega arith)
rises (x ∷ xs) (suc i) (suc j) a l h = rises xs i j a.1 (omega arith) (omega arith)

-- a search by halves finds what is there
pub found : (xs : List ℕ) (x : ℕ) (r : Result ℕ ℕ) (b : Bool) → IsAscending xs → IsBinarySearchResult (λ y. nat_cmp y x) xs r → b ≡ is_ok r → (b ≡ true → OneOf x xs) × (OneOf x xs → b ≡ true)
found xs x (Ok i) b a h e =
    let s = searched xs x (Ok i) h (λ i j l k. rises xs i j a l k) in
    (λ t. subst (λ q. OneOf q xs) s.1 (member_get xs i 0 s.0), λ m. e)
found xs x (Err i) b a h e =
    let s = searched xs x (Err i) h (λ i j l k. rises xs i j a l k) in (
      λ t. absurd (false≢true (sym e ∙ t)),
      λ m. let r = member_at x xs m in let g : get_or xs r.0 0 ≡ x = r.2 0 in
          elim (cases_lt r.0 i) [ inl l ↦ let u : get_or xs r.0 0 < x = s.1 r.0 l in absurd (omega arith) | inr l ↦ let u : x < get_or xs r.0 0 = s.2 r.0 l r.1 in absurd (omega arith) ],
    )
