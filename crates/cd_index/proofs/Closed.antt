-- Lists of what the pairs lead to make the closure.
use Rattle.std.proofs.Common.{◌≡◌, ◌↔◌, ℕ, ◌+◌, ◌<◌, true, ◌==◌, List, [], ◌∷◌, ◌++◌, length, get_or, sym, subst, inl, inr, arith}
use Rattle.std.specs.List.{list_all, list_any, Contains}
use Rattle.std.proofs.lemmas.Bool.{cases_lt, eqb-true, eq-eqb, false≢true, or_cases, or_left, or_right}
use Rattle.std.proofs.lemmas.List.{get_or_append_left, get_or_push}
use Rattle.std.proofs.lemmas.List.Elements.{Contains-append_right}
use Rattle.std.proofs.lemmas.List.Folds.{list_any_at}
use Rattle.cd_base.specs.declared.normal.RolePair.{RolePair}
use Rattle.cd_base.specs.Normal.{has_roles_below}
use Rattle.cd_index.specs.Closure.{IsClosureOf}
use Rattle.cd_index.specs.Lists.{AreLists}
use Rattle.cd_index.specs.Walk.{told_above, Leads}
use Rattle.cd_index.proofs.Told.{leads_is_under}

has_if_any : (xs : List ℕ) (x : ℕ) → list_any (λ n. n == x) xs ≡ true → Contains xs x
has_if_any [] x h = absurd (false≢true h)
has_if_any (y ∷ xs) x h = elim (or_cases (y == x) (list_any (λ n. n == x) xs) h) [
  | inl here ↦ (0, omega arith, eqb-true y x here)
  | inr later ↦ Contains-append_right (y ∷ []) xs x (has_if_any xs x later)
]

any_if_has : (xs : List ℕ) (x : ℕ) → Contains xs x → list_any (λ n. n == x) xs ≡ true
any_if_has xs x h = list_any_at (λ n. n == x) xs h.0 x h.1 (eq-eqb (get_or xs h.0 x) x h.2)

-- a list more
pub leads_more : (told above more : List (List ℕ)) (i : ℕ) (list : List ℕ) → length above ≡ i → more ≡ above ++ list ∷ []
    → ((r s : ℕ) → r < i → Contains (get_or above r []) s ↔ Leads told r s) → ((s : ℕ) → Contains list s ↔ Leads told i s)
    → (r s : ℕ) → r < i + 1 → Contains (get_or more r []) s ↔ Leads told r s
leads_more told above more i list long is before here r s lt =
    subst (λ (l : List (List ℕ)). Contains (get_or l r []) s ↔ Leads told r s) (sym is)
    (elim (cases_lt r i) [
      | inl earlier ↦ subst (λ (l : List ℕ). Contains l s ↔ Leads told r s) (sym (get_or_append_left above (list ∷ []) [] r (omega (arith, long, earlier)))) (before r s earlier)
      | inr last ↦ subst (λ (l : List ℕ). Contains l s ↔ Leads told r s) (sym (get_or_push above list [] r (omega (arith, long))))
          (let same : i ≡ r = omega arith in subst (λ (j : ℕ). Contains list s ↔ Leads told j s) same (here s))
    ])

pub closure_is : (n : ℕ) (pairs : List RolePair) (told above : List (List ℕ)) → list_all (has_roles_below n) pairs ≡ true → AreLists n told (told_above pairs)
    → length above ≡ n → ((r s : ℕ) → r < n → Contains (get_or above r []) s ↔ Leads told r s) → IsClosureOf above n pairs
closure_is n pairs told above below are long exact = record {
  each = long;
  exact = λ r s r_in s_in. (
    λ h. (leads_is_under n pairs told below are r s).0
        (elim (or_cases (r == s) (list_any (λ t. t == s) (get_or above r [])) h) [
          | inl here ↦ inl (eqb-true r s here)
          | inr later ↦ inr ((exact r s r_in).0 (has_if_any (get_or above r []) s later))
        ]),
    λ under. elim ((leads_is_under n pairs told below are r s).1 under) [
      | inl is ↦ or_left (r == s) (list_any (λ t. t == s) (get_or above r [])) (eq-eqb r s is)
      | inr leads ↦ or_right (r == s) (list_any (λ t. t == s) (get_or above r [])) (any_if_has (get_or above r []) s ((exact r s r_in).1 leads))
    ],
  );
}
