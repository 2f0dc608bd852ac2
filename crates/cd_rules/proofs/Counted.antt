-- A walk by number, each step of which appends what it adds.
use Rattle.std.proofs.Common.{◌≡◌, ◌⊎◌, ℕ, ◌+◌, ◌<◌, ◌≤◌, List, sym, subst, inl, inr, arith}
use Rattle.std.proofs.lemmas.Bool.{cases_eq}
use Rattle.cd_clause.specs.declared.elem.Elem.{Elem}
use Rattle.cd_base.specs.Appends.{Appends}
use Rattle.cd_rules.specs.Among.{Among}
use Rattle.cd_base.proofs.Appending.{both, none, otherwise}
use Rattle.cd_rules.proofs.Among.{among_grows}

-- Q of one of the numbers below n
abbrev pub OfBelow : (ℕ → List Elem → Type 0) → ℕ → List Elem → Type 0
OfBelow Q n d = (k : ℕ) × (k < n) × Q k d

-- the steps below n have appended what they add
abbrev pub HasCounted : (ℕ → List Elem → Type 0) → ℕ → List (List Elem) → List (List Elem) → Type 0
HasCounted Q n old new = Appends Among (OfBelow Q n) (Unit {0}) old new

pub count_begins : (Q : ℕ → List Elem → Type 0) (old : List (List Elem)) → HasCounted Q 0 old old
count_begins Q old = none (OfBelow Q 0) (Unit {0}) old (λ h d q. let lt : q.0 < 0 = q.1 in omega arith)

below_more : (Q : ℕ → List Elem → Type 0) (n : ℕ) (d : List Elem) → OfBelow Q n d ⊎ Q n d → OfBelow Q (n + 1) d
below_more Q n d (inl q) = (q.0, omega (arith, q.1), q.2)
below_more Q n d (inr q) = (n, omega arith, q)

more_below : (Q : ℕ → List Elem → Type 0) (n : ℕ) (d : List Elem) → OfBelow Q (n + 1) d → OfBelow Q n d ⊎ Q n d
more_below Q n d q = elim (cases_eq q.0 n) [
  | inl e ↦ inr (subst (λ k. Q k d) e q.2)
  | inr differ ↦ inl (q.0, omega (arith, q.1), q.2)
]

module _ (Q : ℕ → List Elem → Type 0) (n : ℕ) where
  -- one more step has appended what it adds
  pub count_goes : (Done : Type 0) (old mid new : List (List Elem)) → HasCounted Q n old mid → Appends Among (Q n) Done mid new → Done → HasCounted Q (n + 1) old new
  count_goes Done old mid new w a done =
      otherwise (λ d. OfBelow Q n d ⊎ Q n d) (OfBelow Q (n + 1)) (Unit {0} × Done) (Unit {0}) old new
      (below_more Q n) (λ u. more_below Q n) (λ u. (tt, done))
      (both among_grows (OfBelow Q n) (Q n) (Unit {0}) Done old mid new w a)

  -- one more step has nothing to add
  pub count_passes : (old new : List (List Elem)) → HasCounted Q n old new → ((d : List Elem) → Q n d → ⊥) → HasCounted Q (n + 1) old new
  count_passes old new w nothing = count_goes (Unit {0}) old new new w (none (Q n) (Unit {0}) new (λ u d q. nothing d q)) tt

  -- the walk ends in this step
  pub count_stops : (P : List Elem → Type 0) (m : ℕ) (Done Done' : Type 0) (old mid new : List (List Elem)) → HasCounted Q n old mid → Appends Among (Q n) Done mid new
      → n < m → ((d : List Elem) → OfBelow Q m d → P d) → (Done' → ⊥) → Appends Among P Done' old new
  count_stops P m Done Done' old mid new w a lt is undone =
      otherwise (λ d. OfBelow Q n d ⊎ Q n d) P (Unit {0} × Done) Done' old new
      (λ d q. let r = below_more Q n d q in is d (r.0, omega (arith, r.1), r.2)) (λ h d q. absurd (undone h)) (λ h. absurd (undone h))
      (both among_grows (OfBelow Q n) (Q n) (Unit {0}) Done old mid new w a)

  -- the walk ends before this step
  pub count_leaves : (P : List Elem → Type 0) (m : ℕ) (Done : Type 0) (old new : List (List Elem)) → HasCounted Q n old new
      → n ≤ m → ((d : List Elem) → OfBelow Q m d → P d) → (Done → ⊥) → Appends Among P Done old new
  count_leaves P m Done old new w le is undone =
      otherwise (OfBelow Q n) P (Unit {0}) Done old new
      (λ d q. is d (q.0, omega (arith, q.1), q.2)) (λ h d q. absurd (undone h)) (λ h. tt) w

  -- all steps have appended what they add
  pub count_ends : (P : List Elem → Type 0) (m : ℕ) (Done : Type 0) (old new : List (List Elem)) → HasCounted Q n old new → n ≡ m
      → ((d : List Elem) → OfBelow Q m d → P d) → ((d : List Elem) → P d → OfBelow Q m d) → Appends Among P Done old new
  count_ends P m Done old new w e is was =
      otherwise (OfBelow Q n) P (Unit {0}) Done old new
      (λ d q. is d (subst (λ k. OfBelow Q k d) e q)) (λ h d p. subst (λ k. OfBelow Q k d) (sym e) (was d p)) (λ h. tt) w
