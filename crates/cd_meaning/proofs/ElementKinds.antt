-- The elements of a domain by kinds: those that no expression of a list tells apart are of one kind. There are finitely many kinds.
use Rattle.std.proofs.Common.{◌≡◌, ◌<◌, ◌≤◌, ◌+◌, ◌⊎◌, ◌↔◌, ℕ, Bool, true, false, IsTrue, List, [], ◌∷◌, refl, sym, subst, inl, inr, arith}
use Rattle.std.proofs.lemmas.Bool.{false≢true}
use Rattle.cd_base.specs.Lists.{OneOf}
use Rattle.cd_meaning.specs.declared.expression.Expr.{Expr}
use Rattle.cd_meaning.specs.AnyDomain.{Structure}
use Rattle.cd_meaning.proofs.Tables.{all_unrefuted}

-- how many kinds these expressions tell apart at most
abbrev pub kinds : List Expr → ℕ
kinds [] = 1
kinds (e ∷ es) = kinds es + kinds es

-- there is at least one kind
pub some_kind : (es : List Expr) → 0 < kinds es
some_kind [] = omega arith
some_kind (e ∷ es) = let l = some_kind es in omega arith

-- the kind among twice as many, by one test more
abbrev pub next : Bool → ℕ → ℕ → ℕ
next true n k = n + k
next false n k = k

-- it is below twice as many
next_below : (b : Bool) (n k : ℕ) → k < n → next b n k < n + n
next_below true n k lt = omega arith
next_below false n k lt = omega arith

-- the test and the kind before can be told from it
next_same : (b c : Bool) (n k l : ℕ) → k < n → l < n → next b n k ≡ next c n l → (b ≡ c) × (k ≡ l)
next_same true true n k l kn ln e = (refl, omega (arith, e))
next_same true false n k l kn ln e = absurd (omega (arith, e))
next_same false true n k l kn ln e = absurd (omega (arith, e))
next_same false false n k l kn ln e = (refl, e)

module _ {D : Type 0} (s : Structure D) where
  -- the number of the kind of an element
  abbrev pub kind : List Expr → D → ℕ
  kind [] x = 0
  kind (e ∷ es) x = next (s.has e x) (kinds es) (kind es x)

  -- the number of a kind is below how many there are
  pub kind_below : (es : List Expr) (x : D) → kind es x < kinds es
  kind_below [] x = omega arith
  kind_below (e ∷ es) x = next_below (s.has e x) (kinds es) (kind es x) (kind_below es x)

  -- elements of one kind are in the same of these expressions
  pub same_kind : (es : List Expr) (x y : D) → kind es x ≡ kind es y → (e : Expr) → OneOf e es → s.has e x ≡ s.has e y
  same_kind [] x y q e m = absurd m
  same_kind (d ∷ es) x y q e (inl i) =
      let p = next_same (s.has d x) (s.has d y) (kinds es) (kind es x) (kind es y) (kind_below es x) (kind_below es y) q in
      subst (λ z. s.has z x ≡ s.has z y) (sym i) p.0
  same_kind (d ∷ es) x y q e (inr m) =
      let p = next_same (s.has d x) (s.has d y) (kinds es) (kind es x) (kind es y) (kind_below es x) (kind_below es y) q in
      same_kind es x y p.1 e m

  -- some edge of r goes from an element of the kind of the first to one of the kind of the second
  abbrev pub Linked : List Expr → ℕ → D → D → Type 0
  Linked es r a b = (x : D) × (y : D) × (kind es x ≡ kind es a) × (kind es y ≡ kind es b) × IsTrue (s.edge r x y)

  -- an element that stands for each kind, and a test for the edges between kinds. The kinds are those that the expressions `told`
  -- tell apart, and the roles those below `bound`
  pub record World : Type 0 where
    pub bound : ℕ
    pub told : List Expr
    pub stands : ℕ → D
    pub found : (x : D) → kind told (stands (kind told x)) ≡ kind told x
    pub test : ℕ → ℕ → ℕ → Bool
    pub linked : (r i j : ℕ) → r < bound → i < kinds told → j < kinds told
        → IsTrue (test r i j) ↔ Linked told r (stands i) (stands j)

  module _ (n : ℕ) (es : List Expr) where
    -- some element is of kind k
    abbrev Occurs : ℕ → Type 0
    Occurs k = (x : D) × (kind es x ≡ k)

    -- an element of kind k, if there is one
    abbrev stand_of : (k : ℕ) → Occurs k ⊎ (Occurs k → ⊥) → D
    stand_of k (inl o) = o.0
    stand_of k (inr absent) = s.inhabited

    -- the element that stands for the kind of x is of that kind
    stand_kind : (x : D) (o : Occurs (kind es x) ⊎ (Occurs (kind es x) → ⊥)) → kind es (stand_of (kind es x) o) ≡ kind es x
    stand_kind x (inl o) = o.1
    stand_kind x (inr absent) = absurd (absent (x, refl))

    -- that a kind occurs or does not can't be refuted
    occurs_or_not : (k : ℕ) → ((Occurs k ⊎ (Occurs k → ⊥)) → ⊥) → ⊥
    occurs_or_not k refuted = refuted (inr (λ o. refuted (inl o)))

    -- a kind past the last does not occur
    never : (k : ℕ) → kinds es ≤ k → Occurs k ⊎ (Occurs k → ⊥)
    never k ge = inr (λ o. let l = kind_below es o.0 in let e = o.1 in absurd (omega arith))

    module _ (stands : ℕ → D) where
      -- b is the test for edges of r from kind i to kind j
      abbrev Tested : ℕ → ℕ → ℕ → Bool → Type 0
      Tested r i j b = r < n → i < kinds es → j < kinds es → IsTrue b ↔ Linked es r (stands i) (stands j)

      -- that there is such a test can't be refuted
      one_test : (r i j : ℕ) → (((b : Bool) × Tested r i j b) → ⊥) → ⊥
      one_test r i j refuted =
          refuted (false, λ rl il jl. (λ e. absurd (false≢true e), λ l. absurd (refuted (true, λ rl il jl. (λ e. l, λ k. refl)))))

      -- the tests of r from kind i
      row : (r i : ℕ) → (((t : ℕ → Bool) × ((j : ℕ) → Tested r i j (t j))) → ⊥) → ⊥
      row r i refuted = all_unrefuted (λ j. (b : Bool) × Tested r i j b) (kinds es)
          (λ j ge. (false, λ rl il jl. absurd (omega arith))) (one_test r i) (λ f. refuted (λ j. (f j).0, λ j. (f j).1))

      -- the tests of r
      table : (r : ℕ) → (((t : ℕ → ℕ → Bool) × ((i j : ℕ) → Tested r i j (t i j))) → ⊥) → ⊥
      table r refuted = all_unrefuted (λ i. (t : ℕ → Bool) × ((j : ℕ) → Tested r i j (t j))) (kinds es)
          (λ i ge. (λ j. false, λ j rl il jl. absurd (omega arith))) (row r) (λ f. refuted (λ i. (f i).0, λ i. (f i).1))

      -- the tests of all roles
      tables : (((t : ℕ → ℕ → ℕ → Bool) × ((r i j : ℕ) → Tested r i j (t r i j))) → ⊥) → ⊥
      tables refuted = all_unrefuted (λ r. (t : ℕ → ℕ → Bool) × ((i j : ℕ) → Tested r i j (t i j))) n
          (λ r ge. (λ i j. false, λ i j rl il jl. absurd (omega arith))) table (λ f. refuted (λ r. (f r).0, λ r. (f r).1))

    -- that there is such a world can't be refuted; whether a kind occurs, or two are linked, is not decided
    pub world : ((w : World) → w.bound ≡ n → w.told ≡ es → ⊥) → ⊥
    world refuted = all_unrefuted (λ k. Occurs k ⊎ (Occurs k → ⊥)) (kinds es) never occurs_or_not (λ d.
        let stands : ℕ → D = λ k. stand_of k (d k) in
        tables stands (λ t. refuted
        (record { bound = n; told = es; stands = stands; found = λ x. stand_kind x (d (kind es x)); test = t.0; linked = t.1 }) refl refl))
