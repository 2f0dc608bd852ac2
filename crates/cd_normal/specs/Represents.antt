-- The atoms and normal axioms of an expression, for a choice of atoms.
use Rattle.std.specs.Prelude.{◌≡◌, ℕ, ◌<◌, Bool, true, false, List, [], ◌∷◌, ◌++◌, map}
use Rattle.cd_meaning.specs.declared.expression.Expr.{Expr}
use Rattle.cd_meaning.specs.declared.expression.Expr.TheVariants.{Name, Meet, Join, Minus, SomeOf, AllOf}
use Rattle.cd_nnf.specs.Nnf.{nnf_not}
use Rattle.cd_meaning.specs.NormalAxioms.{NormalAxiom, n2, n3, n4, implies, triple}

-- what a fresh atom was made for
pub data Label : Type 0 where
  -- pos (true) or neg (false) of an expression
  use_of : Bool → Expr → Label
  -- the second atom of the atom x, which is the neg of the universal e
  rest_of : (x : ℕ) → (e : Expr) → Label
  -- the union of these first operands of the axiom with this number
  chain_of : (axiom_number : ℕ) → List Expr → Label

-- x is the pos (true) or the neg (false) of the expression e in negation normal form, by these axioms and those of its parts
mutual
  pub data Represents (classes : ℕ) (Fresh : ℕ → Label → Type 0) : Bool → Expr → ℕ
      → List NormalAxiom → Type 0 where
    by_name : {sign : Bool} {e : Expr} {axs : List NormalAxiom} {x : ℕ} → x < classes → e ≡ Name x
        → axs ≡ [] → Represents classes Fresh sign e x axs
    pos_minus : {e : Expr} {axs : List NormalAxiom} {x : ℕ} (c : ℕ) → c < classes
        → e ≡ Minus (Name c) → Fresh x (use_of true e) → axs ≡ implies (x ∷ c ∷ []) [] ∷ []
        → Represents classes Fresh true e x axs
    pos_meet : {e : Expr} {axs : List NormalAxiom} {x : ℕ} (parts : List Expr) (ys : List ℕ)
        (more : List NormalAxiom) → e ≡ Meet parts → Fresh x (use_of true e)
        → RepresentsEach classes Fresh true parts ys more
        → axs ≡ map (λ y. implies (x ∷ []) (y ∷ [])) ys ++ more
        → Represents classes Fresh true e x axs
    pos_join : {e : Expr} {axs : List NormalAxiom} {x : ℕ} (parts : List Expr) (ys : List ℕ)
        (more : List NormalAxiom) → e ≡ Join parts → Fresh x (use_of true e)
        → RepresentsEach classes Fresh true parts ys more → axs ≡ implies (x ∷ []) ys ∷ more
        → Represents classes Fresh true e x axs
    pos_some : {e : Expr} {axs : List NormalAxiom} {x : ℕ} (r : ℕ) (part : Expr) (y : ℕ)
        (more : List NormalAxiom) → e ≡ SomeOf r part → Fresh x (use_of true e)
        → Represents classes Fresh true part y more → axs ≡ n2 (triple x r y) ∷ more
        → Represents classes Fresh true e x axs
    pos_all : {e : Expr} {axs : List NormalAxiom} {x : ℕ} (r : ℕ) (part : Expr) (y : ℕ)
        (more : List NormalAxiom) → e ≡ AllOf r part → Fresh x (use_of true e)
        → Represents classes Fresh true part y more → axs ≡ n4 (triple x r y) ∷ more
        → Represents classes Fresh true e x axs
    neg_minus : {e : Expr} {axs : List NormalAxiom} {x : ℕ} (c : ℕ) → c < classes
        → e ≡ Minus (Name c) → Fresh x (use_of false e) → axs ≡ implies [] (x ∷ c ∷ []) ∷ []
        → Represents classes Fresh false e x axs
    neg_meet : {e : Expr} {axs : List NormalAxiom} {x : ℕ} (parts : List Expr) (ys : List ℕ)
        (more : List NormalAxiom) → e ≡ Meet parts → Fresh x (use_of false e)
        → RepresentsEach classes Fresh false parts ys more → axs ≡ implies ys (x ∷ []) ∷ more
        → Represents classes Fresh false e x axs
    neg_join : {e : Expr} {axs : List NormalAxiom} {x : ℕ} (parts : List Expr) (ys : List ℕ)
        (more : List NormalAxiom) → e ≡ Join parts → Fresh x (use_of false e)
        → RepresentsEach classes Fresh false parts ys more
        → axs ≡ map (λ y. implies (y ∷ []) (x ∷ [])) ys ++ more
        → Represents classes Fresh false e x axs
    neg_some : {e : Expr} {axs : List NormalAxiom} {x : ℕ} (r : ℕ) (part : Expr) (y : ℕ)
        (more : List NormalAxiom) → e ≡ SomeOf r part → Fresh x (use_of false e)
        → Represents classes Fresh false part y more → axs ≡ n3 (triple y r x) ∷ more
        → Represents classes Fresh false e x axs
    neg_all : {e : Expr} {axs : List NormalAxiom} {x : ℕ} (r : ℕ) (part : Expr) (y z : ℕ)
        (more : List NormalAxiom) → e ≡ AllOf r part → Fresh x (use_of false e)
        → Fresh y (rest_of x e) → Represents classes Fresh true (nnf_not part) z more
        → axs ≡ implies [] (x ∷ y ∷ []) ∷ n2 (triple y r z) ∷ more
        → Represents classes Fresh false e x axs

  pub data RepresentsEach (classes : ℕ) (Fresh : ℕ → Label → Type 0) : Bool → List Expr → List ℕ
      → List NormalAxiom → Type 0 where
    at_end : {sign : Bool} → RepresentsEach classes Fresh sign [] [] []
    and_then : {sign : Bool} {e : Expr} {es : List Expr} {x : ℕ} {xs : List ℕ}
        (here more : List NormalAxiom) → Represents classes Fresh sign e x here
        → RepresentsEach classes Fresh sign es xs more
        → RepresentsEach classes Fresh sign (e ∷ es) (x ∷ xs) (here ++ more)
