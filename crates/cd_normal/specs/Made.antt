-- What the making of normal axioms has done so far.
use Rattle.std.specs.Prelude.{◌≡◌, ℕ, ◌+◌, ◌*◌, ◌<◌, ◌≤◌, ◌⊎◌, ◌↔◌, Bool, true, false, cond, List, [], ◌∷◌, map, length}
use Rattle.cd_meaning.specs.declared.expression.Expr.{Expr}
use Rattle.cd_base.specs.declared.normal.Normal.{Normal}
use Rattle.cd_meaning.specs.declared.expression.Axiom.{Axiom}
use Rattle.cd_meaning.specs.declared.expression.Axiom.TheVariants.{SameRoles}
use Rattle.cd_meaning.specs.Nodes.{nodes_in}
use Rattle.cd_nnf.specs.Nnf.{nnf, nnf_not}
use Rattle.cd_normal.specs.declared.maker.Maker.{Maker}
use Rattle.cd_base.specs.Lists.{OneOf}
use Rattle.cd_meaning.specs.NormalAxioms.{NormalAxiom, n1, n2, n3, n4, n5, implies, triple}
use Rattle.cd_normal.specs.Represents.{Label, rest_of, Represents, RepresentsEach}
use Rattle.cd_normal.specs.NormalForm.{IsFresh, Mentions, Gives, GivesFrom}

abbrev pub HasNow : Maker → NormalAxiom → Type 0
HasNow m (n1 c) = OneOf c m.n1.items
HasNow m (n2 t) = OneOf t m.n2.items
HasNow m (n3 t) = OneOf t m.n3.items
HasNow m (n4 t) = OneOf t m.n4.items
HasNow m (n5 p) = OneOf p m.n5.items

-- these axioms came, and no others
abbrev pub Adds : Maker → Maker → List NormalAxiom → Type 0
Adds old new axs = (a : NormalAxiom) → HasNow new a ↔ (HasNow old a ⊎ OneOf a axs)

-- a fresh atom came, with these axioms
abbrev pub Closes : Maker → Maker → ℕ → List NormalAxiom → Type 0
Closes old new x axs = (x ≡ old.next) × (new.next ≡ old.next + 1) × Adds old new axs

abbrev pub form : Bool → Expr → Expr
form flipped e = cond flipped (nnf_not e) (nnf e)

-- each second atom follows the atom that it is made for
abbrev pub IsPaired : ℕ → List Label → Type 0
IsPaired classes labels = (a x : ℕ) (e : Expr) → IsFresh classes labels a (rest_of x e) → a ≡ x + 1

-- one of these axioms mentions the atom
abbrev pub IsMentioned : ℕ → List NormalAxiom → Type 0
IsMentioned a axs = (row : NormalAxiom) × OneOf row axs × Mentions a row

-- each atom that came is mentioned, but for these, which are left to what uses them
abbrev pub Mentioned : Maker → Maker → List ℕ → List NormalAxiom → Type 0
Mentioned old new left axs = (a : ℕ) → old.next ≤ a → a < new.next
    → OneOf a left ⊎ IsMentioned a axs

-- for every account of the fresh atoms so far there is one that goes on from it, and by it x is the pos or neg of e
pub record Made (classes : ℕ) (old new : Maker) (labels : List Label) (sign : Bool) (e : Expr)
    (x : ℕ) : Type 0 where
  pub after : List Label
  pub grows : (a : ℕ) (k : Label) → IsFresh classes labels a k → IsFresh classes after a k
  pub count : classes + length after ≡ new.next
  pub axs : List NormalAxiom
  pub uses : Represents classes (IsFresh classes after) sign e x axs
  pub adds : Adds old new axs
  pub paired : IsPaired classes labels → IsPaired classes after
  pub mentioned : Mentioned old new (x ∷ []) axs

abbrev pub IsUse : ℕ → Maker → Maker → Bool → Expr → ℕ → Type 0
IsUse classes old new sign e x = (labels : List Label) → classes + length labels ≡ old.next
    → Made classes old new labels sign e x

pub record MadeEach (classes : ℕ) (old new : Maker) (labels : List Label) (sign : Bool)
    (es : List Expr) (xs : List ℕ) : Type 0 where
  pub after : List Label
  pub grows : (a : ℕ) (k : Label) → IsFresh classes labels a k → IsFresh classes after a k
  pub count : classes + length after ≡ new.next
  pub axs : List NormalAxiom
  pub uses : RepresentsEach classes (IsFresh classes after) sign es xs axs
  pub adds : Adds old new axs
  pub paired : IsPaired classes labels → IsPaired classes after
  pub mentioned : Mentioned old new xs axs

abbrev pub IsUseEach : ℕ → Maker → Maker → Bool → List Expr → List ℕ → Type 0
IsUseEach classes old new sign es xs = (labels : List Label) → classes + length labels ≡ old.next
    → MadeEach classes old new labels sign es xs

abbrev pub minus_rows : Bool → ℕ → ℕ → List NormalAxiom
minus_rows true x c = implies (x ∷ c ∷ []) [] ∷ []
minus_rows false x c = implies [] (x ∷ c ∷ []) ∷ []

abbrev pub some_rows : Bool → ℕ → ℕ → ℕ → List NormalAxiom
some_rows true x r y = n2 (triple x r y) ∷ []
some_rows false x r y = n3 (triple y r x) ∷ []

abbrev pub list_rows : Bool → Bool → ℕ → List ℕ → List NormalAxiom
list_rows true true x ys = map (λ y. implies (x ∷ []) (y ∷ [])) ys
list_rows true false x ys = implies ys (x ∷ []) ∷ []
list_rows false true x ys = implies (x ∷ []) ys ∷ []
list_rows false false x ys = map (λ y. implies (y ∷ []) (x ∷ [])) ys

abbrev pub link_rows : Bool → ℕ → List ℕ → List NormalAxiom
link_rows true x ys = map (λ y. implies (x ∷ []) (y ∷ [])) ys
link_rows false x ys = map (λ y. implies (y ∷ []) (x ∷ [])) ys

-- two fresh atoms came, x and the next, with these axioms
abbrev pub ClosesTwo : Maker → Maker → ℕ → List NormalAxiom → Type 0
ClosesTwo old new x axs = (x ≡ old.next) × (new.next ≡ old.next + 2) × Adds old new axs

abbrev pub rest_rows : ℕ → ℕ → ℕ → List NormalAxiom
rest_rows x r z = implies [] (x ∷ (x + 1) ∷ []) ∷ n2 (triple (x + 1) r z) ∷ []

-- for every account of the fresh atoms so far there is one that goes on from it, and by it these axioms came, which are as P says
pub record MadeBy (classes : ℕ) (old new : Maker) (labels : List Label)
    (P : (ℕ → Label → Type 0) → List NormalAxiom → Type 0) : Type 0 where
  pub after : List Label
  pub grows : (a : ℕ) (k : Label) → IsFresh classes labels a k → IsFresh classes after a k
  pub count : classes + length after ≡ new.next
  pub axs : List NormalAxiom
  pub made : P (IsFresh classes after) axs
  pub adds : Adds old new axs
  pub paired : IsPaired classes labels → IsPaired classes after
  pub mentioned : Mentioned old new [] axs

abbrev pub IsGiven : ℕ → Maker → Maker → ((ℕ → Label → Type 0) → List NormalAxiom → Type 0) → Type 0
IsGiven classes old new P = (labels : List Label) → classes + length labels ≡ old.next
    → MadeBy classes old new labels P

-- what came is what this axiom gives, with any number
abbrev pub IsGivenBy : ℕ → Maker → Maker → Axiom → Type 0
IsGivenBy classes old new stated = (k : ℕ)
    → IsGiven classes old new (λ Fresh axs. Gives classes Fresh k stated axs)

-- these are the normal axioms of the axioms, and those of owl:Thing and owl:Nothing
pub record IsMadeOf (classes : ℕ) (axioms : List Axiom) (m : Maker) : Type 0 where
  pub labels : List Label
  pub axs : List NormalAxiom
  pub gives : GivesFrom classes (IsFresh classes labels) 0 axioms axs
  pub atoms : m.next ≡ classes + length labels
  pub have : (a : NormalAxiom) → HasNow m a
      ↔ OneOf a (implies [] (0 ∷ []) ∷ implies (1 ∷ []) [] ∷ axs)
  pub paired : IsPaired classes labels
  pub mentioned : (a : ℕ) → classes ≤ a → a < m.next → IsMentioned a axs

-- the first atom implies the second
abbrev pub atom_link : ℕ → ℕ → NormalAxiom
atom_link x y = implies (x ∷ []) (y ∷ [])

-- the first role is under the second
abbrev pub role_link : ℕ → ℕ → NormalAxiom
role_link r s = n5 (record { lower = r; higher = s })

-- ---- numbers

-- how many normal axioms there are so far
abbrev pub rows : Maker → ℕ
rows m = length m.n1.items + length m.n2.items + length m.n3.items + length m.n4.items
    + length m.n5.items

-- at most so many atoms and so many axioms came
abbrev pub IsGrown : Maker → Maker → ℕ → ℕ → Type 0
IsGrown old new atoms axs = (new.next ≤ old.next + atoms) × (rows new ≤ rows old + axs)

-- how many atoms the pos (true) or neg (false) of an expression with so many nodes may take
abbrev pub share : Bool → ℕ → ℕ
share true nodes = nodes
share false nodes = 2 * nodes

-- so many uses came for expressions with so many nodes: the axioms leave room for one more a use
abbrev pub IsGrownBy : Maker → Maker → Bool → ℕ → ℕ → Type 0
IsGrownBy old new sign uses nodes =
    (new.next ≤ old.next + share sign nodes) × (rows new + uses ≤ rows old + 2 * nodes)

-- how many operands the axioms on equal roles have
abbrev pub role_operands : List Axiom → ℕ
role_operands [] = 0
role_operands (SameRoles l ∷ more) = length l + role_operands more
role_operands (stated ∷ more) = role_operands more

-- what one axiom may add
abbrev pub IsGrownOnce : Maker → Maker → Axiom → Type 0
IsGrownOnce old new stated = IsGrown old new (6 * nodes_in stated)
    (12 * nodes_in stated + role_operands (stated ∷ []))

abbrev pub count : Normal → ℕ
count n = length n.n1 + length n.n2 + length n.n3 + length n.n4 + length n.n5
