-- A family of two, written by hand, in which each form of class expression and of axiom is tried.
use Rattle.std.specs.Prelude.{◌≡◌, ℕ, ◌<◌, nat_lt, true, List, [], ◌∷◌, All, filter, refl}
use Rattle.std.specs.List.{list_all}
use Rattle.std.proofs.Common.{ltb-true}
use Rattle.cd_base.proofs.Members.{all_member, all_from_member}
use Rattle.cd_meaning.specs.declared.expression.Expr.{Expr}
use Rattle.cd_meaning.specs.declared.expression.Expr.TheVariants.{Name, SomeOf}
use Rattle.cd_meaning.specs.declared.expression.Axiom.{Axiom}
use Rattle.cd_meaning.specs.declared.interpretation.Edge.{Edge}
use Rattle.cd_meaning.specs.declared.interpretation.Member.{Member}
use Rattle.cd_meaning.specs.declared.interpretation.Interpretation.{Interpretation}
use Rattle.cd_meaning.specs.Membership.{member}
use Rattle.cd_meaning.specs.Truth.{Holds}

-- ---- its elements

abbrev pub ann : ℕ
ann = 0

abbrev pub bob : ℕ
bob = 1

-- ---- its classes

abbrev pub person_class : ℕ
person_class = 2

abbrev pub parent_class : ℕ
parent_class = 3

abbrev pub child_class : ℕ
child_class = 4

abbrev pub owl_thing : Expr
owl_thing = Name 0

abbrev pub owl_nothing : Expr
owl_nothing = Name 1

abbrev pub person : Expr
person = Name person_class

abbrev pub parent : Expr
parent = Name parent_class

abbrev pub child : Expr
child = Name child_class

-- ---- its roles

abbrev pub has_child : ℕ
has_child = 0

abbrev pub has_kid : ℕ
has_kid = 1

abbrev pub knows : ℕ
knows = 2

-- those who have a child
abbrev pub with_child : Expr
with_child = SomeOf has_child owl_thing

-- ---- the family

-- the element is in the class
abbrev pub pair : ℕ → ℕ → Member
pair c x = record { class = c; element = x }

-- Ann and Bob are persons, Ann a parent and Bob a child. That owl:Nothing is listed with Ann changes nothing
abbrev pub pairs : List Member
pairs = pair person_class ann ∷ pair person_class bob ∷ pair parent_class ann
    ∷ pair child_class bob ∷ pair 1 ann ∷ []

-- the role goes from the first element to the second
abbrev pub edge : ℕ → ℕ → ℕ → Edge
edge r x y = record { role = r; source = x; target = y }

-- Ann has the child and kid Bob, and they know each other
abbrev pub edges : List Edge
edges = edge has_child ann bob ∷ edge has_kid ann bob ∷ edge knows ann bob ∷ edge knows bob ann ∷ []

-- what a test says of each is an element
pub all_elements : {X : Type 0} (f : X → ℕ) (xs : List X)
    → list_all (λ x. nat_lt (f x) 2) xs ≡ true → All (λ x. f x < 2) xs
all_elements f xs h = all_from_member (λ x. f x < 2) xs
    (λ x m. ltb-true (f x) 2 (all_member (λ x. nat_lt (f x) 2) xs h x m))

-- the interpretation of the two
abbrev pub family : Interpretation
family = record {
  size = 2;
  classes = pairs;
  roles = edges;
  inhabited = ltb-true 0 _ refl;
  members = all_elements (λ (m : Member). m.element) pairs refl;
  sources = all_elements (λ (e : Edge). e.source) edges refl;
  targets = all_elements (λ (e : Edge). e.target) edges refl;
}

-- ---- what is said of it

-- the elements of an expression
abbrev pub elements_of : Expr → List ℕ
elements_of e = filter (member family e) (ann ∷ bob ∷ [])

-- the first axiom is true in the family, and the second false
abbrev pub IsTrueAndFalse : Axiom → Axiom → Type 0
IsTrueAndFalse a b = Holds family a × (Holds family b → ⊥)
