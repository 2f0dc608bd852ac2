-- The structural normal form: from a document to normal axioms, for a choice of atoms.
use Rattle.std.specs.Prelude.{◌≡◌, ℕ, suc, ◌+◌, ◌<◌, ◌≤◌, ◌⊎◌, ◌↔◌, true, false, List, [], ◌∷◌, ◌++◌, map, length, get_or}
use Rattle.std.specs.List.{All}
use Rattle.cd_meaning.specs.declared.document.Document.{Document}
use Rattle.cd_meaning.specs.declared.interpretation.Interpretation.{Interpretation}
use Rattle.cd_meaning.specs.declared.expression.Expr.{Expr}
use Rattle.cd_meaning.specs.declared.expression.Axiom.{Axiom}
use Rattle.cd_meaning.specs.declared.expression.Axiom.TheVariants.{SubClass, SameClasses, Disjoint, DisjointUnion, SubRole, SameRoles, Domain, Range}
use Rattle.cd_meaning.specs.Membership.{class_has}
use Rattle.cd_meaning.specs.Truth.{Holds}
use Rattle.cd_nnf.specs.Nnf.{nnf}
use Rattle.cd_base.specs.declared.normal.Normal.{Normal}
use Rattle.cd_base.specs.Lists.{OneOf}
use Rattle.cd_meaning.specs.NormalAxioms.{NormalAxiom, n1, n2, n3, n4, n5, HasNormal, in_atom, IsNormalModel, implies, triple}
use Rattle.cd_normal.specs.Represents.{Label, rest_of, chain_of, Represents, RepresentsEach}

-- each of the first implies the next of the second, and the last of the first the first of the second
abbrev pub circle_from : {A : Type 0} → (ℕ → ℕ → A) → ℕ → List ℕ → List ℕ → ℕ → List A
circle_from link x [] ys start = link x start ∷ []
circle_from link x (z ∷ xs) [] start = link x start ∷ []
circle_from link x (z ∷ xs) (y ∷ ys) start = link x y ∷ circle_from link z xs ys start

-- the same from the first of each on; nothing of none
abbrev pub circle : {A : Type 0} → (ℕ → ℕ → A) → List ℕ → List ℕ → List A
circle link [] ys = []
circle link (x ∷ xs) [] = []
circle link (x ∷ xs) (y ∷ ys) = circle_from link x xs ys y

-- the operands of the list that equal no earlier one and none of those seen
abbrev pub Kept : List Expr → List Expr → List Expr → Type 0
Kept seen [] kept = kept ≡ []
Kept seen (e ∷ es) kept = (OneOf e seen × Kept seen es kept)
    ⊎ ((OneOf e seen → ⊥) × ((more : List Expr) × (kept ≡ e ∷ more) × Kept (e ∷ seen) es more))

module _ (classes : ℕ) (Fresh : ℕ → Label → Type 0) where
  -- p is the union of the operands before, and the next ones are apart from it and from each other
  abbrev pub Chain : ℕ → List Expr → ℕ → List Expr → List ℕ → List NormalAxiom → Type 0
  Chain k before p [] xs axs = ⊥
  Chain k before p (e ∷ es) [] axs = ⊥
  Chain k before p (e ∷ []) (x ∷ xs) axs = axs ≡ implies (x ∷ p ∷ []) [] ∷ []
  Chain k before p (e ∷ f ∷ es) (x ∷ xs) axs =
      (q : ℕ) × (more : List NormalAxiom) × Fresh q (chain_of k (e ∷ before))
      × Chain k (e ∷ before) q (f ∷ es) xs more
      × (axs ≡ implies (x ∷ []) (q ∷ []) ∷ implies (p ∷ []) (q ∷ []) ∷ implies (x ∷ p ∷ []) []
      ∷ more)

  -- no two of the operands, whose neg atoms these are, have a common element: one axiom for two, a chain of unions for more
  abbrev pub Apart : ℕ → List Expr → List ℕ → List NormalAxiom → Type 0
  Apart k [] xs axs = axs ≡ []
  Apart k (e ∷ []) xs axs = axs ≡ []
  Apart k (e ∷ f ∷ []) xs axs = axs ≡ implies xs [] ∷ []
  Apart k (e ∷ f ∷ g ∷ es) [] axs = ⊥
  Apart k (e ∷ f ∷ g ∷ es) (x ∷ xs) axs =
      (p : ℕ) × (more : List NormalAxiom) × Fresh p (chain_of k (e ∷ []))
      × Chain k (e ∷ []) p (f ∷ g ∷ es) xs more × (axs ≡ implies (x ∷ []) (p ∷ []) ∷ more)

  -- one operand gives nothing, so it is not used either
  abbrev pub RepresentsApart : ℕ → List Expr → List NormalAxiom → Type 0
  RepresentsApart k [] axs = axs ≡ []
  RepresentsApart k (e ∷ []) axs = axs ≡ []
  RepresentsApart k (e ∷ f ∷ es) axs =
      (xs : List ℕ) × (a b : List NormalAxiom)
      × RepresentsEach classes Fresh false (map nnf (e ∷ f ∷ es)) xs a × Apart k (e ∷ f ∷ es) xs b
      × (axs ≡ b ++ a)

  -- operands that equal an earlier one are left out
  abbrev pub GivesApart : ℕ → List Expr → List NormalAxiom → Type 0
  GivesApart k l axs = (kept : List Expr) × Kept [] l kept × RepresentsApart k kept axs

  -- what the axiom with the number k gives
  abbrev pub Gives : ℕ → Axiom → List NormalAxiom → Type 0
  Gives k (SubClass c d) axs = (x y : ℕ) × (a b : List NormalAxiom)
      × Represents classes Fresh false (nnf c) x a × Represents classes Fresh true (nnf d) y b
      × (axs ≡ implies (x ∷ []) (y ∷ []) ∷ (a ++ b))
  Gives k (SameClasses l) axs =
      (xs ys : List ℕ) × (a b : List NormalAxiom)
      × RepresentsEach classes Fresh false (map nnf l) xs a
      × RepresentsEach classes Fresh true (map nnf l) ys b
      × (axs ≡ circle (λ x y. implies (x ∷ []) (y ∷ [])) xs ys ++ (a ++ b))
  Gives k (Disjoint l) axs = GivesApart k l axs
  Gives k (DisjointUnion c l) axs =
      (xs ys : List ℕ) × (a b apart : List NormalAxiom) × (c < classes)
      × RepresentsEach classes Fresh false (map nnf l) xs a
      × RepresentsEach classes Fresh true (map nnf l) ys b × GivesApart k l apart
      × (axs ≡ implies (c ∷ []) ys
      ∷ (map (λ x. implies (x ∷ []) (c ∷ [])) xs ++ (a ++ (b ++ apart))))
  Gives k (SubRole r s) axs = axs ≡ n5 (record { lower = r; higher = s }) ∷ []
  Gives k (SameRoles l) axs = axs ≡ circle (λ r s. n5 (record { lower = r; higher = s })) l l
  Gives k (Domain r c) axs = (x : ℕ) × (a : List NormalAxiom)
      × Represents classes Fresh true (nnf c) x a × (axs ≡ n3 (triple 0 r x) ∷ a)
  Gives k (Range r c) axs = (x : ℕ) × (a : List NormalAxiom)
      × Represents classes Fresh true (nnf c) x a × (axs ≡ n4 (triple 0 r x) ∷ a)

  -- what the axioms give, of which the first has the number k
  abbrev pub GivesFrom : ℕ → List Axiom → List NormalAxiom → Type 0
  GivesFrom k [] axs = axs ≡ []
  GivesFrom k (s ∷ more) axs = (a b : List NormalAxiom) × Gives k s a × GivesFrom (suc k) more b
      × (axs ≡ a ++ b)

-- the fresh atoms follow the classes, one for each of the list
abbrev pub IsFresh : ℕ → List Label → ℕ → Label → Type 0
IsFresh classes labels a label =
    (n : ℕ) × (a ≡ classes + n) × (n < length labels) × ((k : Label) → get_or labels n k ≡ label)

-- the atom stands in the normal axiom
abbrev pub Mentions : ℕ → NormalAxiom → Type 0
Mentions a (n1 c) = OneOf a c.left ⊎ OneOf a c.right
Mentions a (n2 t) = (a ≡ t.atom) ⊎ (a ≡ t.other)
Mentions a (n3 t) = (a ≡ t.atom) ⊎ (a ≡ t.other)
Mentions a (n4 t) = (a ≡ t.atom) ⊎ (a ≡ t.other)
Mentions a (n5 p) = ⊥

-- the normal axioms are the document's structural normal form
pub record IsStructuralNormalForm (document : Document) (n : Normal) : Type 0 where
  pub labels : List Label
  pub axs : List NormalAxiom
  pub gives : GivesFrom (length document.classes)
      (IsFresh (length document.classes) labels) 0 document.axioms axs
  pub atoms : n.atoms ≡ length document.classes + length labels
  -- the first atoms are the named ones
  pub named : n.named ≡ map (λ c. true) document.classes ++ map (λ k. false) labels
  pub roles : n.roles ≡ length document.roles
  -- each of them at least once, and that all is in owl:Thing and nothing in owl:Nothing
  pub have : (a : NormalAxiom) → HasNormal n a
      ↔ OneOf a (implies [] (0 ∷ []) ∷ implies (1 ∷ []) [] ∷ axs)
  -- each fresh atom stands in one
  pub no_other : (a : ℕ) → length document.classes ≤ a → a < n.atoms
      → (x : NormalAxiom) × HasNormal n x × Mentions a x
  -- an atom of a universal has one second atom
  pub one_rest : (a b x : ℕ) (e : Expr) → IsFresh (length document.classes) labels a (rest_of x e)
      → IsFresh (length document.classes) labels b (rest_of x e) → a ≡ b

-- an interpretation in which the normal axioms hold is one of the document, and its first atoms are the classes
abbrev pub Restricts : Type 0
Restricts = (document : Document) (n : Normal) (i : Interpretation)
    → IsStructuralNormalForm document n → IsNormalModel n i
    → All (Holds i) document.axioms
    × ((c x : ℕ) → c < length document.classes → x < i.size → in_atom i c x ≡ class_has i c x)

-- an interpretation in which the normal axioms hold, with the elements, the roles and the members of the classes of i
pub record Extension (document : Document) (n : Normal) (i : Interpretation) : Type 0 where
  pub made : Interpretation
  pub size : made.size ≡ i.size
  pub roles : made.roles ≡ i.roles
  pub classes : (c x : ℕ) → c < length document.classes → x < i.size
      → in_atom made c x ≡ class_has i c x
  pub model : IsNormalModel n made

-- every interpretation of the document has one
abbrev pub Extends : Type 0
Extends = (document : Document) (n : Normal) (i : Interpretation)
    → IsStructuralNormalForm document n → All (Holds i) document.axioms → Extension document n i
