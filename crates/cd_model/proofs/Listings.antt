-- Members and edges that are listed.
use Rattle.std.proofs.Common.{ℕ, ◌<◌, List}
use Rattle.cd_base.specs.Lists.{OneOf}
use Rattle.cd_base.specs.declared.normal.Normal.{Normal}
use Rattle.cd_base.specs.declared.normal.Conj.{Conj}
use Rattle.cd_base.specs.declared.normal.Triple.{Triple}
use Rattle.cd_base.specs.declared.normal.RolePair.{RolePair}
use Rattle.cd_base.specs.Keys.{plain, negated}
use Rattle.cd_clause.specs.declared.elem.Elem.{Elem}
use Rattle.cd_clause.specs.declared.elem.Elem.TheVariants.{Plain}
use Rattle.cd_model.specs.Canonical.{Listing, IsOpen, chosen}

-- x is listed in the atom
abbrev pub Is : Listing → ℕ → ℕ → Type 0
Is i a x = OneOf (record { class = a; element = x }) i.members

-- the edge is listed
abbrev pub Goes : Listing → ℕ → ℕ → ℕ → Type 0
Goes i r x y = OneOf (record { role = r; source = x; target = y }) i.edges

-- there is an element, and all that are listed are below their number
pub record InRange (i : Listing) : Type 0 where
  pub some : 0 < i.size
  pub elements : (a x : ℕ) → Is i a x → x < i.size
  pub sources : (r x y : ℕ) → Goes i r x y → x < i.size
  pub targets : (r x y : ℕ) → Goes i r x y → y < i.size

-- the normal axioms are true of what is listed
pub record Holds (n : Normal) (i : Listing) : Type 0 where
  pub n1 : (c : Conj) → OneOf c n.n1 → (x : ℕ) → x < i.size → ((a : ℕ) → OneOf a c.left → Is i a x) → (b : ℕ) × OneOf b c.right × Is i b x
  pub n2 : (t : Triple) → OneOf t n.n2 → (x : ℕ) → Is i t.atom x → (y : ℕ) × Goes i t.role x y × Is i t.other y
  pub n3 : (t : Triple) → OneOf t n.n3 → (x y : ℕ) → Goes i t.role x y → Is i t.atom y → Is i t.other x
  pub n4 : (t : Triple) → OneOf t n.n4 → (x y : ℕ) → Is i t.atom x → Goes i t.role x y → Is i t.other y
  pub n5 : (p : RolePair) → OneOf p n.n5 → (x y : ℕ) → Goes i p.lower x y → Goes i p.higher x y

-- an element is listed in each plain atom of the key, in no negated one, and in chosen atoms alone
pub record ListedFor (n : Normal) (l : Listing) (k : List ℕ) (live : List (List Elem)) : Type 0 where
  pub x : ℕ
  pub below : x < l.size
  pub plains : (a : ℕ) → OneOf (plain a) k → Is l a x
  pub negateds : (a : ℕ) → OneOf (negated a) k → Is l a x → ⊥
  pub only_chosen : (a : ℕ) → Is l a x → OneOf (Plain a) (chosen n live)

-- what is listed is in range and a model, with an element for each context without the empty clause
pub record IsListedModel (n : Normal) (l : Listing) (keys : List (List ℕ)) (live : List ℕ → List (List Elem)) : Type 0 where
  pub range : InRange l
  pub holds : Holds n l
  pub element : (k : List ℕ) → IsOpen keys live k → ListedFor n l k (live k)
