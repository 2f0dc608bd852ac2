-- Nodes and numbers of expressions, a line for each form.
use Rattle.std.proofs.Common.{◌≡◌, ℕ, ◌+◌, ◌<◌, ◌≤◌, ◌&&◌, Bool, true, nat_lt, List, length, get_or, take, sum_by, sym, ap, subst, ◌∙◌, inl, inr}
use Rattle.std.specs.List.{list_all}
use Rattle.std.proofs.lemmas.Bool.{ltb-true, and_parts, false≢true}
use Rattle.std.proofs.lemmas.List.Folds.{list_all_at}
use Rattle.std.proofs.lemmas.List.Sums.{sum_by_more, sum_by_more_le}
use Rattle.cd_meaning.specs.declared.expression.Expr.{Expr}
use Rattle.cd_meaning.specs.declared.expression.Expr.TheVariants.{Name, Meet, Join, SomeOf, AllOf}
use Rattle.cd_meaning.specs.Nodes.{nodes_of}
use Rattle.cd_meaning.specs.Numbered.{is_in_range}
use Rattle.cd_meaning.specs.NodesTable.{nodes-Name, nodes-Meet, nodes-Join, nodes-SomeOf, nodes-AllOf, below-Name, below-Meet, below-Join}
use Rattle.cd_normal.proofs.Tests.{true_or_false}

-- what an expression of this form has
pub nodes_name : (e : Expr) (c : ℕ) → e ≡ Name c → nodes_of e ≡ 1
nodes_name e c is = ap nodes_of is ∙ nodes-Name c

pub nodes_meet : (e : Expr) (parts : List Expr) → e ≡ Meet parts → nodes_of e ≡ 1 + sum_by nodes_of parts
nodes_meet e parts is = ap nodes_of is ∙ nodes-Meet parts

pub nodes_join : (e : Expr) (parts : List Expr) → e ≡ Join parts → nodes_of e ≡ 1 + sum_by nodes_of parts
nodes_join e parts is = ap nodes_of is ∙ nodes-Join parts

pub nodes_some : (e : Expr) (r : ℕ) (part : Expr) → e ≡ SomeOf r part → nodes_of e ≡ 1 + nodes_of part
nodes_some e r part is = ap nodes_of is ∙ nodes-SomeOf r part

pub nodes_all : (e : Expr) (r : ℕ) (part : Expr) → e ≡ AllOf r part → nodes_of e ≡ 1 + nodes_of part
nodes_all e r part is = ap nodes_of is ∙ nodes-AllOf r part

pub name_below : (classes : ℕ) (e : Expr) (c : ℕ) → e ≡ Name c → (roles : ℕ) × (is_in_range classes roles e ≡ true) → c < classes
name_below classes e c is (roles, h) = ltb-true c classes (sym (below-Name classes roles c) ∙ ap (is_in_range classes roles) (sym is) ∙ h)

pub meet_below : (classes : ℕ) (e : Expr) (parts : List Expr) → e ≡ Meet parts → (roles : ℕ) × (is_in_range classes roles e ≡ true) → (roles : ℕ) × (list_all (is_in_range classes roles) parts ≡ true)
meet_below classes e parts is (roles, h) = (roles, sym (below-Meet classes roles parts) ∙ ap (is_in_range classes roles) (sym is) ∙ h)

pub join_below : (classes : ℕ) (e : Expr) (parts : List Expr) → e ≡ Join parts → (roles : ℕ) × (is_in_range classes roles e ≡ true) → (roles : ℕ) × (list_all (is_in_range classes roles) parts ≡ true)
join_below classes e parts is (roles, h) = (roles, sym (below-Join classes roles parts) ∙ ap (is_in_range classes roles) (sym is) ∙ h)

-- the first steps of a sum of nodes
pub nodes_more : (parts : List Expr) (i : ℕ) (e : Expr) → i < length parts → e ≡ get_or parts i e → sum_by nodes_of (take (i + 1) parts) ≡ sum_by nodes_of (take i parts) + nodes_of e
nodes_more parts i e lt at = sum_by_more nodes_of parts i e lt ∙ ap (λ d. sum_by nodes_of (take i parts) + nodes_of d) (sym at)

pub nodes_more_le : (parts : List Expr) (i : ℕ) (e : Expr) → i < length parts → e ≡ get_or parts i e → sum_by nodes_of (take i parts) + nodes_of e ≤ sum_by nodes_of parts
nodes_more_le parts i e lt at = subst (λ d. sum_by nodes_of (take i parts) + nodes_of d ≤ sum_by nodes_of parts) (sym at) (sum_by_more_le nodes_of parts i e lt)

pub below_at : {X : Type 0} (test : X → Bool) (xs : List X) (i : ℕ) (x : X) → i < length xs → x ≡ get_or xs i x → list_all test xs ≡ true → test x ≡ true
below_at test xs i x lt at all = elim (true_or_false (test x)) [
  | inl h ↦ h
  | inr h ↦ absurd (false≢true (sym (list_all_at test xs i x lt (ap test (sym at) ∙ h)) ∙ all))
]

pub class_below : (classes c : ℕ) (operands : List Expr) → (roles : ℕ) × ((nat_lt c classes && list_all (is_in_range classes roles) operands) ≡ true) → c < classes
class_below classes c operands (roles, h) = ltb-true c classes (and_parts (nat_lt c classes) (list_all (is_in_range classes roles) operands) h).0
