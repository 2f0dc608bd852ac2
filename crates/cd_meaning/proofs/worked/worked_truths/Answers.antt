use Rattle.std.proofs.Common.{◌≡◌, ◌≢◌, ◌+◌, ℕ, [], ◌∷◌, false, refl, sym, ap, ◌∙◌, arith}
use Rattle.std.proofs.lemmas.Bool.{false≢true}
use Rattle.cd_meaning.specs.declared.expression.Expr.TheVariants.{Name, Join}
use Rattle.cd_meaning.specs.Nodes.{nodes_of}
use Rattle.cd_meaning.specs.NodesTable.{nodes-Name, nodes-SomeOf}
use Rattle.cd_meaning.specs.Truth.{IsDistinctlyApart}
use Rattle.cd_meaning.specs.Worked.{ann, bob, family, owl_thing, owl_nothing, person, parent, child, has_child, has_kid, knows, with_child}
use Rattle.cd_meaning.proofs.WorkedFamily.{Tested, name, join, some, below, apart_itself, common, sub_role, domain, range, refuted, of_two, differ_at, same_as, same_members, all_apart, same_edges}
use Rattle.cd_meaning.proofs.worked.worked_truths.Goals as goal

-- who has a child is tested
abbrev with_child_tested : Tested with_child
with_child_tested = some has_child owl_thing (name 0)

-- who has a child is a parent, but not by the same tree
two_trees : parent ≢ with_child
two_trees e =
    let n : 1 ≡ 1 + 1 = sym (nodes-Name 3) ∙ ap nodes_of e ∙ nodes-SomeOf has_child owl_thing ∙ ap (λ k. 1 + k) (nodes-Name 0) in
    omega (arith, n)

two_classes : parent ≢ person
two_classes = differ_at parent person (name 3) (name 2) bob false≢true

-- the union of two classes
abbrev union_tested : (c d : ℕ) → Tested (Join (Name c ∷ Name d ∷ []))
union_tested c d = join (Name c) (Name d) (name c) (name d)

pub returns-clause-sub_class : goal.returns-clause-sub_class
returns-clause-sub_class c = ((below parent person (name 3) (name 2)).0 refl, refuted false (below person parent (name 2) (name 3)) refl)

pub returns-clause-same_classes : goal.returns-clause-same_classes
returns-clause-same_classes c = (
  (same_members parent with_child (name 3) with_child_tested).0 refl,
  refuted false (same_members parent person (name 3) (name 2)) refl,
)

pub returns-clause-disjoint : goal.returns-clause-disjoint
returns-clause-disjoint c = (
  all_apart parent child (name 3) (name 4) refl,
  common parent person (name 3) (name 2) ann (omega arith) refl two_classes,
)

pub returns-clause-disjoint_trees : goal.returns-clause-disjoint_trees
returns-clause-disjoint_trees c = (
  of_two (IsDistinctlyApart family) parent parent (apart_itself parent) (apart_itself parent) (apart_itself parent) (apart_itself parent),
  common parent with_child (name 3) with_child_tested ann (omega arith) refl two_trees,
)

pub returns-clause-disjoint_union : goal.returns-clause-disjoint_union
returns-clause-disjoint_union c = (
  (
    same_as person (Join (parent ∷ child ∷ [])) (name 2) (union_tested 3 4) refl,
    all_apart parent child (name 3) (name 4) refl,
  ),
  λ h. common parent person (name 3) (name 2) ann (omega arith) refl two_classes h.1,
)

pub returns-clause-whole_union : goal.returns-clause-whole_union
returns-clause-whole_union c = (
  (
    same_as parent (Join (parent ∷ owl_nothing ∷ [])) (name 3) (union_tested 3 1) refl,
    all_apart parent owl_nothing (name 3) (name 1) refl,
  ),
  λ h. refuted false (below person (Join (parent ∷ owl_nothing ∷ [])) (name 2) (union_tested 3 1)) refl h.0.0,
)

pub returns-clause-sub_role : goal.returns-clause-sub_role
returns-clause-sub_role c = ((sub_role has_child knows).0 refl, refuted false (sub_role knows has_child) refl)

pub returns-clause-same_roles : goal.returns-clause-same_roles
returns-clause-same_roles c = ((same_edges has_child has_kid).0 refl, refuted false (same_edges has_child knows) refl)

pub returns-clause-domain : goal.returns-clause-domain
returns-clause-domain c = ((domain has_child parent (name 3)).0 refl, refuted false (domain has_child child (name 4)) refl)

pub returns-clause-range : goal.returns-clause-range
returns-clause-range c = ((range has_child child (name 4)).0 refl, refuted false (range has_child parent (name 3)) refl)
