-- The generated document keeps to what a document is.
use Rattle.std.proofs.Common.{◌≡◌, ◌≢◌, ◌⊎◌, ℕ, zero, suc, ◌+◌, ◌*◌, ◌<◌, ◌≤◌, IsTrue, List, [], ◌++◌, length, take, refl, sym, ap, ◌∙◌, subst, inl, inr, arith}
use Rattle.std.specs.List.{All, AllPairs, list_all}
use Rattle.std.proofs.lemmas.List.{get_or_append_left, get_or-append-add}
use Rattle.cd_base.specs.Iri.{IsIri}
use Rattle.cd_meaning.specs.declared.expression.Axiom.{Axiom}
use Rattle.cd_meaning.specs.Hierarchy.{name_of}
use Rattle.cd_meaning.specs.Iri.{reserved_classes}
use Rattle.cd_meaning.specs.Nodes.{nodes}
use Rattle.cd_meaning.specs.Numbered.{has_numbers_below}
use Rattle.cd_gen.specs.Generated.{level_classes, generated_classes, generated_roles, generated_axioms, IsLevelNamed}
use Rattle.cd_gen.proofs.Levels.{levels_more}
use Rattle.cd_gen.proofs.GeneratedAxioms.{length_axioms, axioms_nodes, axioms_numbered}
use Rattle.cd_gen.proofs.GeneratedNames.{length_classes, classes_iris, classes_distinct, roles_distinct}

-- ---- the numbers of names

before_or_at : (level n : ℕ) → level < suc n → (level < n) ⊎ (level ≡ n)
before_or_at zero zero h = inr refl
before_or_at zero (suc n) h = inl (omega arith)
before_or_at (suc level) zero h = absurd (omega arith)
before_or_at (suc level) (suc n) h = elim (before_or_at level n (omega arith)) [
  | inl before ↦ inl (omega arith)
  | inr at ↦ inr (ap (λ (k : ℕ). suc k) at)
]

classes_more : (n : ℕ) → generated_classes (suc n) ≡ generated_classes n ++ level_classes n
classes_more n = ap (λ (l : List (List ℕ)). generated_classes 0 ++ l) (levels_more level_classes n)

named_at : (n level j : ℕ) → level < n → j < 4 → name_of (generated_classes n) (4 * level + 4 + j) ≡ name_of (level_classes level) j
named_at zero level j h within = absurd (omega arith)
named_at (suc n) level j h within =
    ap (λ (l : List (List ℕ)). name_of l (4 * level + 4 + j)) (classes_more n)
    ∙ elim (before_or_at level n h) [
      | inl before ↦ get_or_append_left (generated_classes n) (level_classes n) [] (4 * level + 4 + j) (omega (arith, length_classes n)) ∙ named_at n level j before within
      | inr at ↦
          let place : 4 * level + 4 + j ≡ length (generated_classes n) + j = omega (arith, length_classes n) in
          ap (λ (k : ℕ). name_of (generated_classes n ++ level_classes n) k) place
          ∙ get_or-append-add (generated_classes n) (level_classes n) j [] ∙ ap (λ (l : ℕ). name_of (level_classes l) j) (sym at)
    ]

level_numbered : (n level : ℕ) → level < n → IsLevelNamed (generated_classes n) level
level_numbered n level h =
    let at : (k j : ℕ) → 4 * level + 4 + j ≡ k → j < 4 → name_of (generated_classes n) k ≡ name_of (level_classes level) j
    = λ k j e within. ap (name_of (generated_classes n)) (sym e) ∙ named_at n level j h within in
    record { a = at _ 0 (omega arith) (omega arith); b = at _ 1 (omega arith) (omega arith); c = at _ 2 (omega arith) (omega arith); u = at _ 3 (omega arith) (omega arith) }

-- ---- the whole

pub record IsWhole (n : ℕ) (axioms : List Axiom) (classes roles : List (List ℕ)) : Type 0 where
  pub in_range : IsTrue (list_all (has_numbers_below (length classes) (length roles)) axioms)
  pub two_roles : length roles ≡ 2
  pub reserved : take 2 classes ≡ reserved_classes
  pub distinct_classes : AllPairs (λ a b. a ≢ b) classes
  pub distinct_roles : AllPairs (λ a b. a ≢ b) roles
  pub numbered : (level : ℕ) → level < n → IsLevelNamed classes level
  pub class_count : length classes ≡ 4 * n + 4
  pub axiom_count : length axioms ≡ 6 * n + 1
  pub node_count : nodes axioms ≡ 21 * n + 1
  pub iris : All IsIri classes

generated_whole : (n : ℕ) → 1 ≤ n → n ≤ 20000 → IsWhole n (generated_axioms n) (generated_classes n) generated_roles
generated_whole n least most = record {
  in_range = axioms_numbered (length (generated_classes n)) n (omega (arith, length_classes n));
  two_roles = refl;
  reserved = refl;
  distinct_classes = classes_distinct n (omega arith);
  distinct_roles = roles_distinct;
  numbered = level_numbered n;
  class_count = length_classes n;
  axiom_count = length_axioms n least;
  node_count = axioms_nodes n least;
  iris = classes_iris n (omega arith);
}

pub whole : (n : ℕ) (axioms : List Axiom) (classes roles : List (List ℕ)) → 1 ≤ n → n ≤ 20000
    → axioms ≡ generated_axioms n → classes ≡ generated_classes n → roles ≡ generated_roles → IsWhole n axioms classes roles
whole n axioms classes roles least most axioms_are classes_are roles_are =
    subst (λ (l : List (List ℕ)). IsWhole n axioms classes l) (sym roles_are)
    (subst (λ (l : List (List ℕ)). IsWhole n axioms l generated_roles) (sym classes_are)
    (subst (λ (l : List Axiom). IsWhole n l (generated_classes n) generated_roles) (sym axioms_are) (generated_whole n least most)))
