-- The axioms of the generated document: how many, how many nodes, and that their numbers are in range.
use Rattle.std.proofs.Common.{◌≡◌, ℕ, zero, suc, ◌+◌, ◌*◌, ◌-◌, ◌<◌, ◌≤◌, ◌&&◌, cond, Bool, true, List, [], ◌∷◌, ◌++◌, length, flat_map, refl, ap, ◌∙◌, arith}
use Rattle.std.specs.List.{list_all, range_with_len}
use Rattle.std.proofs.lemmas.Bool.{and_from, lt-ltb, ne_eqb}
use Rattle.std.proofs.lemmas.List.{length-append}
use Rattle.std.proofs.lemmas.List.Folds.{list_all-append}
use Rattle.std.proofs.lemmas.List.Sums.{sum_by-append}
use Rattle.cd_meaning.specs.declared.expression.Axiom.{Axiom}
use Rattle.cd_meaning.specs.declared.expression.Axiom.TheVariants.{SubClass, Disjoint}
use Rattle.cd_meaning.specs.declared.expression.Expr.TheVariants.{Name, Join, SomeOf}
use Rattle.cd_meaning.specs.Nodes.{nodes, nodes_in}
use Rattle.cd_meaning.specs.NodesTable.{nodes-Name, nodes-Join, nodes-SomeOf, below-Name, below-Join, below-SomeOf}
use Rattle.cd_meaning.specs.Numbered.{is_in_range, has_numbers_below}
use Rattle.cd_gen.specs.Generated.{class_a, class_b, class_c, class_u, class_d, class_e, role_r, role_s, class_axioms, edge_axioms, level_axioms, generated_axioms}
use Rattle.cd_gen.proofs.Levels.{levels_more}

abbrev levels : ℕ → List Axiom
levels n = flat_map level_axioms (range_with_len 0 n)

abbrev edge_axiom : ℕ → Axiom
edge_axiom level = SubClass (Name (class_a (suc level))) (SomeOf role_r (Name (class_a level)))

edge_is : (level : ℕ) → edge_axioms (suc level) ≡ edge_axiom level ∷ []
edge_is level =
    let after : ℕ → List Axiom = λ before. SubClass (Name (class_a (suc level))) (SomeOf role_r (Name (class_a before))) ∷ [] in
    let none : List Axiom = [] in
    ap (λ (t : Bool). cond t none (after (suc level - 1))) (ne_eqb (suc level) 0 (λ e. absurd (omega arith)))
    ∙ ap after (let e : suc level - 1 ≡ level = omega arith in e)

-- ---- how many

length_level : (level : ℕ) → length (level_axioms (suc level)) ≡ 6
length_level level = ap (λ (l : List Axiom). length (class_axioms (suc level) ++ l)) (edge_is level)

length_levels : (n : ℕ) → length (levels (suc n)) ≡ 6 * n + 5
length_levels zero = refl
length_levels (suc n) =
    ap length (levels_more level_axioms (suc n)) ∙ length-append (levels (suc n)) (level_axioms (suc n))
    ∙ (let e : length (levels (suc n)) + length (level_axioms (suc n)) ≡ 6 * suc n + 5 = omega (arith, length_levels n, length_level n) in e)

pub length_axioms : (n : ℕ) → 1 ≤ n → length (generated_axioms n) ≡ 6 * n + 1
length_axioms zero h = absurd (omega arith)
length_axioms (suc n) h = omega (arith, length_levels n)

-- ---- how many nodes

class_nodes : (level : ℕ) → nodes (class_axioms level) ≡ 17
class_nodes level = simp (nodes-Name, nodes-Join)

edge_nodes : (level : ℕ) → nodes (edge_axioms (suc level)) ≡ 4
edge_nodes level = ap nodes (edge_is level) ∙ simp (nodes-Name, nodes-SomeOf)

level_nodes : (level : ℕ) → nodes (level_axioms (suc level)) ≡ 21
level_nodes level = omega (arith, sum_by-append nodes_in (class_axioms (suc level)) (edge_axioms (suc level)), class_nodes (suc level), edge_nodes level)

levels_nodes : (n : ℕ) → nodes (levels (suc n)) ≡ 21 * n + 17
levels_nodes zero = class_nodes 0
levels_nodes (suc n) =
    ap nodes (levels_more level_axioms (suc n)) ∙ sum_by-append nodes_in (levels (suc n)) (level_axioms (suc n))
    ∙ (let e : nodes (levels (suc n)) + nodes (level_axioms (suc n)) ≡ 21 * suc n + 17 = omega (arith, levels_nodes n, level_nodes n) in e)

first_nodes : nodes (generated_axioms 0) ≡ 5
first_nodes = simp (nodes-Name, nodes-SomeOf)

pub axioms_nodes : (n : ℕ) → 1 ≤ n → nodes (generated_axioms n) ≡ 21 * n + 1
axioms_nodes zero h = absurd (omega arith)
axioms_nodes (suc n) h =
    sum_by-append nodes_in (generated_axioms 0) (levels (suc n))
    ∙ (let e : nodes (generated_axioms 0) + nodes (levels (suc n)) ≡ 21 * suc n + 1 = omega (arith, first_nodes, levels_nodes n) in e)

-- ---- numbers in range

all_five : (p q r s t : Bool) → p ≡ true → q ≡ true → r ≡ true → s ≡ true → t ≡ true → (p && (q && (r && (s && (t && true))))) ≡ true
all_five p q r s t hp hq hr hs ht =
    and_from p (q && (r && (s && (t && true)))) hp (and_from q (r && (s && (t && true))) hq (and_from r (s && (t && true)) hr
    (and_from s (t && true) hs (and_from t true ht refl))))

module _ (classes : ℕ) where
  named : (c : ℕ) → c < classes → is_in_range classes 2 (Name c) ≡ true
  named c h = below-Name classes 2 c ∙ lt-ltb c classes h

  both_named : (c d : ℕ) → c < classes → d < classes → list_all (is_in_range classes 2) (Name c ∷ Name d ∷ []) ≡ true
  both_named c d hc hd = and_from (is_in_range classes 2 (Name c)) (is_in_range classes 2 (Name d) && true) (named c hc) (and_from (is_in_range classes 2 (Name d)) true (named d hd) refl)

  below_named : (c d : ℕ) → c < classes → d < classes → has_numbers_below classes 2 (SubClass (Name c) (Name d)) ≡ true
  below_named c d hc hd = and_from (is_in_range classes 2 (Name c)) (is_in_range classes 2 (Name d)) (named c hc) (named d hd)

  edge_named : (r c : ℕ) → r < 2 → c < classes → is_in_range classes 2 (SomeOf r (Name c)) ≡ true
  edge_named r c hr hc = below-SomeOf classes 2 r (Name c) ∙ and_from _ _ (lt-ltb r 2 hr) (named c hc)

  abbrev passes : Axiom → Bool
  passes = has_numbers_below classes 2

  class_numbered : (level : ℕ) → 4 * level + 8 ≤ classes → list_all passes (class_axioms level) ≡ true
  class_numbered level h =
      let a = class_a level in
      let b = class_b level in
      let c = class_c level in
      let u = class_u level in
      let union : is_in_range classes 2 (Join (Name b ∷ Name c ∷ [])) ≡ true
      = below-Join classes 2 (Name b ∷ Name c ∷ []) ∙ both_named b c (omega arith) (omega arith) in
      all_five (passes (SubClass (Name a) (Join (Name b ∷ Name c ∷ [])))) (passes (SubClass (Name b) (Name class_d))) (passes (SubClass (Name c) (Name class_d)))
      (passes (SubClass (Name u) (Name a))) (passes (Disjoint (Name u ∷ Name class_d ∷ [])))
      (and_from (is_in_range classes 2 (Name a)) (is_in_range classes 2 (Join (Name b ∷ Name c ∷ []))) (named a (omega arith)) union)
      (below_named b class_d (omega arith) (omega arith)) (below_named c class_d (omega arith) (omega arith))
      (below_named u a (omega arith) (omega arith)) (both_named u class_d (omega arith) (omega arith))

  edge_numbered : (level : ℕ) → 4 * level + 8 ≤ classes → list_all passes (edge_axioms level) ≡ true
  edge_numbered zero h = refl
  edge_numbered (suc level) h =
      ap (list_all passes) (edge_is level)
      ∙ and_from (passes (edge_axiom level)) true
      (and_from (is_in_range classes 2 (Name (class_a (suc level)))) (is_in_range classes 2 (SomeOf role_r (Name (class_a level))))
      (named (class_a (suc level)) (omega arith)) (edge_named role_r (class_a level) (omega arith) (omega arith))) refl

  levels_numbered : (n : ℕ) → 4 * n + 4 ≤ classes → list_all passes (levels n) ≡ true
  levels_numbered zero h = refl
  levels_numbered (suc n) h =
      ap (list_all passes) (levels_more level_axioms n) ∙ list_all-append passes (levels n) (level_axioms n)
      ∙ and_from (list_all passes (levels n)) (list_all passes (level_axioms n)) (levels_numbered n (omega arith))
      (list_all-append passes (class_axioms n) (edge_axioms n)
      ∙ and_from (list_all passes (class_axioms n)) (list_all passes (edge_axioms n)) (class_numbered n (omega arith)) (edge_numbered n (omega arith)))

  pub axioms_numbered : (n : ℕ) → 4 * n + 4 ≤ classes → list_all passes (generated_axioms n) ≡ true
  axioms_numbered n h =
      let edge = SubClass (SomeOf role_s (Name class_d)) (Name class_e) in
      and_from (passes edge) (list_all passes (levels n))
      (and_from (is_in_range classes 2 (SomeOf role_s (Name class_d))) (is_in_range classes 2 (Name class_e))
      (edge_named role_s class_d (omega arith) (omega arith)) (named class_e (omega arith)))
      (levels_numbered n h)
