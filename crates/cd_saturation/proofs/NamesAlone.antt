-- By a document of named classes there are few contexts, and few facts in each, so no maximum within which it is, is reached.
use Rattle.std.proofs.Common.{◌≡◌, ℕ, suc, ◌+◌, ◌*◌, ◌<◌, ◌≤◌, min, List, [], ◌∷◌, map, length, reverse, sym, ◌∙◌, ap, subst, inl, inr, arith}
use Rattle.std.specs.List.{All, sum_by}
use Rattle.std.proofs.lemmas.List.{length-map, length-reverse, reverse-reverse}
use Rattle.std.proofs.lemmas.List.Sums.{sum_by-le}
use Rattle.std.proofs.lemmas.Nat.{mul-le}
use Rattle.cd_base.specs.Counts.{last}
use Rattle.cd_base.specs.Keys.{plain}
use Rattle.cd_base.specs.Lists.{OneOf}
use Rattle.cd_base.specs.declared.limit_kind.LimitKind.{LimitKind}
use Rattle.cd_base.specs.declared.limit_kind.LimitKind.TheVariants.{Contexts, Facts}
use Rattle.cd_base.specs.declared.normal.Normal.{Normal}
use Rattle.cd_base.proofs.Members.{all_from_member, map_member, member_map}
use Rattle.cd_cell.specs.Counts.{AreContexts}
use Rattle.cd_clause.specs.declared.elem.Elem.{Elem}
use Rattle.cd_context.specs.Facts.{count}
use Rattle.cd_context.specs.Justified.{IsContext}
use Rattle.cd_context.specs.State.{State}
use Rattle.cd_context.proofs.Justify.{member_reversed, stored_derived}
use Rattle.cd_meaning.specs.declared.document.Document.{Document}
use Rattle.cd_model.specs.Canonical.{numbers_below}
use Rattle.cd_normal.specs.NormalForm.{IsStructuralNormalForm}
use Rattle.cd_saturation.specs.Answerable.{IsOfNames, NamesAreAnswerable, disjoint_operands}
use Rattle.cd_saturation.specs.Limit.{HasReached}
use Rattle.cd_saturation.proofs.NoChoice.{atoms, below_member, class_in, few_atoms, length-numbers_below, no_choice}
use Rattle.cd_saturation.proofs.Documents.{named_is_class}
use Rattle.cd_saturation.proofs.FewStored.{IsFew, few_stored, no_longer}
use Rattle.cd_saturation.proofs.UnitClauses.{IsUnit, derived_unit, empty_of, name_alone, none_derived}

member_turned : {X : Type 0} (x : X) (xs : List X) → OneOf x (reverse xs) → OneOf x xs
member_turned x xs m = subst (OneOf x) (reverse-reverse xs) (member_reversed x (reverse xs) m)

clauses_alone : (clauses links backs sures deads most : ℕ) → links ≡ 0 → backs ≡ 0 → sures ≡ 0 → deads ≡ 0 → clauses ≤ most
    → min (clauses + (links + (backs + (sures + deads)))) last ≤ most
clauses_alone clauses links backs sures deads most l b s d h = omega arith

module _ (document : Document) (n : Normal) (form : IsStructuralNormalForm document n) (names : All IsOfNames document.axioms) where
  abbrev classes : ℕ
  classes = length document.classes

  abbrev most : ℕ
  most = classes + disjoint_operands document.axioms + 1

  abbrev all : List ℕ
  all = atoms document n form names

  -- the key of a class alone
  its_class : (s : State) → IsContext n s → (a : ℕ) × (a < classes) × (s.key ≡ plain a ∷ [])
  its_class s c = let w = name_alone n all (no_choice document n form names) s.key c.reachable in (w.0, named_is_class document n form w.0 w.1, w.2)

  few_clauses : (s : State) → IsContext n s → length s.clauses ≤ suc (length all)
  few_clauses s c =
      let l = few_stored all (reverse s.clauses) (λ d m. of_all d (derived_unit n all (no_choice document n form names) s.key d (stored_derived n s c d (member_turned d s.clauses m)))) c.store.apart in
      omega (arith, l, length-reverse s.clauses)
    where
      w : (a : ℕ) × (a < classes) × (s.key ≡ plain a ∷ [])
      w = its_class s c

      of_key : (a : ℕ) → OneOf (plain a) s.key → OneOf a all
      of_key a m = elim (subst (OneOf (plain a)) w.2 m) [
        | inl e ↦ (let q : a ≡ w.0 = omega (arith, e) in subst (λ b. OneOf b all) (sym q) (class_in document n form names w.0 w.1))
        | inr z ↦ absurd z
      ]

      of_all : (d : List Elem) → IsUnit all s.key d → IsFew all d
      of_all d (inl none) = inl none
      of_all d (inr u) = inr (u.0, u.1, elim u.2 [ inl m ↦ of_key u.0 m | inr m ↦ m ])

  few_facts : (s : State) → IsContext n s → count s ≤ most
  few_facts s c =
      clauses_alone (length s.clauses) (length s.links) (length s.backs) (length s.sures) (length s.deads) most
      (ap length (empty_of s.links (λ f m. none_derived n all (no_choice document n form names) f.key f.role s.key (c.links f.key f.role m).1)))
      (ap length (empty_of s.backs (λ f m. none_derived n all (no_choice document n form names) s.key f.role f.key (c.backs f.role f.key f.atom m).1)))
      (ap length (empty_of s.sures (λ f m. none_derived n all (no_choice document n form names) s.key f.role f.key (c.sures f.role f.key f.atom m).1)))
      (ap length (empty_of s.deads (λ f m. none_derived n all (no_choice document n form names) s.key f.role f.key (c.deads f.role f.key m).1)))
      (omega (arith, few_clauses s c, few_atoms document n form names))

  few_contexts : (states : List State) → AreContexts n states → length states ≤ classes
  few_contexts states are =
      let key_of : State → List ℕ = λ s. s.key in
      let key_at : ℕ → List ℕ = λ a. plain a ∷ [] in
      let l = no_longer (map key_of states) (map key_at (numbers_below classes)) are.apart (λ k m.
      let s = map_member key_of k states m in
      let w = its_class s.0 (are.each s.0 s.1) in
      subst (λ j. OneOf j (map key_at (numbers_below classes))) (sym (s.2 ∙ w.2)) (member_map key_at w.0 (numbers_below classes) (below_member w.0 classes w.1))) in
      omega (arith, l, length-map states key_of, length-map (numbers_below classes) key_at, length-numbers_below classes)

  few_in_all : (states : List State) → AreContexts n states → sum_by count states ≤ classes * most
  few_in_all states are =
      let l = sum_by-le count most states (all_from_member (λ s. count s ≤ most) states (λ s m. few_facts s (are.each s m))) in
      let r = mul-le (length states) most classes most (few_contexts states are) (omega arith) in
      omega (arith, l, r)

  none_reached : (max_contexts max_facts : ℕ) → classes < max_contexts → classes * most < max_facts → (kind : LimitKind) (number : ℕ) → HasReached n max_contexts max_facts kind number → ⊥
  none_reached max_contexts max_facts contexts facts Contexts number ((states, are, le), reached) = let l = few_contexts states are in omega (arith, l, le, reached, contexts)
  none_reached max_contexts max_facts contexts facts Facts number ((states, are, le), reached) = let l = few_in_all states are in omega (arith, l, le, reached, facts)

pub names_answerable : NamesAreAnswerable
names_answerable document max_contexts max_facts small kind number (n, form, reached) =
    none_reached document n form small.names max_contexts max_facts small.contexts small.facts kind number reached
