use Rattle.std.proofs.Common.{◌≡◌, [], List, ℕ, length, get_or, subst, sym, ◌∙◌, eqb-true, arith}
use Rattle.std.specs.List.{Contains}
use Rattle.std.specs.List.Sorted.{IsNonDecreasing, IsPermutation, IsSorted}
use Rattle.std.specs.Ordering.{nat_cmp}
use Rattle.std.proofs.lemmas.List.{get_or_default, nil_from_length}
use Rattle.std.proofs.lemmas.List.Sorted.{Contains-permutation, IsPermutation-sym, IsNonDecreasingBy-from_sort}
use Rattle.std.proofs.lemmas.Result.{IfOk-weaker}
use Rattle.cd_index.proofs.Reached.{leads_nowhere}
use Rattle.cd_index.proofs.walk.roles_above.Goals as goal

pub returns-then-is_empty-clause-exact : goal.returns-then-is_empty-clause-exact
returns-then-is_empty-clause-exact c s =
    let told = c.args.told.now in
    let none : c.of.result ≡ [] = c.of.ensures ∙ c.new.ensures.items in
    let bare : c.items.result.now ≡ [] = nil_from_length c.items.result.now (eqb-true (length c.items.result.now) 0 (sym c.is_empty.ensures ∙ c.if-is_empty.true)) in
    let list : get_or told c.args.role [] ≡ []
    = sym (c.items.ensures ∙ c.index-told-role.is ∙ get_or_default told c.args.role c.index-told-role.result [] c.requires.role) ∙ bare in (
      λ h. let empty : Contains {X = ℕ} [] s = subst (λ (l : List ℕ). Contains l s) none h in absurd (omega (arith, empty.1)),
      λ leads. absurd (leads_nowhere told c.args.role list s leads),
    )

pub returns-clause-sorted : goal.returns-clause-sorted
returns-clause-sorted c =
    IfOk-weaker c.ascending.result (IsSorted nat_cmp) IsNonDecreasing (λ xs h. IsNonDecreasingBy-from_sort (λ x. x) xs h) c.ascending.ensures.sorted

pub returns-clause-exact : goal.returns-clause-exact
returns-clause-exact c =
    let ks = c.in_ok-reached.reached.keys in
    IfOk-weaker c.ascending.result (IsPermutation c.as_slice.result.now) _
    (λ xs h s.
    let same : IsPermutation ks xs = subst (λ (l : List ℕ). IsPermutation l xs) c.as_slice.ensures.keys h in (
      λ has. (c.in_ok-reached.ensures s).0 (Contains-permutation xs ks s (IsPermutation-sym ks xs same) has),
      λ leads. Contains-permutation ks xs s same ((c.in_ok-reached.ensures s).1 leads),
    ))
    c.ascending.ensures.same
