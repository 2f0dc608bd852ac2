use Rattle.std.proofs.Common.{◌≡◌, ℕ, ◌+◌, ◌↔◌, List, length, subst, sym, ap, ◌∙◌, arith}
use Rattle.std.specs.List.{Contains}
use Rattle.std.specs.List.Sorted.{IsNonDecreasing}
use Rattle.std.proofs.lemmas.List.{length_push}
use Rattle.std.proofs.lemmas.List.Elements.{All-push, All-same}
use Rattle.cd_index.specs.Closure.{IsClosureOf}
use Rattle.cd_index.specs.Walk.{AreWithin, Leads}
use Rattle.cd_index.proofs.Closed.{leads_more, closure_is}
use Rattle.cd_index.proofs.Told.{told_within}
use Rattle.cd_index.proofs.closure.Closure.of.Goals as goal

pub roles_above-requires-clause-within : goal.roles_above-requires-clause-within
roles_above-requires-clause-within c =
    subst AreWithin (sym c.as_slice.ensures.value) (told_within c.args.roles c.args.pairs.now c.in_ok-told.told.items c.requires c.in_ok-told.ensures)

pub loop-role-preserved : goal.loop-role-preserved
loop-role-preserved c =
    let above = c.loop-role.above.items in
    let list = c.in_ok-roles_above.field-0 in
    record {
      each = ap length c.in_ok-push.ensures.items ∙ length_push above list ∙ ap (λ (k : ℕ). k + 1) c.loop-role.invariant.each;
      sorted = All-same IsNonDecreasing c.push.new.self.items _ c.in_ok-push.ensures.items
          (All-push IsNonDecreasing above list c.loop-role.invariant.sorted c.in_ok-roles_above.ensures.sorted);
      exact = leads_more c.in_ok-told.told.items above c.push.new.self.items c.loop-role.role list c.loop-role.invariant.each c.in_ok-push.ensures.items
          c.loop-role.invariant.exact
          (λ s. subst (λ (told : List (List ℕ)). Contains list s ↔ Leads told c.loop-role.role s) c.as_slice.ensures.value (c.in_ok-roles_above.ensures.exact s));
    }

pub returns : goal.returns
returns c =
    let above = c.loop-role.above.items in
    let told = c.in_ok-told.told.items in
    let whole : c.loop-role.role ≡ c.args.roles = omega arith in
    subst (λ (l : List (List ℕ)). IsClosureOf l c.args.roles c.args.pairs.now) (sym c.of.ensures)
    (closure_is c.args.roles c.args.pairs.now told above c.requires c.in_ok-told.ensures (c.loop-role.invariant.each ∙ whole)
    (λ r s lt. c.loop-role.invariant.exact r s (omega arith)))
