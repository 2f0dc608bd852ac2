use Rattle.std.proofs.Common.{◌↔◌, ℕ, List, subst, sym}
use Rattle.cd_base.specs.Lists.{OneOf}
use Rattle.cd_base.proofs.Members.{not_true}
use Rattle.cd_store.proofs.Leasts.{some_listed, sifts_none}
use Rattle.cd_store.proofs.Helpers.{sifted}
use Rattle.cd_store.specs.Sift.{IsCovered, Leaves}
use Rattle.cd_store.proofs.store.replace.Goals as goal

pub returns-then-is_empty-clause-ok : goal.returns-then-is_empty-clause-ok
returns-then-is_empty-clause-ok c =
    let live = c.args.live.now.items in let cs = c.args.clauses.now in
    let dead = c.in_ok-dead.dead.items in
    let h : (n : ℕ) → OneOf n dead ↔ IsCovered cs live c.args.clause.now n
    = subst (λ (l : List ℕ). (n : ℕ) → OneOf n dead ↔ IsCovered cs l c.args.clause.now n) c.as_slice.ensures.value c.in_ok-dead.ensures in (
      live,
      sifts_none cs c.args.clause.now live (λ n m w. not_true c.is_empty.result (some_listed c.as_slice-2.result.now dead c.is_empty.result n c.as_slice-2.ensures.value c.is_empty.ensures ((h n).1 (m, w))) c.if-is_empty.true),
      c.in_ok-push.ensures.items,
    )

pub returns-clause-ok : goal.returns-clause-ok
returns-clause-ok c =
    let live = c.args.live.now.items in let cs = c.args.clauses.now in
    let dead = c.in_ok-dead.dead.items in
    let h : (n : ℕ) → OneOf n dead ↔ IsCovered cs live c.args.clause.now n
    = subst (λ (l : List ℕ). (n : ℕ) → OneOf n dead ↔ IsCovered cs l c.args.clause.now n) c.as_slice.ensures.value c.in_ok-dead.ensures in
    let leaves : Leaves dead live c.in_ok-after.after.items
    = subst (λ (l : List ℕ). Leaves l live c.in_ok-after.after.items) c.as_slice-4.ensures.value
    (subst (λ (l : List ℕ). Leaves c.as_slice-4.result.now l c.in_ok-after.after.items) c.as_slice-3.ensures.value c.in_ok-after.ensures) in
    (c.in_ok-after.after.items, sifted cs c.args.clause.now live dead c.in_ok-after.after.items h leaves, c.in_ok-push-2.ensures.items)

pub sift-requires-clause-dead : goal.sift-requires-clause-dead
sift-requires-clause-dead c = λ n.
    let cs = c.args.clauses.now in let clause = c.args.clause.now in
    let h : OneOf n c.in_ok-dead.dead.items ↔ IsCovered cs c.args.live.now.items clause n
    = subst (λ (l : List ℕ). OneOf n c.in_ok-dead.dead.items ↔ IsCovered cs l clause n) c.as_slice.ensures.value (c.in_ok-dead.ensures n) in
    subst (λ (l : List ℕ). OneOf n l ↔ IsCovered cs c.as_slice-3.result.now clause n) (sym c.as_slice-4.ensures.value)
    (subst (λ (l : List ℕ). OneOf n c.in_ok-dead.dead.items ↔ IsCovered cs l clause n) (sym c.as_slice-3.ensures.value) h)

pub sift-requires-clause-range : goal.sift-requires-clause-range
sift-requires-clause-range c = λ n m. c.requires.store.in_range n (subst (λ (l : List ℕ). OneOf n l) c.as_slice-3.ensures.value m)
