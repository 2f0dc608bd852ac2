use Rattle.std.proofs.Common.{ℕ, ◌<◌, List, length, get_or, refl, sym, ◌∙◌, ap, subst, arith}
use Rattle.std.proofs.lemmas.Bool.{both_ways}
use Rattle.cd_base.specs.Lists.{OneOf}
use Rattle.cd_base.specs.declared.normal.Conj.{Conj}
use Rattle.cd_base.specs.declared.normal.Normal.{Normal}
use Rattle.cd_base.proofs.Members.{member_get}
use Rattle.cd_index.specs.Index.{left_of}
use Rattle.cd_rules.specs.LookUps.{filed_at}
use Rattle.cd_rules.proofs.Gathered.{gather_ends, gather_passes, gather_pushes}
use Rattle.cd_rules.proofs.Tried.{OfFound, found_whole}
use Rattle.cd_rules.proofs.candidates.push_filed.Goals as goal
use Rattle.cd_rules.proofs.candidates.push_filed.Goals.{then-has_on_left+in_ok-push, else-has_on_left}

pub has_on_left-requires : goal.has_on_left-requires
has_on_left-requires c =
    let same = c.items-axioms.ensures ∙ ap (λ (n : Normal). n.n1) c.normal.ensures in
    let k : ℕ = get_or c.filed-found.result.now c.found.i 0 in
    subst (λ (l : List Conj). k < length l) (sym same) (c.filed-found.ensures.numbers k (member_get c.filed-found.result.now c.found.i 0 c.found-test.true))

pub found-preserved : goal.found-preserved
found-preserved c =
    let same = c.items-axioms.ensures ∙ ap (λ (n : Normal). n.n1) c.normal.ensures in
    let axioms = c.args.index.now.normal.n1 in
    let atom = c.args.atom in
    let k : ℕ = get_or c.filed-found.result.now c.found.i 0 in
    elim c.if-has_on_left.branch [
      | then-has_on_left+in_ok-push w ↦ rw w.numbers-is
          (gather_pushes (OfFound axioms c.filed-found.result.now atom) c.found.i c.args.numbers.now.items c.found.numbers.items c.found.invariant w.push.new.self.items k
          w.in_ok-push.ensures.items (refl, subst (λ (l : List Conj). OneOf atom (left_of l k)) same (c.has_on_left.ensures.0 w.if-has_on_left.true)) (λ b q. q.0))
      | else-has_on_left w ↦ rw w.numbers-is
          (gather_passes (OfFound axioms c.filed-found.result.now atom) c.found.i c.args.numbers.now.items c.found.numbers.items c.found.invariant
          (λ b q. both_ways c.has_on_left.result w.if-has_on_left.false
          (c.has_on_left.ensures.1 (subst (λ (l : List Conj). OneOf atom (left_of l k)) (sym same) (subst (λ (j : ℕ). OneOf atom (left_of axioms j)) q.0 q.1)))))
    ]

pub returns : goal.returns
returns c =
    let axioms = c.args.index.now.normal.n1 in
    let atom = c.args.atom in
    let there = filed_at c.args.index.now.filed c.args.index.now.normal.atoms c.args.under in
    gather_ends (OfFound axioms c.filed-found.result.now atom) c.found.i (length c.filed-found.result.now) c.args.numbers.now.items c.found.numbers.items
    (λ (k : ℕ). OneOf k there × OneOf atom (left_of axioms k)) c.found.invariant (omega (arith, c.found-test.false))
    (λ k. let w = found_whole axioms c.filed-found.result.now atom k in (
      λ q. (subst (OneOf k) c.filed-found.ensures.list (w.0 q).0, (w.0 q).1),
      λ q. w.1 (subst (OneOf k) (sym c.filed-found.ensures.list) q.0, q.1),
    ))
