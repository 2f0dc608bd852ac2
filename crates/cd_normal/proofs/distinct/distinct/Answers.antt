use Rattle.std.proofs.Common.{rules, ◌<◌, ◌≡◌, ℕ, Bool, ◌||◌, List, [], length, take, map, sym, ap, ap₂, ◌∙◌, subst, Vec, Global}
use Rattle.std.specs.HashSet.{contains}
use Rattle.std.specs.List.{All}
use Rattle.std.specs.Str.{bytes_eq}
use Rattle.std.proofs.lemmas.List.Elements.{All-push}
use Rattle.std.proofs.lemmas.Bool.{not-true, not-false}
use Rattle.std.proofs.lemmas.List.{take_all}
use Rattle.cd_normal.specs.Codes.{code}
use Rattle.cd_normal.specs.NormalForm.{Kept}
use Rattle.cd_normal.specs.Operands.{operand}
use Rattle.cd_normal.proofs.DistinctOperands.{is_coded, kept_more, kept_same, coded_more, true_first}
use Rattle.cd_normal.proofs.distinct.distinct.Goals as goal
use Rattle.cd_normal.proofs.distinct.distinct.Goals.{then-branch+in_ok-push, else-branch}

pub loop-i-preserved : goal.loop-i-preserved
loop-i-preserved c =
    let l = c.args.operands.now in
    let i = c.loop-i.i in
    let e = c.index-operands-i.result in
    let inv = c.loop-i.invariant in
    let written = c.write_code.new.out in
    let coded : written.items ≡ code e = search rules in
    let held = contains (λ (x y : Vec ℕ Global). bytes_eq x.items y.items) c.loop-i.seen written in
    let known : is_coded (take i l) (code e) ≡ held
    = ap (is_coded (take i l)) (sym coded) ∙ sym (inv.seen written) in
    record {
      kept = elim c.if-branch.branch [
        | then-branch+in_ok-push w ↦ kept_more l i e c.loop-i-test.true c.index-operands-i.is c.loop-i.places.items c.if-branch.places.items (search rules) (known ∙ not-true held (sym c.in_ok-insert.ensures.added ∙ w.if-branch.true)) inv.kept
        | else-branch w ↦ kept_same l i e c.loop-i-test.true c.index-operands-i.is c.loop-i.places.items c.if-branch.places.items (search rules) (known ∙ not-false held (sym c.in_ok-insert.ensures.added ∙ w.if-branch.false)) inv.kept
      ];
      within = elim c.if-branch.branch [
        | then-branch+in_ok-push w ↦ subst (All (λ place. place < length l)) (search rules) (All-push (λ place. place < length l) c.loop-i.places.items i inv.within c.loop-i-test.true)
        | else-branch w ↦ subst (All (λ place. place < length l)) (search rules) inv.within
      ];
      seen = λ q. c.in_ok-insert.ensures.updates.0 q ∙ true_first (bytes_eq written.items q.items) (contains (λ (x y : Vec ℕ Global). bytes_eq x.items y.items) c.loop-i.seen q)
          ∙ ap₂ (λ (a b : Bool). a || b) (ap (λ (k : List ℕ). bytes_eq k q.items) coded) (inv.seen q) ∙ sym (coded_more l i e c.loop-i-test.true c.index-operands-i.is q.items);
    }

pub returns-clause-kept : goal.returns-clause-kept
returns-clause-kept c = subst (λ (l : List _). Kept [] l (map (operand c.args.operands.now) c.loop-i.places.items)) (take_all c.loop-i.i c.args.operands.now c.loop-i-test.false) c.loop-i.invariant.kept
