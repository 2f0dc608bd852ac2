use Rattle.std.proofs.Common.{◌≡◌, ◌<◌, ℕ, List, length, get_or, sym, ap, ◌∙◌, subst, arith}
use Rattle.std.proofs.lemmas.Grind.{common_steps}
use Rattle.cd_base.specs.declared.normal.Conj.{Conj}
use Rattle.cd_base.specs.declared.normal.Normal.{Normal}
use Rattle.cd_base.proofs.Members.{member_get}
use Rattle.cd_index.specs.Index.{left_of}
use Rattle.cd_store.specs.LookUps.{Gains}
use Rattle.cd_store.proofs.Gaining.{gain_ends, gain_goes}
use Rattle.cd_context.specs.Beside.{IsBesideByOne, IsBesideLeft, Stands}
use Rattle.cd_context.proofs.Besides.{OfNumber, by_number, left_read}
use Rattle.cd_context.specs.Waits.{numbers}
use Rattle.cd_context.proofs.beside.push_by_axioms.Goals as goal

pub offset_bounds-all-axioms : goal.offset_bounds-all-axioms
offset_bounds-all-axioms c =
    let same = c.items-all.ensures ∙ ap (λ (n : Normal). n.n1) c.normal.ensures in
    let h : get_or c.args.axioms.now c.axioms.i 0 < length c.items-all.result.now
    = subst (λ (l : List Conj). get_or c.args.axioms.now c.axioms.i 0 < length l) (sym same) (c.requires.numbers _ (member_get c.args.axioms.now c.axioms.i 0 c.axioms-test.true)) in
    grind (arith, common_steps)

pub bounds-all-axioms : goal.bounds-all-axioms
bounds-all-axioms c =
    let same = c.items-all.ensures ∙ ap (λ (n : Normal). n.n1) c.normal.ensures in
    subst (λ (l : List Conj). get_or c.args.axioms.now c.axioms.i 0 < length l) (sym same) (c.requires.numbers _ (member_get c.args.axioms.now c.axioms.i 0 c.axioms-test.true))

pub axioms-preserved : goal.axioms-preserved
axioms-preserved c =
    let n = c.args.index.now.normal in
    let k : ℕ = get_or c.args.axioms.now c.axioms.i 0 in
    let same = c.items-all.ensures ∙ ap (λ (n : Normal). n.n1) c.normal.ensures in
    let lt : k < length c.items-all.result.now = subst (λ (l : List Conj). k < length l) (sym same) (c.requires.numbers k (member_get c.args.axioms.now c.axioms.i 0 c.axioms-test.true)) in
    let is : left_of n.n1 k ≡ c.index-all-axioms.result.left
    = ap (λ (l : List Conj). left_of l k) (sym same) ∙ left_read c.items-all.result.now k c.index-all-axioms.result lt c.index-all-axioms.is in
    gain_goes (OfNumber n (Stands c.args.store.now.live (numbers c.args.waiting.now) c.args.premise) c.args.store.now.clauses c.args.atom c.args.axioms.now) c.axioms.i c.args.found.now.items c.axioms.found.items c.push_by_left.new.found.items c.axioms.invariant
    (subst (λ (l : List ℕ). Gains (IsBesideLeft (Stands c.args.store.now.live (numbers c.args.waiting.now) c.args.premise) c.args.store.now.clauses c.args.atom l) c.axioms.found.items c.push_by_left.new.found.items) (c.items.ensures ∙ sym is) c.in_ok-push_by_left.ensures)

pub returns : goal.returns
returns c = gain_ends (OfNumber c.args.index.now.normal (Stands c.args.store.now.live (numbers c.args.waiting.now) c.args.premise) c.args.store.now.clauses c.args.atom c.args.axioms.now) c.axioms.i (length c.args.axioms.now) c.args.found.now.items c.axioms.found.items
    (IsBesideByOne c.args.index.now.normal (Stands c.args.store.now.live (numbers c.args.waiting.now) c.args.premise) c.args.store.now.clauses c.args.atom c.args.axioms.now) c.axioms.invariant (omega (arith, c.axioms-test.false)) (by_number c.args.index.now.normal (Stands c.args.store.now.live (numbers c.args.waiting.now) c.args.premise) c.args.store.now.clauses c.args.atom c.args.axioms.now)
