use Rattle.std.proofs.Common.{◌≡◌, ℕ, true, refl, sym, subst, arith, ◌∙◌}
use Rattle.std.proofs.lemmas.Bool.{both_ways}
use Rattle.cd_base.specs.Lists.{OneOf}
use Rattle.cd_rules.specs.Partners.{IsAtHand}
use Rattle.cd_rules.proofs.ConNumbers.{concludes_at_hand}
use Rattle.std.specs.Result.{IsOk}
use Rattle.cd_rules.proofs.ConPlaces.{place_goes, place_passes, place_stops, places_end, places_left}
use Rattle.cd_rules.proofs.Pushed.{failed, unpushed}
use Rattle.cd_rules.proofs.con.con_by.Goals as goal
use Rattle.cd_rules.proofs.con.con_by.Goals.{then-at-atom+in_ok-taken+in_ok-con_from, else-at-atom}

pub returns-in_err-taken : goal.returns-in_err-taken
returns-in_err-taken c =
    places_left c.args.clauses.now c.args.partners.now c.args.conj.now c.args.atom c.args.others.now c.places.j c.index-left-j.result c.items-left.result.now
    c.args.out.now.items c.items-left.ensures c.places-test.true c.index-left-j.is (IsOk c.from_residual.result) c.places.out.items c.places.invariant
    (failed c.from_residual.result c.from_residual.ensures.0)

pub returns-in_err-con_from : goal.returns-in_err-con_from
returns-in_err-con_from c =
    place_stops c.args.clauses.now c.args.partners.now c.args.conj.now c.args.atom c.args.others.now c.places.j c.index-left-j.result c.items-left.result.now
    c.args.out.now.items c.items-left.ensures c.places-test.true c.index-left-j.is c.as_slice.result.now c.items-right.result.now (IsOk c.con_from.result) (IsOk c.from_residual-in_err-con_from.result)
    c.places.out.items c.con_from.new.out.items c.places.invariant c.items-right.ensures (omega arith) (c.as_slice.ensures.value ∙ c.in_ok-taken.ensures) c.con_from.ensures
    (failed c.from_residual-in_err-con_from.result c.from_residual-in_err-con_from.ensures.0)

pub places-preserved : goal.places-preserved
places-preserved c = elim c.if-at-atom.branch [
  | then-at-atom+in_ok-taken+in_ok-con_from w ↦ rw w.out-is
      (place_goes c.args.clauses.now c.args.partners.now c.args.conj.now c.args.atom c.args.others.now c.places.j c.index-left-j.result c.items-left.result.now
      c.args.out.now.items c.items-left.ensures c.places-test.true c.index-left-j.is w.as_slice.result.now c.items-right.result.now (true ≡ true)
      c.places.out.items w.con_from.new.out.items c.places.invariant c.items-right.ensures (omega arith) (w.as_slice.ensures.value ∙ w.in_ok-taken.ensures) w.in_ok-con_from.ensures refl)
  | else-at-atom w ↦ rw w.out-is
      (place_passes c.args.clauses.now c.args.partners.now c.args.conj.now c.args.atom c.args.others.now c.places.j c.index-left-j.result c.items-left.result.now
      c.args.out.now.items c.items-left.ensures c.places-test.true c.index-left-j.is c.places.out.items c.places.invariant (λ e. omega arith))
]

pub returns : goal.returns
returns c =
    places_end c.args.clauses.now c.args.partners.now c.args.conj.now c.args.atom c.args.others.now c.places.j c.items-left.result.now (true ≡ true)
    c.args.out.now.items c.places.out.items c.places.invariant c.items-left.ensures (omega (arith, c.places-test.false))

pub returns-then-not-are_at_hand : goal.returns-then-not-are_at_hand
returns-then-not-are_at_hand c = unpushed _ _ _ _ refl (λ h d q. both_ways c.are_at_hand.result c.if-not-are_at_hand.true
    (c.are_at_hand.ensures.1 (subst (λ l. (b : ℕ) → OneOf b l → IsAtHand c.args.partners.now c.args.atom b) (sym c.items-left.ensures)
    (concludes_at_hand c.args.clauses.now c.args.partners.now c.args.conj.now c.args.atom c.args.others.now d q))))
