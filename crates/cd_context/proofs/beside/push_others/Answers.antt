use Rattle.std.proofs.Common.{ℕ, length, get_or, subst, arith}
use Rattle.cd_clause.specs.declared.elem.Elem.TheVariants.{Plain}
use Rattle.cd_store.specs.LookUps.{Gains, HasElem}
use Rattle.cd_store.proofs.Gaining.{gain_goes, gain_ends, gain_less, gain_none}
use Rattle.std.proofs.lemmas.List.{get_or_read}
use Rattle.cd_context.proofs.Besides.{OfPlace, IsElsewhere}
use Rattle.cd_context.proofs.beside.push_others.Goals.{then-i-place+in_ok-push_with_atom, else-i-place}
use Rattle.cd_context.proofs.beside.push_others.Goals as goal

pub atoms-preserved : goal.atoms-preserved
atoms-preserved c =
    let Q : ℕ → ℕ → Type 0 = OfPlace c.args.store.now.clauses c.args.atoms.now c.args.place in
    elim c.if-i-place.branch [
      | then-i-place+in_ok-push_with_atom w ↦ rw w.found-is
          (gain_goes Q c.atoms.i c.args.found.now.items c.atoms.found.items w.push_with_atom.new.found.items c.atoms.invariant
          (gain_less (Q c.atoms.i) (HasElem c.args.store.now.clauses (Plain (get_or c.args.atoms.now c.atoms.i 0))) c.atoms.found.items w.push_with_atom.new.found.items (λ m q. q.1)
          (subst (λ (a : ℕ). Gains (HasElem c.args.store.now.clauses (Plain a)) c.atoms.found.items w.push_with_atom.new.found.items)
          (get_or_read c.args.atoms.now c.atoms.i w.index-atoms-i.result c.atoms-test.true w.index-atoms-i.is 0) w.in_ok-push_with_atom.ensures)))
      | else-i-place w ↦ rw w.found-is
          (gain_goes Q c.atoms.i c.args.found.now.items c.atoms.found.items c.atoms.found.items c.atoms.invariant
          (gain_none (Q c.atoms.i) c.atoms.found.items (λ m q. q.0 w.if-i-place.false)))
    ]

pub returns : goal.returns
returns c = gain_ends (OfPlace c.args.store.now.clauses c.args.atoms.now c.args.place) c.atoms.i (length c.args.atoms.now) c.args.found.now.items c.atoms.found.items
    (IsElsewhere c.args.store.now.clauses c.args.atoms.now c.args.place) c.atoms.invariant (omega (arith, c.atoms-test.false)) (λ m q. (q.0, q.1, (q.2, q.3)))
