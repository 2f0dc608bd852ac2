use Rattle.std.proofs.Common.{◌⊎◌, ◌↔◌, ◌<◌, ℕ, List, [], ◌∷◌, length, get_or, subst, arith}
use Rattle.std.proofs.lemmas.Grind.{common_steps}
use Rattle.std.proofs.lemmas.List.{get_or_read}
use Rattle.cd_base.specs.Lists.{OneOf, SameSet}
use Rattle.cd_base.proofs.Members.{member_get}
use Rattle.cd_clause.specs.Numbers.{picked}
use Rattle.cd_clause.specs.declared.elem.Elem.{Elem}
use Rattle.cd_clause.specs.declared.elem.Elem.TheVariants.{Plain}
use Rattle.cd_rules.proofs.Gathered.{gather_all, gather_goes}
use Rattle.cd_clause.specs.Derivations.{IsSingle}
use Rattle.cd_context.proofs.Singles.{StandsAlone, alone_somewhere}
use Rattle.cd_context.proofs.live.singles.Goals as goal

pub offset_bounds-clauses-at : goal.offset_bounds-clauses-at
offset_bounds-clauses-at c =
    let h : get_or c.args.live.now c.numbers.i 0 < length c.args.clauses.now = c.requires.in_range _ (member_get c.args.live.now c.numbers.i 0 c.numbers-test.true) in
    grind (arith, common_steps)

pub bounds-clauses-at : goal.bounds-clauses-at
bounds-clauses-at c = c.requires.in_range _ (member_get c.args.live.now c.numbers.i 0 c.numbers-test.true)

pub numbers-preserved : goal.numbers-preserved
numbers-preserved c =
    let at : ℕ = get_or c.args.live.now c.numbers.i 0 in
    let is = get_or_read c.args.clauses.now at c.index-clauses-at.result (c.requires.in_range _ (member_get c.args.live.now c.numbers.i 0 c.numbers-test.true)) c.index-clauses-at.is [] in
    gather_goes (StandsAlone c.args.clauses.now c.args.live.now) c.numbers.i [] c.numbers.atoms.items c.numbers.invariant c.push_single.new.atoms.items
    (λ b. subst (λ (d : List Elem). OneOf b c.push_single.new.atoms.items ↔ (OneOf b c.numbers.atoms.items ⊎ SameSet d (Plain b ∷ []))) is (c.in_ok-push_single.ensures b))

pub returns-clause-exact : goal.returns-clause-exact
returns-clause-exact c = λ b.
    let gathered = gather_all (StandsAlone c.args.clauses.now c.args.live.now) c.numbers.i (length c.args.live.now) c.numbers.atoms.items (IsSingle (picked c.args.clauses.now c.args.live.now))
    c.numbers.invariant (omega (arith, c.numbers-test.false)) (alone_somewhere c.args.clauses.now c.args.live.now) in
    let sorted = c.put_in_order.ensures.same b in
    (λ m. (gathered b).0 (sorted.0 m), λ s. sorted.1 ((gathered b).1 s))
