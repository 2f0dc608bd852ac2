use Rattle.std.proofs.Common.{◌<◌, ◌-◌, ℕ, length, sym, subst, arith}
use Rattle.std.proofs.lemmas.Bool.{both_ways}
use Rattle.std.proofs.lemmas.Grind.{common_steps}
use Rattle.std.proofs.lemmas.List.{get_or_read}
use Rattle.cd_base.specs.Lists.{OneOf}
use Rattle.cd_base.proofs.Members.{member_get}
use Rattle.cd_context.proofs.beside.may_all_stand.Goals as goal

pub returns-then-not-may_stand : goal.returns-then-not-may_stand
returns-then-not-may_stand c = λ h.
    let within : c.atoms.i < length c.args.atoms.now = grind (arith, common_steps) in
    let stands = h c.index-atoms-i.result (subst (λ (a : ℕ). OneOf a c.args.atoms.now) (sym (get_or_read c.args.atoms.now c.atoms.i c.index-atoms-i.result within c.index-atoms-i.is 0)) (member_get c.args.atoms.now c.atoms.i 0 within)) in
    absurd (both_ways c.may_stand.result c.if-not-may_stand.true (c.may_stand.ensures stands))

pub returns-then-not-may_stand-2 : goal.returns-then-not-may_stand-2
returns-then-not-may_stand-2 c = λ h.
    let k : ℕ = length c.args.atoms.now - 1 - c.atoms.i in
    let within : k < length c.args.atoms.now = grind (arith, common_steps) in
    let stands = h c.index-atoms-count.result (subst (λ (a : ℕ). OneOf a c.args.atoms.now) (sym (get_or_read c.args.atoms.now k c.index-atoms-count.result within c.index-atoms-count.is 0)) (member_get c.args.atoms.now k 0 within)) in
    absurd (both_ways c.may_stand-in-atoms.result c.if-not-may_stand-2.true (c.may_stand-in-atoms.ensures stands))
