use Rattle.std.proofs.Common.{◌≡◌, true, refl}
use Rattle.std.specs.Result.{IsOk}
use Rattle.cd_rules.specs.Parts.{IsInitBy}
use Rattle.cd_rules.specs.Steps.{IsInit}
use Rattle.cd_rules.proofs.Literals.{init_of_lits, lits_of_init}
use Rattle.cd_rules.proofs.Pushed.{failed}
use Rattle.cd_base.proofs.Appending.{walk_ends_as, walk_goes, walk_stops_as}
use Rattle.cd_rules.proofs.Among.{among_grows}
use Rattle.cd_rules.proofs.init.init.Goals as goal

pub returns-in_err-push_atom : goal.returns-in_err-push_atom
returns-in_err-push_atom c =
    walk_stops_as among_grows IsInitBy (IsInit c.args.key.now) c.lits-rest.result.now c.lits.rest.now c.lit-item.result
    (IsOk c.push_atom.result) (IsOk c.from_residual.result) c.args.out.now.items c.lits.out.items c.push_atom.new.out.items
    c.lits.invariant c.in-len1-up.len_at_least c.lit-item.is c.push_atom.ensures (failed c.from_residual.result c.from_residual.ensures.0)
    (λ d q. init_of_lits c.lits-rest.result.now c.args.key.now d c.lits-rest.ensures.codes q)

pub lits-preserved : goal.lits-preserved
lits-preserved c =
    walk_goes among_grows IsInitBy c.lits-rest.result.now c.lits.rest.now _ c.lit-item.result (true ≡ true) c.args.out.now.items c.lits.out.items c.push_atom.new.out.items
    c.lits.invariant refl c.in-len1-up.len_at_least c.lit-item.is c.in_ok-push_atom.ensures refl

pub returns : goal.returns
returns c =
    walk_ends_as IsInitBy (IsInit c.args.key.now) c.lits-rest.result.now c.lits.rest.now
    (true ≡ true) c.args.out.now.items c.lits.out.items c.lits.invariant c.in_default.len_below
    (λ d q. init_of_lits c.lits-rest.result.now c.args.key.now d c.lits-rest.ensures.codes q)
    (λ d p. lits_of_init c.lits-rest.result.now c.args.key.now d c.lits-rest.ensures.codes p)
