use Rattle.std.proofs.Common.{◌≡◌, ◌⊎◌, true, refl, inl}
use Rattle.std.specs.Result.{IsOk}
use Rattle.cd_rules.specs.Steps.{IsFree, IsInit}
use Rattle.cd_rules.specs.Uses.{FromKey}
use Rattle.cd_base.proofs.Appending.{both, otherwise}
use Rattle.cd_rules.proofs.Among.{among_grows}
use Rattle.cd_rules.proofs.Inits.{key_concluded, key_concludes}
use Rattle.cd_rules.proofs.Pushed.{failed}
use Rattle.cd_rules.proofs.init.on_key.Goals as goal

pub returns-in_err-init : goal.returns-in_err-init
returns-in_err-init c =
    let n = c.args.index.now.normal in
    let key = c.args.key.now in
    let undone = failed c.from_residual.result c.from_residual.ensures.0 in
    otherwise (IsInit key) (FromKey n key) (IsOk c.init.result) (IsOk c.from_residual.result) c.args.out.now.items c.init.new.out.items
    (λ d p. key_concludes n key d (inl p)) (λ h d q. absurd (undone h)) (λ h. absurd (undone h)) c.init.ensures

pub returns : goal.returns
returns c =
    let n = c.args.index.now.normal in
    let key = c.args.key.now in
    otherwise (λ d. IsInit key d ⊎ IsFree n d) (FromKey n key) ((true ≡ true) × IsOk c.free.result) (IsOk c.free.result) c.args.out.now.items c.free.new.out.items
    (λ d p. key_concludes n key d p) (λ h d q. key_concluded n key d q) (λ h. (refl, h))
    (both among_grows (IsInit key) (IsFree n) (true ≡ true) (IsOk c.free.result) c.args.out.now.items c.init.new.out.items c.free.new.out.items c.in_ok-init.ensures c.free.ensures)
