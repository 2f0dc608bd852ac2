use Rattle.std.proofs.Common.{◌≡◌, ◌<◌, ◌++◌, ◌∷◌, [], List, ℕ, length, sym, ap, subst, ◌∙◌}
use Rattle.std.proofs.lemmas.Bool.{eqb-true}
use Rattle.std.proofs.lemmas.Result.{on_ok_weaker}
use Rattle.cd_base.specs.Lists.{OneOf}
use Rattle.cd_saturation.specs.Groups.{halves}
use Rattle.cd_saturation.proofs.Deciding.{dropped, halved, taken}
use Rattle.cd_saturation.proofs.Walks.{many_names, no_names, only_name, pushed_lighter}
use Rattle.cd_saturation.proofs.rounds.decide_group.Goals as goal

pub returns-then-not-empty-clause-decides : goal.returns-then-not-empty-clause-decides
returns-then-not-empty-clause-decides c = λ n t.
    dropped n c.args.group.now c.args.above.now.items c.args.groups.now.items (λ b m all. t.none c.if-not-empty.true b m all)

pub returns-then-is_empty-clause-decides : goal.returns-then-is_empty-clause-decides
returns-then-is_empty-clause-decides c = λ n t.
    dropped n c.args.group.now c.args.above.now.items c.args.groups.now.items
    (λ b m all. no_names c.items-names.result.now b (eqb-true (length c.items-names.result.now) 0 (sym c.is_empty.ensures ∙ c.if-is_empty.true))
    (subst (λ (z : List ℕ). OneOf b z) (sym c.items-names.ensures) m))

pub returns-then-names-eq1-clause-decides : goal.returns-then-names-eq1-clause-decides
returns-then-names-eq1-clause-decides c =
    let one : c.args.group.now.names ≡ c.index-names-0.result ∷ [] = sym c.items-names.ensures ∙ only_name c.items-names.result.now c.index-names-0.result c.if-names-eq1.true c.index-names-0.is in
    on_ok_weaker c.add_name.result
    (λ more n t. taken n c.args.group.now c.index-names-0.result c.args.above.now.items c.add_name.new.above.items c.args.groups.now.items one (t.one c.index-names-0.result one c.if-not-empty.false) more)
    c.add_name.ensures

pub returns-clause-decides : goal.returns-clause-decides
returns-clause-decides c =
    on_ok_weaker c.push_halves.result
    (λ e n t. halved n c.args.group.now c.args.above.now.items c.args.groups.now.items c.push_halves.new.groups.items (e ∙ ap (λ (z : List ℕ). c.args.groups.now.items ++ halves c.args.group.now.class z) c.items-names.ensures))
    c.push_halves.ensures

pub returns-clause-lighter : goal.returns-clause-lighter
returns-clause-lighter c =
    let many : 1 < length c.items-names.result.now = many_names (length c.items-names.result.now) (sym c.if-is_empty.ensures) c.if-names-eq1.false in
    on_ok_weaker c.push_halves.result
    (λ e. pushed_lighter c.args.group.now.class c.args.group.now.names c.args.groups.now.items c.push_halves.new.groups.items
    (subst (λ (z : List ℕ). 1 < length z) c.items-names.ensures many)
    (e ∙ ap (λ (z : List ℕ). c.args.groups.now.items ++ halves c.args.group.now.class z) c.items-names.ensures))
    c.push_halves.ensures
