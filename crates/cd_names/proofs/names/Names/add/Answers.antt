use Rattle.std.proofs.Common.{◌≡◌, ℕ, List, refl, sym, ap, ap₂, map, ◌∙◌}
use Rattle.std.specs.Vec.{vec_items}
use Rattle.cd_names.specs.Names.{add_name, number}
use Rattle.cd_names.proofs.ByBytes.{number_of, added_to, known_number, known_stays}
use Rattle.cd_names.proofs.names.Names.add.Goals as goal

pub returns-clause-numbered : goal.returns-clause-numbered
returns-clause-numbered c =
    let copied : c.in_ok-owned.owned.items ≡ c.args.iri.now = c.in_ok-owned.ensures.items_if_clones_equal (λ x y same. same) in
    c.in_ok-at.ensures.index ∙ number_of vec_items c.in_ok-owned.owned.items c.self.inside.iris.keys ∙ ap₂ number c.self.view_is copied

pub returns-clause-added : goal.returns-clause-added
returns-clause-added c =
    let copied : c.in_ok-owned.owned.items ≡ c.args.iri.now = c.in_ok-owned.ensures.items_if_clones_equal (λ x y same. same) in
    ap (map vec_items) c.in_ok-at.ensures.keys ∙ added_to vec_items c.in_ok-owned.owned.items c.self.inside.iris.keys c.in_ok-owned.owned refl
    ∙ ap₂ add_name c.self.view_is copied

pub returns-in-Some-clause-numbered : goal.returns-in-Some-clause-numbered
returns-in-Some-clause-numbered c =
    sym (known_number vec_items c.args.iri.now c.self.inside.iris.keys c.in-Some.at (sym c.in-Some.ensures.index))
    ∙ ap (λ (names : List (List ℕ)). number names c.args.iri.now) c.self.view_is

pub returns-in-Some-clause-added : goal.returns-in-Some-clause-added
returns-in-Some-clause-added c =
    sym (ap (λ (names : List (List ℕ)). add_name names c.args.iri.now) (sym c.self.view_is)
    ∙ known_stays vec_items c.args.iri.now c.self.inside.iris.keys (sym c.in-Some.ensures.found) ∙ c.self.view_is)
