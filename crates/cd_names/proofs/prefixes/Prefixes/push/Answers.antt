use Rattle.std.proofs.Common.{◌≡◌, ℕ, List, [], ◌∷◌, ◌++◌, map, ap, ap₂, ◌∙◌}
use Rattle.std.specs.Vec.{vec_items}
use Rattle.cd_names.specs.Prefixes.{Declared, meaning}
use Rattle.cd_names.proofs.ByBytes.{pushed_to}
use Rattle.cd_names.proofs.prefixes.Prefixes.push.Goals as goal

pub returns-clause-pushed : goal.returns-clause-pushed
returns-clause-pushed c =
    let prefix : c.in_ok-to_vec.field-0.items ≡ c.args.prefix.now = c.in_ok-to_vec.ensures.items_if_clones_equal (λ x y h. h) in
    let iri : c.in_ok-to_vec-2.field-0.items ≡ c.args.iri.now = c.in_ok-to_vec-2.ensures.items_if_clones_equal (λ x y h. h) in
    let new = ap₂ meaning c.self.view_is prefix ∙ c.requires in
    ap (map (λ (e : _). (vec_items e.0, vec_items e.1))) c.in_ok-insert.ensures.entries
    ∙ pushed_to vec_items vec_items c.self.inside.iris c.in_ok-to_vec.field-0 c.in_ok-to_vec-2.field-0 new
    ∙ ap₂ (λ (ds : Declared) (d : List ℕ × List ℕ). ds ++ d ∷ []) c.self.view_is (ap₂ (λ (p i : List ℕ). (p, i)) prefix iri)
