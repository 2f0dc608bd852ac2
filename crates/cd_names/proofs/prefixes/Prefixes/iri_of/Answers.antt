use Rattle.std.proofs.Common.{List, Some, ap, ◌∙◌, ℕ}
use Rattle.std.specs.Option.{option_map, option_copied}
use Rattle.std.specs.Vec.{vec_items}
use Rattle.cd_names.specs.Prefixes.{Declared, meaning}
use Rattle.cd_names.proofs.ByBytes.{meaning_of}
use Rattle.cd_names.proofs.prefixes.Prefixes.iri_of.Goals as goal

pub returns-in_err-iri : goal.returns-in_err-iri
returns-in_err-iri c =
    ap option_copied c.from_residual.ensures
    ∙ ap (option_map vec_items) c.in_err-iri.ensures.value
    ∙ meaning_of vec_items vec_items c.self.inside.iris.entries c.args.prefix.now
    ∙ ap (λ (ds : Declared). meaning ds c.args.prefix.now) c.self.view_is

pub returns : goal.returns
returns c =
    ap (λ (iri : List ℕ). Some iri) c.as_slice.ensures.value
    ∙ ap (option_map vec_items) c.in_ok-iri.ensures.value
    ∙ meaning_of vec_items vec_items c.self.inside.iris.entries c.args.prefix.now
    ∙ ap (λ (ds : Declared). meaning ds c.args.prefix.now) c.self.view_is
