use Rattle.std.proofs.Common.{ap, ◌∙◌}
use Rattle.std.specs.Prelude.{nat_lt}
use Rattle.std.specs.List.{list_all}
use Rattle.cd_base.specs.declared.normal.Triple.{Triple}
use Rattle.cd_index.proofs.Triples.{triples_below}
use Rattle.cd_index.proofs.index.Index.of.Goals as goal

pub triples_by_atom-requires : goal.triples_by_atom-requires
triples_by_atom-requires c =
    ap (list_all (λ (t : Triple). nat_lt t.atom c.args.normal.atoms)) c.items.ensures ∙ triples_below c.args.normal.atoms c.args.normal.roles c.args.normal.n2 c.args.normal.n2_within

pub triples_by_atom-requires-2 : goal.triples_by_atom-requires-2
triples_by_atom-requires-2 c =
    ap (list_all (λ (t : Triple). nat_lt t.atom c.args.normal.atoms)) c.items-2.ensures ∙ triples_below c.args.normal.atoms c.args.normal.roles c.args.normal.n3 c.args.normal.n3_within

pub triples_by_atom-requires-3 : goal.triples_by_atom-requires-3
triples_by_atom-requires-3 c =
    ap (list_all (λ (t : Triple). nat_lt t.atom c.args.normal.atoms)) c.items-3.ensures ∙ triples_below c.args.normal.atoms c.args.normal.roles c.args.normal.n4 c.args.normal.n4_within
