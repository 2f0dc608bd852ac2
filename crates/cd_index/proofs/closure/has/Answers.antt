use Rattle.std.proofs.Common.{◌∙◌}
use Rattle.cd_index.proofs.Search.{search_finds}
use Rattle.cd_index.proofs.closure.has.Goals as goal

pub returns : goal.returns
returns c =
    c.is_ok.ensures.value ∙ search_finds c.args.numbers.now c.args.number c.binary_search.result c.binary_search.ensures.position c.requires
