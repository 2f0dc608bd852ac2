use Rattle.std.proofs.Common.{nat_eq, ap, ◌∙◌, rules}
use Rattle.std.proofs.lemmas.Iterator.{YieldsList-from_slice}
use Rattle.std.proofs.lemmas.Iterator.Adapters.{fact_from_extend}
use Rattle.indexmap.specs.IndexSet.{insert_all}
use Rattle.cd_index.proofs.walk.insert_all.Goals as goal

pub returns : goal.returns
returns c =
    let h = fact_from_extend (λ y. y.now) c.extend.result c.extend.ensures.ran (λ it b. YieldsList-from_slice _ b.0)
    (λ xs e h. h.0 ∙ ap (insert_all nat_eq c.args.reached.now.keys) e) in
    search rules
