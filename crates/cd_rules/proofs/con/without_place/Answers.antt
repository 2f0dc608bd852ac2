use Rattle.cd_rules.proofs.ConPlaces.{without_place}
use Rattle.cd_rules.proofs.con.without_place.Goals as goal

pub returns : goal.returns
returns c = without_place c.args.atoms.now c.split_at.result.0.now c.split_at.result.1.now c.in_ok-taken.taken.items c.extend_from_slice.new.self.items c.args.j
    c.split_at.ensures.front c.split_at.ensures.back c.in_ok-taken.ensures.items c.in_ok-extend_from_slice.ensures.items
