use Rattle.std.proofs.Common.{◌<◌, refl, sym, subst, arith}
use Rattle.cd_saturation.proofs.Walks.{all_decided, each_decided, each_lighter, head_in, later_in}
use Rattle.cd_saturation.proofs.rounds.decide_each.Goals as goal

pub decide_group-requires : goal.decide_group-requires
decide_group-requires c = c.asked.invariant.classes c.group-item.result (head_in c.asked.rest.now c.group-item.result c.in-len1-up.len_at_least c.group-item.is)

pub asked-init : goal.asked-init
asked-init c = record {
  begun = c.requires.begun;
  classes = c.requires.classes;
  decides = λ n classes e d. d;
  lighter = omega arith;
}

pub asked-preserved : goal.asked-preserved
asked-preserved c =
    let i = c.asked.invariant in
    let done = c.in_ok-decide_group.ensures in
    record {
      begun = λ g m. i.begun g (later_in c.asked.rest.now _ c.group-item.result refl c.in-len1-up.len_at_least c.group-item.is g m);
      classes = λ g m. subst (λ l. g.class < l) (sym done.each) (i.classes g (later_in c.asked.rest.now _ c.group-item.result refl c.in-len1-up.len_at_least c.group-item.is g m));
      decides = λ n classes e d.
          each_decided c.asked.rest.now _ c.group-item.result refl c.in-len1-up.len_at_least c.group-item.is n classes c.asked.above.items c.decide_group.new.above.items c.asked.groups.items c.decide_group.new.groups.items
          (done.decides n (c.in_ok-empty.ensures n e)) (i.decides n classes e d);
      lighter = each_lighter c.asked.rest.now _ c.group-item.result refl c.in-len1-up.len_at_least c.group-item.is c.asked.groups.items c.decide_group.new.groups.items _ _ i.lighter done.lighter;
    }

pub returns-clause-decides : goal.returns-clause-decides
returns-clause-decides c = λ n classes e d.
    all_decided n classes c.asked.above.items c.asked.groups.items c.asked.rest.now c.in_default.len_below (c.asked.invariant.decides n classes e d)
