-- The sorted places are those of the group's other members.
use Rattle.std.proofs.Common.{◌≡◌, ◌<◌, ◌∷◌, List, ℕ, length, map, slice_index, All, IfOk, ap, subst, sym, ◌∙◌}
use Rattle.std.specs.List.Sorted.{IsPermutation}
use Rattle.cd_taxonomy.proofs.MembersByPlace.{row_counted, row_placed, sorted_within, members_from_places}
use Rattle.cd_taxonomy.proofs.members.members.Goals as goal

pub other_places-requires-clause-counted : goal.other_places-requires-clause-counted
other_places-requires-clause-counted c =
    row_counted c.args.document.now.classes c.args.above.now c.args.counts.now c.args.order.now c.args.places.now c.args.row.now c.args.r
    c.requires.class c.requires.answered c.requires.subsumption c.requires.counted c.requires.ordered c.requires.placed c.requires.row

pub other_places-requires-clause-placed : goal.other_places-requires-clause-placed
other_places-requires-clause-placed c =
    row_placed c.args.document.now.classes c.args.above.now c.args.counts.now c.args.order.now c.args.places.now c.args.row.now c.args.r
    c.requires.class c.requires.answered c.requires.subsumption c.requires.counted c.requires.ordered c.requires.placed c.requires.row

pub listed-requires : goal.listed-requires
listed-requires c =
    subst (All (λ k. k < length c.args.order.now)) (sym c.deref.ensures.value)
    (sorted_within c.args.document.now.classes c.args.above.now c.args.counts.now c.args.order.now c.args.places.now c.args.row.now c.args.r
    c.requires.class c.requires.answered c.requires.subsumption c.requires.counted c.requires.ordered c.requires.placed c.requires.row
    c.sort_unstable.new.self.items
    (subst (λ (ks : List ℕ). IsPermutation ks c.sort_unstable.new.self.items) c.in_ok-found.ensures c.sort_unstable.ensures.permutation))

pub returns : goal.returns
returns c =
    subst (λ (cs : List ℕ). IfOk c.listed.result (λ found. found.items ≡ cs))
    (ap (λ (ks : List ℕ). c.args.r ∷ map (slice_index c.args.order.now) ks) c.deref.ensures.value
    ∙ members_from_places c.args.document.now.classes c.args.above.now c.args.counts.now c.args.order.now c.args.places.now c.args.row.now c.args.r
    c.requires.class c.requires.answered c.requires.subsumption c.requires.counted c.requires.ordered c.requires.placed c.requires.row
    c.sort_unstable.new.self.items
    (subst (λ (ks : List ℕ). IsPermutation ks c.sort_unstable.new.self.items) c.in_ok-found.ensures c.sort_unstable.ensures.permutation)
    c.sort_unstable.ensures.sorted)
    c.listed.ensures
