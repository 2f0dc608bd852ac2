use Rattle.std.proofs.Common.{◌≡◌, ℕ, ◌<◌, List, length, map, slice_index, arith, subst, sym, ap, ◌∙◌}
use Rattle.std.specs.List.{All}
use Rattle.std.specs.List.Sorted.{IsPermutation}
use Rattle.cd_taxonomy.specs.declared.parents.Candidate.{Candidate}
use Rattle.cd_taxonomy.specs.Covered.{class_of, covers, uncovered}
use Rattle.cd_taxonomy.proofs.Candidates.{AreGiven, AreSorted, row_within, length-counts, length-representative_of, candidates_within, direct_within, found_are}
use Rattle.cd_taxonomy.proofs.RepresentativeByCount.{two_classes}
use Rattle.cd_taxonomy.proofs.parents.parents.Goals as goal

pub candidates-requires-clause-counted : goal.candidates-requires-clause-counted
candidates-requires-clause-counted c k d inside =
    let a = c.args in
    let q = c.requires in
    let given : AreGiven a.document.now.classes a.above.now a.counts.now a.representative_of.now a.row.now a.r
    = record { class = q.class; answered = q.answered; within = q.within; subsumption = q.subsumption; counted = q.counted; represented = q.represented; is_row = q.row } in
    omega (arith, length-counts given, row_within given k d inside)

pub candidates-requires-clause-represented : goal.candidates-requires-clause-represented
candidates-requires-clause-represented c k d inside =
    let a = c.args in
    let q = c.requires in
    let given : AreGiven a.document.now.classes a.above.now a.counts.now a.representative_of.now a.row.now a.r
    = record { class = q.class; answered = q.answered; within = q.within; subsumption = q.subsumption; counted = q.counted; represented = q.represented; is_row = q.row } in
    omega (arith, length-representative_of given, row_within given k d inside)

pub uncovered-requires : goal.uncovered-requires
uncovered-requires c =
    let a = c.args in
    let q = c.requires in
    let given : AreGiven a.document.now.classes a.above.now a.counts.now a.representative_of.now a.row.now a.r
    = record { class = q.class; answered = q.answered; within = q.within; subsumption = q.subsumption; counted = q.counted; represented = q.represented; is_row = q.row } in
    let by_count : AreSorted a.counts.now a.representative_of.now a.row.now a.r c.in_ok-candidates.candidates.items c.sort_by_superclasses.new.candidates.items
    = record { found = c.in_ok-candidates.ensures; same = c.sort_by_superclasses.ensures.same; falling = c.sort_by_superclasses.ensures.sorted } in
    subst (All (λ (candidate : Candidate). candidate.class < length a.above.now)) (sym c.deref.ensures.value) (candidates_within given by_count)

pub numbers_of-requires : goal.numbers_of-requires
numbers_of-requires c =
    let a = c.args in
    let q = c.requires in
    let given : AreGiven a.document.now.classes a.above.now a.counts.now a.representative_of.now a.row.now a.r
    = record { class = q.class; answered = q.answered; within = q.within; subsumption = q.subsumption; counted = q.counted; represented = q.represented; is_row = q.row } in
    let by_count : AreSorted a.counts.now a.representative_of.now a.row.now a.r c.in_ok-candidates.candidates.items c.sort_by_superclasses.new.candidates.items
    = record { found = c.in_ok-candidates.ensures; same = c.sort_by_superclasses.ensures.same; falling = c.sort_by_superclasses.ensures.sorted } in
    let two : 1 < length a.document.now.classes = two_classes a.document.now in
    let direct : c.in_ok-direct.direct.items ≡ uncovered (covers a.above.now) (map class_of c.sort_by_superclasses.new.candidates.items)
    = c.in_ok-direct.ensures ∙ ap (λ (cs : List Candidate). uncovered (covers a.above.now) (map class_of cs)) c.deref.ensures.value in
    let inside : All (λ d. d < length a.document.now.classes) c.in_ok-direct.direct.items = direct_within given by_count two direct in
    subst (λ n. All (λ d. d < n) c.deref-2.result.now) (sym q.numbered.long) (subst (All (λ d. d < length a.document.now.classes)) (sym c.deref-2.ensures.value) inside)

pub returns : goal.returns
returns c =
    let a = c.args in
    let q = c.requires in
    let given : AreGiven a.document.now.classes a.above.now a.counts.now a.representative_of.now a.row.now a.r
    = record { class = q.class; answered = q.answered; within = q.within; subsumption = q.subsumption; counted = q.counted; represented = q.represented; is_row = q.row } in
    let by_count : AreSorted a.counts.now a.representative_of.now a.row.now a.r c.in_ok-candidates.candidates.items c.sort_by_superclasses.new.candidates.items
    = record { found = c.in_ok-candidates.ensures; same = c.sort_by_superclasses.ensures.same; falling = c.sort_by_superclasses.ensures.sorted } in
    let two : 1 < length a.document.now.classes = two_classes a.document.now in
    let direct : c.in_ok-direct.direct.items ≡ uncovered (covers a.above.now) (map class_of c.sort_by_superclasses.new.candidates.items)
    = c.in_ok-direct.ensures ∙ ap (λ (cs : List Candidate). uncovered (covers a.above.now) (map class_of cs)) c.deref.ensures.value in
    let f = slice_index a.numbers.now in
    let moved : IsPermutation (map f c.in_ok-direct.direct.items) c.sort_unstable.new.self.items
    = subst (λ (xs : List ℕ). IsPermutation xs c.sort_unstable.new.self.items) (c.in_ok-found.ensures ∙ ap (map f) c.deref-2.ensures.value) c.sort_unstable.ensures.permutation in
    found_are given by_count two direct q.numbered c.sort_unstable.new.self.items moved c.sort_unstable.ensures.sorted
