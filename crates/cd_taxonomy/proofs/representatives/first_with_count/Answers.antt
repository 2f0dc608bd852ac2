use Rattle.std.proofs.Common.{◌≡◌, slice_index_or, ◌∙◌, arith}
use Rattle.std.proofs.lemmas.List.{take_all}
use Rattle.cd_taxonomy.proofs.RepresentativeByCount.{first_more, listed_at}
use Rattle.cd_taxonomy.proofs.representatives.first_with_count.Goals as goal
use Rattle.cd_taxonomy.proofs.representatives.first_with_count.Goals.{then-counts-number+then-places-number, else-counts-number, else-counts-number-via-then-counts-number+else-places-number, else-counts-number-via-else-counts-number}

pub loop-atom-preserved : goal.loop-atom-preserved
loop-atom-preserved c =
    let counts = c.args.counts.now in
    let places = c.args.places.now in
    let atoms = c.args.atoms.now in
    let i = c.loop-atom.atom-index in
    let a = c.number-number.result in
    let d = c.atom-item.result in
    let lt = c.loop-atom-test.true in
    let is : a ≡ slice_index_or atoms i d = c.number-number.ensures ∙ c.atom-item.is in
    let more = first_more counts places c.args.c atoms i c.loop-atom.first in
    elim c.if-counts-number.branch [
      | then-counts-number+then-places-number w ↦ rw w.first-is (record {
        class = omega (arith, c.requires.within i d lt, is);
        counted = w.if-counts-number.true;
        listed = listed_at counts places c.args.c atoms i a d lt is;
        first = more _ a d lt is c.loop-atom.invariant.first (omega arith) (λ _. omega arith);
      })
      | else-counts-number w ↦ rw w.first-is (record {
        class = c.loop-atom.invariant.class;
        counted = c.loop-atom.invariant.counted;
        listed = c.loop-atom.invariant.listed;
        first = more _ a d lt is c.loop-atom.invariant.first (omega arith) (elim w.else-counts-number.branch [
          | else-counts-number-via-then-counts-number+else-places-number w' ↦ λ _. omega arith
          | else-counts-number-via-else-counts-number w' ↦ λ same. absurd (w'.if-counts-number.false same)
        ]);
      })
    ]

pub returns-clause-first : goal.returns-clause-first
returns-clause-first c = rw (take_all c.loop-atom.atom-index c.args.atoms.now c.loop-atom-test.false) at c.loop-atom.invariant.first
