-- What is read in the text of a relation is that relation.
use Rattle.cd_meaning.specs.Hierarchy.{representatives, members, parents, proper}
use Rattle.cd_meaning.specs.Text.{text}
use Rattle.cd_taxonomy.specs.ReadBack.{TextReadsBack}
use Rattle.cd_taxonomy.proofs.ReadBackLines.{group_shown, parent_shown}
use Rattle.cd_taxonomy.proofs.ReadBackSound.{two_names, leads_so}
use Rattle.cd_taxonomy.proofs.ReadBackComplete.{reads_so}

pub reads_back : TextReadsBack
reads_back names below known s a b a_in b_in =
    let rs = representatives names below in
    let ps = proper names below in (
      λ reads. leads_so names below known s (reads.0) a b a_in b_in reads.1,
      λ so. reads_so names below known s (two_names names known) (text names below)
          (group_shown names rs (members names below) ps (parents names below) known.iris)
          (parent_shown names rs (members names below) ps (parents names below) known.iris) a b a_in b_in so,
    )
