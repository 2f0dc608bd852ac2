use Rattle.std.proofs.Common.{rules, subst, sym}
use Rattle.cd_taxonomy.proofs.LinesOfGroups.{text_of_relation}
use Rattle.cd_meaning.specs.Reading.{SaysRelation}
use Rattle.cd_taxonomy.proofs.ReadBack.{reads_back}
use Rattle.cd_taxonomy.proofs.printing.text.Goals as goal

pub returns-clause-relation : goal.returns-clause-relation
returns-clause-relation c =
    text_of_relation c.args.document.now.classes c.args.taxonomy.now.groups _ (search rules)

pub returns-clause-read_back : goal.returns-clause-read_back
returns-clause-read_back c = λ below is iris known.
    let names = c.args.document.now.classes in
    let bytes = c.extend_from_slice-2.new.self.items in
    let read = reads_back names below (record { iris = iris; reserved = c.args.document.now.reserved; distinct = c.args.document.now.distinct_classes }) known in
    subst (SaysRelation names below) (sym (text_of_relation names c.args.taxonomy.now.groups bytes (search rules) below is)) read
