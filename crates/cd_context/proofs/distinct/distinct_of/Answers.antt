use Rattle.std.proofs.Common.{◌≡◌, [], List, ◌∙◌, subst}
use Rattle.indexmap.specs.IndexSet.{insert_all}
use Rattle.indexmap.proofs.CallerLemmas.{Drains-YieldsInOrder}
use Rattle.cd_context.specs.contracts.facts.NotePartialEq.TheImpl as notes
use Rattle.cd_context.specs.declared.facts.Note.{Note}
use Rattle.cd_context.proofs.Once.{each_once}
use Rattle.cd_context.proofs.distinct.distinct_of.Goals as goal

pub returns : goal.returns
returns c =
    let ran = c.in_ok-extend.ensures.ran in
    let all : ran.1 ≡ c.args.notes.items = Drains-YieldsInOrder _ _ ran.0 ran.1 ran.2.3 ran.4 ∙ ran.2.0 in
    let keys = c.extend.new.self.keys in
    let empty : c.new-distinct.result.keys ≡ [] = c.new-distinct.ensures.empty in
    let into : keys ≡ insert_all ((notes.ghosts).eq) [] ran.1 = subst (λ (l : List Note). keys ≡ insert_all ((notes.ghosts).eq) l ran.1) empty ran.3.0 in
    each_once c.args.notes.items keys (subst (λ (l : List Note). keys ≡ insert_all ((notes.ghosts).eq) [] l) all into)
