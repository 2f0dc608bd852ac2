use Rattle.cd_grammar.proofs.places.annotated.Goals as goal

pub returns : goal.returns
returns c = rw c.in_ok-push.ensures at c.noted.ensures
