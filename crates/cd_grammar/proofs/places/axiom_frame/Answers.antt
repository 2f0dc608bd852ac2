use Rattle.cd_grammar.proofs.places.axiom_frame.Goals as goal

pub returns : goal.returns
returns c = c.bare.ensures
