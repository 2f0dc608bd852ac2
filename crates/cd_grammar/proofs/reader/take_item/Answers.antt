use Rattle.std.proofs.Common.{sym, ◌∙◌}
use Rattle.cd_grammar.proofs.Standing.{room}
use Rattle.cd_grammar.proofs.reader.take_item.Goals as goal

pub take-requires-clause-classes : goal.take-requires-clause-classes
take-requires-clause-classes c = (room c.args.parser.now c.requires.0 (sym c.is_some.ensures ∙ c.if-is_some.false) c.requires.1 c.requires.2).0

pub take-requires-clause-roles : goal.take-requires-clause-roles
take-requires-clause-roles c = (room c.args.parser.now c.requires.0 (sym c.is_some.ensures ∙ c.if-is_some.false) c.requires.1 c.requires.2).1
