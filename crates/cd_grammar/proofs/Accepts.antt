-- What the machine takes is a document.
use Rattle.std.proofs.Common.{◌≡◌, List, [], refl}
use Rattle.std.specs.Prelude.{Some}
use Rattle.cd_syntax.specs.declared.item.Item.{Item}
use Rattle.cd_syntax.specs.declared.known.Known.{Known}
use Rattle.cd_syntax.specs.Grammar.{nesting}
use Rattle.cd_syntax.proofs.ItemGrammar.{Leads, IsWhole}
use Rattle.cd_grammar.specs.Machine.{after, start}
use Rattle.cd_grammar.proofs.Runs.{is_behind}

-- items that the machine takes from the start to the end are a document
pub accepts : (items : List Item) (known : Known) → after nesting start items ≡ Some (known, []) → IsWhole items known
accepts items known ends = is_behind items (known, []) ends [] (refl, refl) known [] Leads.here
