-- Why a run stops before there is a text, and the status that it ends with.
use Rattle.cd_grammar.specs.declared.input.ReadRefusal.{ReadRefusal}
use Rattle.cd_saturation.specs.declared.halt.Halt.{Halt}
use Rattle.cd_words.specs.declared.request.AskFault.{AskFault}
use Rattle.cd_top.specs.declared.status.Status.{Status}
use Rattle.cd_top.specs.declared.stop.Stop.{Stop}
use Rattle.cd_top.specs.declared.stop.Stop.TheVariants.{Refused, Usage, Limit, ReadFault, Memory}

-- the status of a stop
abbrev pub status_of : Stop → Status
status_of (Refused refusal) = Status.Refused refusal
status_of Usage = Status.Usage
status_of (Limit kind number) = Status.Limit kind number
status_of ReadFault = Status.ReadFault
status_of Memory = Status.Memory

-- the stop where the words ask for nothing
abbrev pub stop_of_words : AskFault → Stop
stop_of_words AskFault.Usage = Usage
stop_of_words AskFault.Memory = Memory

-- the stop where the input gives no document
abbrev pub stop_of_reading : ReadRefusal → Stop
stop_of_reading (ReadRefusal.Refused refusal) = Refused refusal
stop_of_reading ReadRefusal.ReadFault = ReadFault
stop_of_reading ReadRefusal.Memory = Memory

-- the stop where a document gives no answers
abbrev pub stop_of_halt : Halt → Stop
stop_of_halt (Halt.Limit kind number) = Limit kind number
stop_of_halt Halt.Memory = Memory
