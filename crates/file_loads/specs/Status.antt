-- The numbers that a call ends with.
use Rattle.std.specs.Prelude.{ℕ}
use Rattle.file_loads.specs.declared.outcome.Status.{Status}
use Rattle.file_loads.specs.declared.outcome.Status.TheVariants.{Done, Counterexample, NotAccepted, Broken, Unknown, Refused, NoNetwork, ReadFault, Usage, Memory, WriteFault}

abbrev pub code_of : Status → ℕ
code_of Done = 0
code_of Counterexample = 1
code_of NotAccepted = 1
code_of Broken = 1
code_of Unknown = 2
code_of Refused = 3
code_of NoNetwork = 4
code_of ReadFault = 5
code_of Usage = 6
code_of Memory = 7
code_of WriteFault = 8
