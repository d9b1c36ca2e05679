-- The numbers of a call's status: this project's own.
use Rattle.std.specs.Prelude.{ℕ}
use Rattle.papi_tools.specs.declared.status.Status.{Status}
use Rattle.papi_tools.specs.declared.status.Status.TheVariants.{Whole, No, Refused, ReadFault, Memory, WriteFault}
use Rattle.papi_tools.specs.declared.status.Outcome.{Outcome}
use Rattle.papi_tools.specs.declared.status.Outcome.TheVariants as outcome

-- the number with which the program ends
abbrev pub number_of : Status → ℕ
number_of Whole = 0
number_of No = 1
number_of Refused = 2
number_of ReadFault = 3
number_of Memory = 4
number_of WriteFault = 5

-- the status of a call that has written all that it has to say
abbrev pub status_of : Outcome → Status
status_of outcome.Whole = Whole
status_of outcome.No = No
status_of outcome.Refused = Refused
status_of outcome.ReadFault = ReadFault
