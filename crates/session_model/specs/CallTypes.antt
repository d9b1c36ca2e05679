-- The calls with their events looked up, and what the lines of a script ask for then.
use Rattle.std.specs.Prelude.{ℕ, Result}
use Rattle.call_type.specs.declared.call.Asked as asked
use Rattle.call_type.specs.declared.call.Call as call
use Rattle.papi_base.specs.declared.code.Code.{Code}
use Rattle.papi_base.specs.declared.native.EventRef.{EventRef}

-- an event's text as it was looked up: the event, or the code with which the text was refused
abbrev pub Named : Type 0
Named = Result EventRef Code

-- a call on a session
abbrev pub Call : Type 0
Call = call.Call Named

-- what a line asks for
abbrev pub Asked : Type 0
Asked = asked.Asked Named Named ℕ
