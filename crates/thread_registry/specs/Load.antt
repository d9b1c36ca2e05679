-- How much work calls ask for, by which jobs are dealt to workers.
use Rattle.std.specs.Prelude.{ℕ, ◌^◌, ◌-◌, List, min}
use Rattle.std.specs.List.{sum_by}
use Rattle.session_model.specs.CallTypes.{Call}
use Rattle.call_type.specs.declared.call.Call.TheVariants.{Run}

-- a run asks for n occurrences, and each other call counts as one
abbrev pub call_load : Call → ℕ
call_load (Run n) = n
call_load _ = 1

-- what calls ask for together, at most 2^32 - 1
abbrev pub load_of : List Call → ℕ
load_of calls = min (sum_by call_load calls) (2 ^ 32 - 1)
