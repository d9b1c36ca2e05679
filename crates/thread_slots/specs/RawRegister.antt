-- What is shown of the register of a counter: the counters of Intel's manual, with the codes of this project.
use Rattle.std.specs.Prelude.{ℕ, nat_le, if◌then◌else◌, List, length, slice_get, Option, Some, None, Result, Ok, Err}
use Rattle.std.specs.Option.{option_and_then}
use Rattle.papi_base.specs.declared.code.Code.{Code}
use Rattle.papi_base.specs.declared.code.Code.TheVariants.{Ecombo, Einval, Enotrun}
use Rattle.counter_unit.specs.declared.registers.Register.{Register}
use Rattle.counter_unit.specs.Counting.{UnitView, at_place}
use Rattle.session_model.specs.Faces.{Face}

-- what is programmed on the counter
abbrev pub register_value : Option Register → Result ℕ Code
register_value None = Err Einval
register_value (Some r) = Ok r.value

-- natives that take turns have no register
abbrev pub register_by : Option ℕ → UnitView → ℕ → Result ℕ Code
register_by None unit c = register_value (at_place unit.registers c)
register_by (Some slice) unit c = Err Ecombo

-- the counter is one of the unit's
abbrev pub register_on : Option ℕ → Option UnitView → ℕ → Result ℕ Code
register_on slice None c = Err Einval
register_on slice (Some unit) c = if nat_le (length unit.widths) c then Err Einval else register_by slice unit c

-- the set runs
abbrev pub register_shown : List UnitView → Face → ℕ → Result ℕ Code
register_shown units f c = if f.running then register_on f.set.slice (option_and_then (slice_get units) f.set.component) c else Err Enotrun
