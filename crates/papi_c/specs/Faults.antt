-- What is wrong with a file, as papi_run says it: this project's own, docs/FORMATS.md.
use Rattle.std.specs.Prelude.{ℕ, ℤ, ◌≡◌, ◌==◌, ◌⊎◌, codes, if◌then◌else◌, negsuc, option_map, IsUtf8, List, [], Option, Some, None}
use Rattle.event_tables.specs.Unit as Unit
use Rattle.papi_base.specs.LineCauses.{cause_text}
use Rattle.papi_base.specs.declared.occurrence.LineCause.{LineCause}
use Rattle.papi_base.specs.declared.occurrence.LineCause.TheVariants as cause
use Rattle.papi_c.specs.Placed.{ArePlaced, IsRefused}
use Rattle.papi_c.specs.declared.faults.StreamFault.{StreamFault}
use Rattle.preset_csv.specs.Presets as Presets
use Rattle.session_model.specs.declared.reply.Ended.{Ended}
use Rattle.session_model.specs.declared.reply.Ended.TheVariants as ended
use Rattle.user_events.specs.Rows.{extended_fault}

-- the first faulty row of a unit file, from 1, and what is wrong with it
abbrev pub unit_told : List ℕ → Option (ℕ × List ℕ)
unit_told unit = option_map (λ f. (f.0, Unit.cause_text f.1)) (Unit.unit_fault unit)

-- the same of a preset file, as it is read for a cpu
abbrev pub presets_told : List ℕ → List ℕ → Option (ℕ × List ℕ)
presets_told presets cpu = option_map (λ f. (f.0, Presets.cause_text f.1)) (extended_fault cpu presets)

-- the row that is told, and 0 if none is faulty
abbrev pub told_row : Option (ℕ × List ℕ) → ℕ
told_row (Some fault) = fault.0
told_row None = 0

-- the text that is told, which is empty if no row is faulty
abbrev pub told_text : Option (ℕ × List ℕ) → List ℕ
told_text (Some fault) = fault.1
told_text None = []

-- the row is given, and the text stands at the first places
pub record IsTold (fault : Option (ℕ × List ℕ)) (row : ℕ) (number : ℤ) (count : ℕ) (before after : List ℕ) : Type 0 where
  pub first : row ≡ told_row fault
  pub text : ArePlaced (told_text fault) number count before after

-- the same, or memory is refused, PAPI_ENOMEM, and the row stays too
abbrev pub TellsFault : Option (ℕ × List ℕ) → ℕ → ℕ → ℤ → ℕ → ℕ → List ℕ → List ℕ → Type 0
TellsFault fault was row number counted count before after =
    IsTold fault row number count before after ⊎ (IsRefused (negsuc 1) number counted count before after × (row ≡ was))

-- the same of a preset file; or its cpu is not a text, PAPI_EINVAL
abbrev pub TellsPresets : List ℕ → List ℕ → ℕ → ℕ → ℤ → ℕ → ℕ → List ℕ → List ℕ → Type 0
TellsPresets presets cpu was row number counted count before after =
    TellsFault (presets_told presets cpu) was row number counted count before after
    ⊎ (IsRefused (negsuc 0) number counted count before after × (row ≡ was) × ¬ (IsUtf8 cpu))

-- the number of a cause, as kistalub.h has them
abbrev pub cause_number : LineCause → ℕ
cause_number cause.Long = 1
cause_number cause.Size = 2
cause_number cause.Fields = 3
cause_number cause.Field = 4
cause_number cause.Stamp = 5

-- how a run ended: the line and the number of its cause, if a line is bad; a read that failed is 6, and has no line
abbrev pub fault_of : Ended → StreamFault
fault_of ended.Going = record { line = 0; cause = 0 }
fault_of (ended.Bad line why) = record { line = line; cause = cause_number why }
fault_of ended.Fault = record { line = 0; cause = 6 }

-- the words of a cause by its number, as papi_run says them, and none if no cause has it
abbrev pub cause_words : ℕ → List ℕ
cause_words number =
    if number == 1 then cause_text cause.Long
    else if number == 2 then cause_text cause.Size
    else if number == 3 then cause_text cause.Fields
    else if number == 4 then cause_text cause.Field
    else if number == 5 then cause_text cause.Stamp
    else if number == 6 then codes "read failed"
    else []
