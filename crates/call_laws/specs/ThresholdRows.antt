-- Thresholds that are passed, and the registers then. Worked rows over the lab unit, for PAPI_overflow(3).
use Rattle.std.specs.Prelude.{pos, [], ◌∷◌, ◌≡◌}
use Rattle.papi_base.specs.declared.code.Code.TheVariants as code
use Rattle.call_type.specs.declared.call.Call.TheVariants.{Create, Add, Overflow, Start, Read, State, Raw, Run}
use Rattle.session_model.specs.Replies.{plain}
use Rattle.call_laws.specs.Lab.{inst, cycles, named, steady, ok, number, values, ran, register, state, note, replies, notes}

-- a threshold is passed twice, and the register keeps the overshoot
abbrev pub ThresholdPassed : Type 0
ThresholdPassed = replies (steady 8 0xc0 255 1 0)
    (Create ∷ Add 0 (named inst) ∷ Overflow 0 (named inst) 255 ∷ Overflow 0 (named inst) 65536 ∷ Overflow 0 (named inst) 65535
    ∷ Overflow 0 (named inst) 1000 ∷ Start 0 ∷ State 0 ∷ Run 8 ∷ Raw 0 0 ∷ [])
    ≡ number 0 ∷ ok ∷ plain code.Einval ∷ plain code.Einval ∷ ok ∷ ok ∷ ok ∷ state 0x12 ∷ ran 8 2 ∷ register 64576 ∷ []

-- the notes of these two passings
abbrev pub ThresholdNotes : Type 0
ThresholdNotes = notes (steady 8 0xc0 255 1 0)
    (Create ∷ Add 0 (named inst) ∷ Overflow 0 (named inst) 255 ∷ Overflow 0 (named inst) 65536 ∷ Overflow 0 (named inst) 65535
    ∷ Overflow 0 (named inst) 1000 ∷ Start 0 ∷ State 0 ∷ Run 8 ∷ Raw 0 0 ∷ [])
    ≡ note 0 0 4 ∷ note 0 0 8 ∷ []

-- the threshold of the second event
abbrev pub SecondThreshold : Type 0
SecondThreshold = replies (steady 4 0x3c 255 1 0)
    (Create ∷ Add 0 (named inst) ∷ Add 0 (named cycles) ∷ Overflow 0 (named inst) 1000 ∷ Overflow 0 (named cycles) 256 ∷ Start 0 ∷ Run 4 ∷ [])
    ≡ number 0 ∷ ok ∷ ok ∷ ok ∷ ok ∷ ok ∷ ran 4 3 ∷ []

-- its notes
abbrev pub SecondThresholdNotes : Type 0
SecondThresholdNotes = notes (steady 4 0x3c 255 1 0)
    (Create ∷ Add 0 (named inst) ∷ Add 0 (named cycles) ∷ Overflow 0 (named inst) 1000 ∷ Overflow 0 (named cycles) 256 ∷ Start 0 ∷ Run 4 ∷ [])
    ≡ note 0 1 2 ∷ note 0 1 3 ∷ note 0 1 4 ∷ []

-- six hundred occurrences over a threshold near the register's end
abbrev pub NarrowRegister : Type 0
NarrowRegister = replies (steady 600 0xc0 255 1 0)
    (Create ∷ Add 0 (named inst) ∷ Overflow 0 (named inst) 65535 ∷ Start 0 ∷ Run 600 ∷ Read 0 ∷ Raw 0 0 ∷ [])
    ≡ number 0 ∷ ok ∷ ok ∷ ok ∷ ran 600 2 ∷ values (pos 153000 ∷ []) ∷ register 21931 ∷ []

abbrev pub NarrowRegisterNotes : Type 0
NarrowRegisterNotes = notes (steady 600 0xc0 255 1 0)
    (Create ∷ Add 0 (named inst) ∷ Overflow 0 (named inst) 65535 ∷ Start 0 ∷ Run 600 ∷ Read 0 ∷ Raw 0 0 ∷ [])
    ≡ note 0 0 0x101 ∷ note 0 0 0x202 ∷ []
