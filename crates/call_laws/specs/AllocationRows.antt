-- Which events a set takes, and on which counters. Worked rows over the lab unit, for PAPI_add_event(3).
use Rattle.std.specs.Prelude.{[], ◌∷◌, ◌++◌, ◌≡◌, Err}
use Rattle.papi_base.specs.declared.native.EventRef.TheVariants as event
use Rattle.papi_base.specs.declared.code.Code.TheVariants as code
use Rattle.call_type.specs.declared.call.Call.TheVariants.{Create, Add, Remove, SetMultiplex, ListEvents, Assign}
use Rattle.session_model.specs.Replies.{plain}
use Rattle.call_laws.specs.Lab.{inst, cycles, br_inst, br_misp, cache, ref_cycles, masked, no_fixed, named, preset, times, masked_adds, ok, number, clash, assigned, events, replies, replies_by_book}

-- two natives that are allowed the same counter alone
abbrev pub TwoOnOneCounter : Type 0
TwoOnOneCounter = replies ([])
    (Create ∷ Add 0 (named br_inst) ∷ Add 0 (named br_misp) ∷ ListEvents 0 ∷ [])
    ≡ number 0 ∷ ok ∷ clash (br_inst ∷ br_misp ∷ []) 1 ∷ events (event.Native br_inst ∷ []) ∷ []

-- the earlier native moves to another counter
abbrev pub EarlierMoves : Type 0
EarlierMoves = replies ([])
    (Create ∷ Add 0 (named cycles) ∷ Add 0 (named br_inst) ∷ Assign 0 ∷ [])
    ≡ number 0 ∷ ok ∷ ok ∷ assigned (cycles ∷ br_inst ∷ []) (1 ∷ 0 ∷ []) ∷ []

-- a native that is not to blame is not named
abbrev pub BlameIsLeast : Type 0
BlameIsLeast = replies ([])
    (Create ∷ Add 0 (named inst) ∷ Add 0 (named br_inst) ∷ Add 0 (named br_misp) ∷ [])
    ≡ number 0 ∷ ok ∷ ok ∷ clash (br_inst ∷ br_misp ∷ []) 1 ∷ []

-- natives come and go, and the least assignment follows
abbrev pub Placing : Type 0
Placing = replies ([])
    (Create ∷ Add 0 (named inst) ∷ Add 0 (named cycles) ∷ Add 0 (named br_inst) ∷ Assign 0 ∷ Remove 0 (named br_inst) ∷ Assign 0 ∷ Add 0 (named cache)
    ∷ Assign 0 ∷ Add 0 (named br_inst) ∷ [])
    ≡ number 0 ∷ ok ∷ ok ∷ ok ∷ assigned (inst ∷ cycles ∷ br_inst ∷ []) (2 ∷ 1 ∷ 0 ∷ []) ∷ ok ∷ assigned (inst ∷ cycles ∷ []) (0 ∷ 1 ∷ []) ∷ ok
    ∷ assigned (inst ∷ cycles ∷ cache ∷ []) (2 ∷ 0 ∷ 1 ∷ []) ∷ clash (cycles ∷ cache ∷ br_inst ∷ []) 3 ∷ []

-- a preset whose natives cannot be placed, and one that is not available
abbrev pub PresetThatConflicts : Type 0
PresetThatConflicts = replies_by_book ([])
    (Create ∷ Add 0 (preset 16) ∷ Add 0 (Err code.Enoevnt) ∷ [])
    ≡ number 0 ∷ clash (br_inst ∷ br_misp ∷ []) 1 ∷ plain code.Enoevnt ∷ []

-- no 33rd native, and a native without a counter
abbrev pub ThirtyTwoNatives : Type 0
ThirtyTwoNatives = replies [] (Create ∷ SetMultiplex 0 1 ∷ masked_adds 33 cycles 1 ++ Create ∷ Add 1 (named (no_fixed (masked ref_cycles 1))) ∷ [])
    ≡ number 0 ∷ ok ∷ times 32 (ok ∷ []) ++ plain code.Ecount ∷ number 1 ∷ clash (no_fixed (masked ref_cycles 1) ∷ []) 0 ∷ []
