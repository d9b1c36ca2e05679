-- Native events that take turns. Worked rows over the lab unit, for PAPI_set_multiplex(3).
use Rattle.std.specs.Prelude.{pos, [], ◌∷◌, ◌≡◌}
use Rattle.papi_base.specs.declared.code.Code.TheVariants as code
use Rattle.call_type.specs.declared.call.Call.TheVariants.{Create, Add, SetMultiplex, Start, Read, State, Assign, Raw, Run}
use Rattle.session_model.specs.Replies.{plain}
use Rattle.call_laws.specs.Lab.{br_inst, br_misp, named, occ_at, occ, ok, number, values, ran, state, replies}

-- two natives that take turns, and what a multiplexed set refuses
abbrev pub TakeTurns : Type 0
TakeTurns =
    replies (occ_at 0xc4 1 1 1 0 ∷ occ 0xc5 1 1 ∷ occ_at 0xc4 1 1 1 2 ∷ occ 0xc5 1 3 ∷ occ_at 0xc4 1 1 1 4 ∷ occ 0xc5 1 5
    ∷ occ_at 0xc4 1 1 1 6 ∷ occ 0xc5 1 7 ∷ [])
    (Create ∷ SetMultiplex 0 2 ∷ Add 0 (named br_inst) ∷ Add 0 (named br_misp) ∷ Start 0 ∷ Read 0 ∷ Run 8 ∷ Read 0 ∷ State 0 ∷ Raw 0 0 ∷ Assign 0
    ∷ [])
    ≡ number 0 ∷ ok ∷ ok ∷ ok ∷ ok ∷ values (pos 0 ∷ pos 0 ∷ []) ∷ ran 8 0 ∷ values (pos 4 ∷ pos 4 ∷ []) ∷ state 0x42 ∷ plain code.Ecombo
    ∷ plain code.Ecombo ∷ []

-- an estimate that is rounded down
abbrev pub EstimateOfFive : Type 0
EstimateOfFive = replies (occ_at 0xc4 1 1 1 0 ∷ occ_at 0xc4 1 2 1 1 ∷ occ_at 0xc4 1 3 1 2 ∷ occ_at 0xc4 1 4 1 3 ∷ occ_at 0xc4 1 5 1 4 ∷ [])
    (Create ∷ SetMultiplex 0 2 ∷ Add 0 (named br_inst) ∷ Add 0 (named br_misp) ∷ Start 0 ∷ Run 5 ∷ Read 0 ∷ [])
    ≡ number 0 ∷ ok ∷ ok ∷ ok ∷ ok ∷ ran 5 0 ∷ values (pos 13 ∷ pos 0 ∷ []) ∷ []

-- time is that of the stamps
abbrev pub Stamps : Type 0
Stamps = replies (occ_at 0xc4 1 3 1 0 ∷ occ 0xc5 2 1 ∷ occ 0xc5 5 2 ∷ occ_at 0xc4 1 4 1 9 ∷ [])
    (Create ∷ SetMultiplex 0 2 ∷ Add 0 (named br_inst) ∷ Add 0 (named br_misp) ∷ Start 0 ∷ Run 4 ∷ Read 0 ∷ [])
    ≡ number 0 ∷ ok ∷ ok ∷ ok ∷ ok ∷ ran 4 0 ∷ values (pos 11 ∷ pos 12 ∷ []) ∷ []

-- without stamps an occurrence takes one tick
abbrev pub NoStamps : Type 0
NoStamps = replies (occ_at 0xc4 1 3 1 0 ∷ occ 0xc5 2 1 ∷ occ 0xc5 5 2 ∷ occ_at 0xc4 1 4 1 3 ∷ [])
    (Create ∷ SetMultiplex 0 2 ∷ Add 0 (named br_inst) ∷ Add 0 (named br_misp) ∷ Start 0 ∷ Run 4 ∷ Read 0 ∷ [])
    ≡ number 0 ∷ ok ∷ ok ∷ ok ∷ ok ∷ ran 4 0 ∷ values (pos 6 ∷ pos 10 ∷ []) ∷ []
