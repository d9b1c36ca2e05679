-- Refusals, and what they leave. Worked rows over the lab unit, for PAPI_add_event(3), PAPI_start(3) and so on.
use Rattle.std.specs.Prelude.{pos, [], ◌∷◌, ◌++◌, ◌+◌, ◌-◌, drop, ◌≡◌, Err}
use Rattle.papi_base.specs.declared.limits.TheConstants.{MOST_SETS}
use Rattle.papi_base.specs.declared.native.EventRef.TheVariants as event
use Rattle.papi_base.specs.declared.code.Code.TheVariants as code
use Rattle.papi_base.specs.declared.occurrence.LineCause.TheVariants.{Stamp}
use Rattle.call_type.specs.declared.call.Call.TheVariants.{Create, Destroy, Cleanup, Add, Remove, AssignComponent, SetDomain, SetMultiplex, Overflow, Start, Stop, Read, State, Raw, Run}
use Rattle.call_type.specs.declared.call.Asked.TheVariants as asked
use Rattle.session_model.specs.declared.reply.Ended.TheVariants as ended
use Rattle.papi_base.specs.Streams.{Bad}
use Rattle.session_model.specs.Account.{opening}
use Rattle.session_model.specs.Replies.{plain}
use Rattle.session_model.specs.Step.{replies_to}
use Rattle.call_laws.specs.Lab.{inst, cycles, br_inst, br_misp, packets, shape, no_book, named, occ_at, occ, times, ok, number, values, ran, met, register, clash, state, event_name, script, on, asks, replies}

-- the refusals of one thread
abbrev pub Refusals : Type 0
Refusals = replies ([])
    (Add 0 (named cycles) ∷ Create ∷ Start 0 ∷ AssignComponent 0 2 ∷ AssignComponent 0 1 ∷ Add 0 (named cycles) ∷ Add 0 (named packets)
    ∷ Add 0 (named packets) ∷ Add 0 (Err code.Enoevnt) ∷ Add 0 (Err code.Eattr) ∷ Add 0 (Err code.Ecombo) ∷ Stop 0 ∷ Raw 0 0 ∷ Start 0 ∷ Start 0
    ∷ Add 0 (Err code.Enoevnt) ∷ Raw 0 1 ∷ Raw 0 0 ∷ SetDomain 0 1 ∷ Stop 0 ∷ SetDomain 0 4 ∷ SetDomain 0 3 ∷ Destroy 0 ∷ SetMultiplex 0 0
    ∷ Overflow 0 (named packets) 1000 ∷ SetMultiplex 0 5 ∷ State 0 ∷ Remove 0 (named cycles) ∷ Cleanup 0 ∷ Destroy 0 ∷ Read 0 ∷ [])
    ≡ plain code.Enoevst ∷ number 0 ∷ plain code.Einval ∷ plain code.Enocmp ∷ ok ∷ plain code.Einval ∷ ok ∷ plain code.Einval ∷ plain code.Enoevnt
    ∷ plain code.Eattr ∷ plain code.Ecombo ∷ plain code.Enotrun ∷ plain code.Enotrun ∷ ok ∷ plain code.Eisrun ∷ plain code.Eisrun
    ∷ plain code.Einval ∷ register 0 ∷ plain code.Eisrun ∷ values (pos 0 ∷ []) ∷ plain code.Einval ∷ ok ∷ plain code.Einval ∷ plain code.Einval
    ∷ ok ∷ plain code.Ecombo ∷ state 0x11 ∷ plain code.Einval ∷ ok ∷ ok ∷ plain code.Enoevst ∷ []

-- two sets, and a set that does not run
abbrev pub FirstSets : Type 0
FirstSets = replies ([])
    (Create ∷ Create ∷ Add 0 (named cycles) ∷ Add 0 (named inst) ∷ Add 1 (named cycles) ∷ Stop 0 ∷ [])
    ≡ number 0 ∷ number 1 ∷ ok ∷ ok ∷ ok ∷ plain code.Enotrun ∷ []

-- the least free number, and no set more
abbrev pub MostSets : Type 0
MostSets = drop (MOST_SETS - 2) (replies [] (times (MOST_SETS + 1) (Create ∷ []) ++ Destroy 5 ∷ Create ∷ []))
    ≡ number (MOST_SETS - 2) ∷ number (MOST_SETS - 1) ∷ plain code.Ecount ∷ ok ∷ number 5 ∷ []

-- a run that meets a bad line, once
abbrev pub BadStamp : Type 0
BadStamp = replies_to no_book shape (opening 0 (occ_at 0xc4 1 3 1 0 ∷ occ 0xc5 2 1 ∷ occ 0xc5 3 2 ∷ []) (Bad 5 Stamp)) (Run 4 ∷ Run 1 ∷ [])
    ≡ met 3 (ended.Bad 5 Stamp) ∷ ran 0 0 ∷ []

-- a refused add is a mention
abbrev pub RefusedMention : Type 0
RefusedMention = script [] (on 0 Create ∷ on 0 (Add 0 (named br_inst)) ∷ on 0 (Add 0 (named br_misp)) ∷ asks 0 (asked.NameOf 0x40000001) ∷ [])
    ≡ number 0 ∷ ok ∷ clash (br_inst ∷ br_misp ∷ []) 1 ∷ event_name (event.Native br_misp) ∷ []
