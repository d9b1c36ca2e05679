-- Several threads in one script. Worked rows over the lab unit, for PAPI_register_thread(3), PAPI_event_name_to_code(3).
use Rattle.std.specs.Prelude.{pos, [], ◌∷◌, ◌≡◌}
use Rattle.papi_base.specs.declared.native.EventRef.TheVariants as event
use Rattle.papi_base.specs.declared.code.Code.TheVariants as code
use Rattle.call_type.specs.declared.call.Call.TheVariants.{Register, Unregister, Create, Add, Start, Stop, Read, Run}
use Rattle.call_type.specs.declared.call.Asked.TheVariants as asked
use Rattle.session_model.specs.declared.reply.Ended.TheVariants as ended
use Rattle.papi_base.specs.Streams.{Fault}
use Rattle.session_model.specs.Replies.{plain}
use Rattle.call_laws.specs.Lab.{inst, cycles, br_misp, named, preset, occ_at, occ, ok, number, values, ran, met, event_code, event_name, threads, script, dry, on, asks}

-- codes are common to all threads, and names come with the mentions
abbrev pub CodesAndNames : Type 0
CodesAndNames =
    script [] (asks 0 (asked.NameOf 0x40000000) ∷ asks 1 (asked.CodeOf (named cycles)) ∷ asks 0 (asked.CodeOf (named cycles))
    ∷ asks 0 (asked.NameOf 0x40000000) ∷ asks 0 (asked.CodeOf (preset 17)) ∷ [])
    ≡ plain code.Enoevnt ∷ event_code 0x40000000 ∷ event_code 0x40000000 ∷ event_name (event.Native cycles) ∷ event_code 0x80000032 ∷ []

-- the second native mentioned, by another thread
abbrev pub CodesOfTwoThreads : Type 0
CodesOfTwoThreads = script [] (asks 1 (asked.CodeOf (named cycles)) ∷ asks 0 (asked.CodeOf (named br_misp)) ∷ [])
    ≡ event_code 0x40000000 ∷ event_code 0x40000001 ∷ []

-- threads that are registered
abbrev pub RegisteredThreads : Type 0
RegisteredThreads =
    script [] (on 1 Register ∷ asks 0 asked.Threads ∷ on 0 Unregister ∷ on 1 Create ∷ on 1 (Add 0 (named cycles)) ∷ on 1 (Start 0)
    ∷ on 1 Unregister ∷ on 1 (Stop 0) ∷ on 1 Unregister ∷ asks 0 asked.Threads ∷ [])
    ≡ ok ∷ threads 2 ∷ plain code.Einval ∷ number 0 ∷ ok ∷ ok ∷ plain code.Eisrun ∷ values (pos 0 ∷ []) ∷ ok ∷ threads 0 ∷ []

-- three threads in one order
abbrev pub ThreeThreads : Type 0
ThreeThreads = script (dry (occ 0xc0 1 0 ∷ []) ∷ dry (occ 0xc0 2 0 ∷ []) ∷ dry (occ 0xc0 3 0 ∷ []) ∷ [])
    (on 0 Create ∷ on 1 Create ∷ on 2 Create ∷ on 2 (Add 0 (named inst)) ∷ on 0 (Add 0 (named inst)) ∷ on 1 (Add 0 (named inst)) ∷ on 1 (Start 0)
    ∷ on 2 (Start 0) ∷ on 0 (Start 0) ∷ on 0 (Run 5) ∷ on 2 (Run 5) ∷ on 1 (Run 5) ∷ on 1 (Read 0) ∷ on 0 (Read 0) ∷ on 2 (Read 0) ∷ [])
    ≡ number 0 ∷ number 0 ∷ number 0 ∷ ok ∷ ok ∷ ok ∷ ok ∷ ok ∷ ok ∷ ran 1 0 ∷ ran 1 0 ∷ ran 1 0 ∷ values (pos 2 ∷ []) ∷ values (pos 1 ∷ [])
    ∷ values (pos 3 ∷ []) ∷ []

-- a fault of one stream changes no other thread
abbrev pub OneStreamFails : Type 0
OneStreamFails = script (record { rest = occ_at 0xc0 0 1 0x10 0 ∷ []; mark = Fault } ∷ dry (occ 0xc0 7 0 ∷ []) ∷ [])
    (on 0 (Run 5) ∷ on 1 Create ∷ on 1 (Add 0 (named inst)) ∷ on 1 (Start 0) ∷ on 1 (Run 2) ∷ on 0 (Run 5) ∷ on 1 (Read 0) ∷ [])
    ≡ met 1 ended.Fault ∷ number 0 ∷ ok ∷ ok ∷ ran 1 0 ∷ ran 0 0 ∷ values (pos 7 ∷ []) ∷ []
