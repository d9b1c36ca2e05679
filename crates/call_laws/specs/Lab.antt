-- The natives, presets and counters of the lab unit, and short ways to write calls, occurrences and replies.
use Rattle.std.specs.Prelude.{ℕ, zero, suc, ◌+◌, ◌++◌, map, ℤ, bit_and, true, false, List, [], ◌∷◌, Some, None, Result, Ok}
use Rattle.papi_base.specs.declared.native.Native.{Native}
use Rattle.papi_base.specs.declared.native.Mods.{Mods}
use Rattle.papi_base.specs.declared.occurrence.Occ.{Occ}
use Rattle.overflow_dispatch.specs.declared.handler.Note.{Note}
use Rattle.papi_base.specs.declared.native.EventRef.{EventRef}
use Rattle.papi_base.specs.declared.native.EventRef.TheVariants as event
use Rattle.papi_base.specs.declared.code.Code.{Code}
use Rattle.papi_base.specs.declared.code.Code.TheVariants as code
use Rattle.postfix_rules.specs.Rules.{DerivedView}
use Rattle.postfix_rules.specs.declared.rule.Rule.TheVariants as rule
use Rattle.postfix_rules.specs.declared.token.Token.TheVariants as token
use Rattle.postfix_rules.specs.declared.token.Operator.TheVariants as op
use Rattle.postfix_rules.specs.Presets.{Book}
use Rattle.session_model.specs.CallTypes.{Asked, Call}
use Rattle.call_type.specs.declared.call.Call.TheVariants.{Add}
use Rattle.call_type.specs.declared.call.Asked.TheVariants as asked
use Rattle.session_model.specs.declared.line.Line.{Line}
use Rattle.session_model.specs.declared.reply.Body.TheVariants as body
use Rattle.session_model.specs.declared.reply.Ended.{Ended}
use Rattle.session_model.specs.declared.reply.Ended.TheVariants as ended
use Rattle.session_model.specs.declared.reply.Reply.{Reply}
use Rattle.event_sets.specs.AtRest.{Widths}
use Rattle.papi_base.specs.Streams.{Coming, Dry}
use Rattle.session_model.specs.Account.{Account, opening}
use Rattle.session_model.specs.Replies.{plain, done}
use Rattle.session_model.specs.Step.{notes_to, replies_to}
use Rattle.session_model.specs.World.{Setting, told, opening_world}

-- no modifier
abbrev pub no_mods : Mods
no_mods = record { user = false; kernel = false; edge = false; invert = false; cmask = 0 }

-- lab::INST_RETIRED, on all three counters
abbrev pub inst : Native
inst = record { comp = 0; event = 0; select = 0xc0; masks = 0; umask = 0; mods = no_mods; allowed = 7 }

-- lab::CYCLES
abbrev pub cycles : Native
cycles = record { comp = 0; event = 1; select = 0x3c; masks = 0; umask = 0; mods = no_mods; allowed = 3 }

-- lab::BR_INST:ALL
abbrev pub br_inst : Native
br_inst = record { comp = 0; event = 2; select = 0xc4; masks = 1; umask = 1; mods = no_mods; allowed = 1 }

-- lab::BR_MISP
abbrev pub br_misp : Native
br_misp = record { comp = 0; event = 3; select = 0xc5; masks = 0; umask = 0; mods = no_mods; allowed = 1 }

-- lab::CACHE
abbrev pub cache : Native
cache = record { comp = 0; event = 4; select = 0x2e; masks = 0; umask = 0; mods = no_mods; allowed = 2 }

-- lab::REF, on the fixed counter alone
abbrev pub ref_cycles : Native
ref_cycles = record { comp = 0; event = 6; select = 0; masks = 0; umask = 0; mods = no_mods; allowed = 4 }

-- the event of the second component
abbrev pub packets : Native
packets = record { comp = 1; event = 0; select = 0x10; masks = 0; umask = 0; mods = no_mods; allowed = 1 }

-- the native with a counter mask
abbrev pub masked : Native → ℕ → Native
masked n c = record n { mods = record (n.mods) { cmask = c } }

-- the two counters of the lab's components: three of 16 bits, one of 48
abbrev pub shape : Widths
shape = (16 ∷ 16 ∷ 16 ∷ []) ∷ (48 ∷ []) ∷ []

-- no presets
abbrev pub no_book : Book
no_book = []

-- mispredictions taken from all branches
abbrev pub predicted : DerivedView
predicted = record {
  natives = br_inst ∷ br_misp ∷ [];
  rule = rule.Postfix (record { tokens = token.Native 0 ∷ token.Native 1 ∷ token.Operator op.Minus ∷ []; natives = 2 });
}

-- the presets of the lab's processor, in the order of the table
abbrev pub book : Book
book =
    None ∷ None ∷ None ∷ None ∷ None ∷ None ∷ None ∷ None ∷ None ∷ None ∷ None ∷ None ∷ None ∷ None ∷ None
    ∷ Some (record { natives = br_misp ∷ []; rule = rule.Plain })
    ∷ Some predicted
    ∷ Some (record { natives = inst ∷ []; rule = rule.Plain })
    ∷ None ∷ None
    ∷ Some (record { natives = br_inst ∷ []; rule = rule.Plain })
    ∷ Some (record { natives = cycles ∷ inst ∷ []; rule = rule.Sub })
    ∷ Some (record { natives = cycles ∷ []; rule = rule.Plain })
    ∷ Some (record { natives = cache ∷ inst ∷ []; rule = rule.Sum })
    ∷ None ∷ None ∷ []

-- the codes of all presets, in the order of the table
abbrev pub preset_codes : List ℕ
preset_codes =
    0x80000000 ∷ 0x80000001 ∷ 0x80000002 ∷ 0x80000003 ∷ 0x80000006 ∷ 0x80000007 ∷ 0x80000008 ∷ 0x80000014 ∷ 0x80000015 ∷ 0x80000017
    ∷ 0x80000018 ∷ 0x8000002a ∷ 0x8000002b ∷ 0x8000002c ∷ 0x8000002d ∷ 0x8000002e ∷ 0x8000002f ∷ 0x80000032 ∷ 0x80000035 ∷ 0x80000036
    ∷ 0x80000037 ∷ 0x80000039 ∷ 0x8000003b ∷ 0x8000003c ∷ 0x80000066 ∷ 0x8000006b ∷ []

-- an event's text that was looked up
abbrev pub named : Native → Result EventRef Code
named n = Ok (event.Native n)

-- the preset in a row
abbrev pub preset : ℕ → Result EventRef Code
preset row = Ok (event.Preset row)

-- occurrences, of mode user and at the program counter 1 if nothing else is said
abbrev pub occ_at : ℕ → ℕ → ℕ → ℕ → ℕ → Occ
occ_at select umask amount pc stamp = record { comp = 0; select = select; umask = umask; kernel = false; amount = amount; pc = pc; stamp = stamp }

-- the same without a umask, at the program counter 1
abbrev pub occ : ℕ → ℕ → ℕ → Occ
occ select amount stamp = occ_at select 0 amount 1 stamp

-- thread 0 before its first call, over these occurrences
abbrev pub thread_of : List Occ → Account
thread_of os = opening 0 os Dry

-- PAPI_OK alone
abbrev pub ok : Reply
ok = plain code.Ok

-- PAPI_OK with the number of a new set
abbrev pub number : ℕ → Reply
number k = done (body.SetNumber k)

-- PAPI_OK with values
abbrev pub values : List ℤ → Reply
values xs = done (body.Values xs)

-- a run that took k occurrences and made n notes
abbrev pub ran : ℕ → ℕ → Reply
ran k notes = done (body.Ran (record { consumed = k; notes = notes; ended = ended.Going }))

-- PAPI_OK with a counter's register
abbrev pub register : ℕ → Reply
register x = done (body.Register x)

-- PAPI_ECNFLCT with the natives to blame and the counters that they are allowed, as bits
abbrev pub clash : List Native → ℕ → Reply
clash natives counters = record { code = code.Ecnflct; body = body.Clash (record { natives = natives; counters = counters }) }

-- PAPI_OK with natives and the counter of each
abbrev pub assigned : List Native → List ℕ → Reply
assigned natives counters = done (body.Assigned (record { natives = natives; counters = counters }))

-- PAPI_OK with events
abbrev pub events : List EventRef → Reply
events es = done (body.Events es)

-- PAPI_OK with the bits of a state
abbrev pub state : ℕ → Reply
state bits = done (body.State bits)

-- a note of thread 0
abbrev pub note : ℕ → ℕ → ℕ → Note
note set index pc = record { thread = 0; set = set; index = index; pc = pc }

-- n occurrences of one native, with stamps and program counters that go up by one
abbrev pub steady : ℕ → ℕ → ℕ → ℕ → ℕ → List Occ
steady zero select amount pc stamp = []
steady (suc n) select amount pc stamp = occ_at select 0 amount pc stamp ∷ steady n select amount (pc + 1) (stamp + 1)

-- the same calls n times
abbrev pub times : {X : Type 0} → ℕ → List X → List X
times zero xs = []
times (suc n) xs = xs ++ times n xs

-- adds of the native with each counter mask from this one on
abbrev pub masked_adds : ℕ → Native → ℕ → List Call
masked_adds zero n c = []
masked_adds (suc k) n c = Add 0 (named (masked n c)) ∷ masked_adds k n (c + 1)

-- the lab: its presets, their codes, and its counters
abbrev pub setting : Setting
setting = record { book = book; codes = preset_codes; shape = shape }

-- a stream without a fault
abbrev pub dry : List Occ → Coming
dry os = record { rest = os; mark = Dry }

-- the replies of a script, over these streams
abbrev pub script : List Coming → List Line → List Reply
script streams ls = map (λ x. x.reply) (told setting (opening_world streams) ls)

-- a line with a call on a session
abbrev pub on : ℕ → Call → Line
on t c = record { thread = t; asked = asked.Call c }

-- a line that asks for something
abbrev pub asks : ℕ → Asked → Line
asks t a = record { thread = t; asked = a }

-- lab::INST_RETIRED:k
abbrev pub inst_k : Native
inst_k = record inst { mods = record no_mods { kernel = true } }

-- the native with `i`
abbrev pub inverted : Native → Native
inverted n = record n { mods = record (n.mods) { invert = true } }

-- the native with `e`
abbrev pub edged : Native → Native
edged n = record n { mods = record (n.mods) { edge = true } }

-- the native without the fixed counter, which takes no counter mask
abbrev pub no_fixed : Native → Native
no_fixed n = record n { allowed = bit_and n.allowed 3 }

-- twice the difference of cycles and instructions
abbrev pub stall2 : DerivedView
stall2 = record {
  natives = cycles ∷ inst ∷ [];
  rule = rule.Postfix (record {
    tokens = token.Native 0 ∷ token.Native 1 ∷ token.Operator op.Minus ∷ token.Constant 2 ∷ token.Operator op.Times ∷ [];
    natives = 2;
  });
}

-- an occurrence of mode kernel
abbrev pub kernel_occ : ℕ → ℕ → ℕ → Occ
kernel_occ select amount stamp = record (occ select amount stamp) { kernel = true }

-- a run that met a mark
abbrev pub met : ℕ → Ended → Reply
met k e = record { code = code.Esys; body = body.Ran (record { consumed = k; notes = 0; ended = e }) }

-- PAPI_OK with an event's code
abbrev pub event_code : ℕ → Reply
event_code c = done (body.EventCode c)

-- PAPI_OK with an event's name
abbrev pub event_name : EventRef → Reply
event_name e = done (body.EventName e)

-- PAPI_OK with the registered threads, as bits
abbrev pub threads : ℕ → Reply
threads bits = done (body.Threads bits)

-- the replies to one thread's calls over these occurrences, without presets
abbrev pub replies : List Occ → List Call → List Reply
replies os calls = replies_to no_book shape (thread_of os) calls

-- the same with the lab's presets
abbrev pub replies_by_book : List Occ → List Call → List Reply
replies_by_book os calls = replies_to book shape (thread_of os) calls

-- the notes of these calls, without presets
abbrev pub notes : List Occ → List Call → List Note
notes os calls = notes_to no_book shape (thread_of os) calls
