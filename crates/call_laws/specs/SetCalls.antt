-- The tables of the calls that do something to a set, by their manual pages: PAPI_add_event(3), PAPI_start(3), PAPI_accum(3) and so on.
-- That each change of a set zeroes its counts is a choice of this project.
use Rattle.std.specs.Prelude.{ℕ, Bool, true, false, ◌&&◌, ◌||◌, if◌then◌else◌, List, [], ◌∷◌, Option, Some, None, Ok}
use Rattle.postfix_rules.specs.Presets.{Book}
use Rattle.event_sets.specs.AtRest.{AtRest, emptied, new_set, with_event, with_threshold, without_event}
use Rattle.session_model.specs.CallTypes.{Call}
use Rattle.call_type.specs.declared.call.Call.TheVariants as call
use Rattle.call_laws.specs.History.{CallReply, is_number, is_ok, makes}

-- the set that a call changes, if its event was looked up
abbrev pub set_of_call : Call → Option ℕ
set_of_call (call.Cleanup k) = Some k
set_of_call (call.Add k (Ok e)) = Some k
set_of_call (call.Remove k (Ok e)) = Some k
set_of_call (call.AssignComponent k comp) = Some k
set_of_call (call.SetDomain k bits) = Some k
set_of_call (call.SetMultiplex k slice) = Some k
set_of_call (call.Overflow k (Ok e) t) = Some k
set_of_call (call.Start k) = Some k
set_of_call (call.Stop k) = Some k
set_of_call (call.Accum k) = Some k
set_of_call (call.Reset k) = Some k
set_of_call c = None

-- the call changed the set of this number: PAPI_OK was replied
abbrev pub changed : ℕ → CallReply → Bool
changed k x = is_number k (set_of_call x.call) && is_ok x.reply.code

-- the calls that zero the counts of their set
abbrev pub is_zeroing : Call → Bool
is_zeroing (call.Cleanup k) = true
is_zeroing (call.Add k e) = true
is_zeroing (call.Remove k e) = true
is_zeroing (call.SetDomain k bits) = true
is_zeroing (call.SetMultiplex k slice) = true
is_zeroing (call.Overflow k e t) = true
is_zeroing (call.Start k) = true
is_zeroing (call.Accum k) = true
is_zeroing (call.Reset k) = true
is_zeroing c = false

-- the calls that begin the caller's values of their set again
abbrev pub is_clearing : Call → Bool
is_clearing (call.Cleanup k) = true
is_clearing (call.Add k e) = true
is_clearing (call.Remove k e) = true
is_clearing c = false

-- the call that adds the values of its set to the caller's
abbrev pub is_accum : Call → Bool
is_accum (call.Accum k) = true
is_accum c = false

-- whether a set runs after a call that changed it
abbrev pub runs_after : Call → Bool → Bool
runs_after (call.Start k) on = true
runs_after (call.Stop k) on = false
runs_after c on = on

-- what a set holds after a call that changed it
abbrev pub holds_after : Book → Call → AtRest → AtRest
holds_after book (call.Cleanup k) s = emptied s
holds_after book (call.Add k (Ok e)) s = with_event book e s
holds_after book (call.Remove k (Ok e)) s = without_event e s
holds_after book (call.AssignComponent k comp) s = record s { component = Some comp }
holds_after book (call.SetDomain k bits) s = record s { domain = record { 0 = bits } }
holds_after book (call.SetMultiplex k slice) s = record s { slice = Some slice }
holds_after book (call.Overflow k (Ok e) t) s = with_threshold e t s
holds_after book c s = s

-- the call zeroed the counts of the set of this number, or made the set
abbrev pub zeroes : ℕ → CallReply → Bool
zeroes k x = makes k x || (changed k x && is_zeroing x.call)

-- the call began the caller's values of the set of this number, or made the set
abbrev pub clears : ℕ → CallReply → Bool
clears k x = makes k x || (changed k x && is_clearing x.call)

-- the call added the values of the set of this number to the caller's
abbrev pub accumulates : ℕ → CallReply → Bool
accumulates k x = changed k x && is_accum x.call

-- the set of this number runs: it was started, and not stopped since then
abbrev pub runs_now : ℕ → List CallReply → Bool
runs_now k [] = false
runs_now k (x ∷ earlier) = if changed k x then runs_after x.call (runs_now k earlier) else runs_now k earlier

-- what the set of this number holds: its events, their thresholds, its component, domain and slice
abbrev pub set_now : Book → ℕ → List CallReply → AtRest
set_now book k [] = new_set
set_now book k (x ∷ earlier) = if makes k x then new_set else if changed k x then holds_after book x.call (set_now book k earlier) else set_now book k earlier
