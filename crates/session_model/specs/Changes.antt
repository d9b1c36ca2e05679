-- How a call that is not refused changes the sets, by its manual page: PAPI_create_eventset(3), PAPI_add_event(3),
-- PAPI_start(3), PAPI_accum(3) and so on. That each change of a set zeroes its counts is a choice of this project.
use Rattle.std.specs.Prelude.{ℕ, true, false, List, [], length, replicate, Option, Some, None, Ok, pos, slice_set}
use Rattle.papi_base.specs.declared.occurrence.Occ.{Occ}
use Rattle.postfix_rules.specs.Presets.{Book}
use Rattle.session_model.specs.CallTypes.{Call}
use Rattle.call_type.specs.declared.call.Call.TheVariants as call
use Rattle.event_sets.specs.AtRest.{AtRest, new_set, with_event, without_event, emptied, with_threshold}
use Rattle.session_model.specs.Account.{Kept, end, zeroed}
use Rattle.session_model.specs.Values.{accumulated}
use Rattle.session_model.specs.Faces.{change, free}

-- a new set, without events: PAPI_create_eventset(3)
abbrev pub new_kept : Kept
new_kept = record { set = new_set; running = false; from = 0; to = 0; values = [] }

-- the set at rest is changed, and the counts are zeroed
abbrev pub altered : ℕ → (AtRest → AtRest) → Kept → Kept
altered now f s = zeroed now (record s { set = f s.set })

-- one value of 0 for each event
abbrev pub with_zeros : Kept → Kept
with_zeros s = record s { values = replicate (length s.set.events) (pos 0) }

-- what a call leaves of the set that it names
abbrev pub kept_after : Book → List Occ → Call → Kept → Kept
kept_after book past (call.Cleanup k) s = with_zeros (altered (length past) emptied s)
kept_after book past (call.Add k (Ok e)) s = with_zeros (altered (length past) (with_event book e) s)
kept_after book past (call.Remove k (Ok e)) s = with_zeros (altered (length past) (without_event e) s)
kept_after book past (call.AssignComponent k comp) s = record s { set = record (s.set) { component = Some comp } }
kept_after book past (call.SetDomain k bits) s = altered (length past) (λ set. record set { domain = record { 0 = bits } }) s
kept_after book past (call.SetMultiplex k slice) s = altered (length past) (λ set. record set { slice = Some slice }) s
kept_after book past (call.Overflow k (Ok e) t) s = altered (length past) (with_threshold e t) s
kept_after book past (call.Start k) s = record s { running = true; from = length past; to = length past }
kept_after book past (call.Stop k) s = record s { running = false; to = end (length past) s }
kept_after book past (call.Accum k) s = zeroed (length past) (record s { values = accumulated book past s })
kept_after book past (call.Reset k) s = zeroed (length past) s
kept_after book past call s = s

-- the number of the set that a call changes, if it changes one
abbrev pub changed_by : Call → Option ℕ
changed_by (call.Cleanup k) = Some k
changed_by (call.Add k e) = Some k
changed_by (call.Remove k e) = Some k
changed_by (call.AssignComponent k comp) = Some k
changed_by (call.SetDomain k bits) = Some k
changed_by (call.SetMultiplex k slice) = Some k
changed_by (call.Overflow k e t) = Some k
changed_by (call.Start k) = Some k
changed_by (call.Stop k) = Some k
changed_by (call.Accum k) = Some k
changed_by (call.Reset k) = Some k
changed_by call = None

-- the item under a number changed, if there is a number
abbrev pub changed_at : {X : Type 0} → (X → X) → Option ℕ → List (Option X) → List (Option X)
changed_at f None sets = sets
changed_at f (Some k) sets = change f sets k

-- The sets after a call, whatever is kept of a set. `fresh` is a new one, and `after` is what the call leaves of the one that it names.
abbrev pub sets_after : {X : Type 0} → X → (Call → X → X) → Call → List (Option X) → List (Option X)
sets_after fresh after call.Create sets = slice_set sets (free sets) (Some fresh)
sets_after fresh after (call.Destroy k) sets = slice_set sets k None
sets_after fresh after call sets = changed_at (after call) (changed_by call) sets
