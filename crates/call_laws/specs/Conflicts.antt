-- What calls reply of counters, over any list of calls: PAPI_ECNFLCT of PAPI_add_event(3), and the counters that `assign` shows.
use Rattle.std.specs.Prelude.{ℕ, ◌≡◌, ◌≢◌, ◌↔◌, Bool, true, false, not, ◌&&◌, ◌||◌, List, [], ◌∷◌, All, drop, length, take, Option, Some, None, Ok, slice_get}
use Rattle.papi_base.specs.declared.code.Code.TheVariants as code
use Rattle.papi_base.specs.declared.native.EventRef.{EventRef}
use Rattle.papi_base.specs.declared.native.Native.{Native}
use Rattle.counter_alloc.specs.Assignments.{Assignable, IsLeast}
use Rattle.counter_alloc.specs.Masks.{masks_of}
use Rattle.postfix_rules.specs.Fitting.{BookFits}
use Rattle.event_sets.specs.AtRest.{AtRest, cannot_take, is_full, natives_with, set_natives}
use Rattle.event_sets.specs.Conflicts.{IsLeastClash}
use Rattle.event_sets.specs.declared.refusal.Clash.{Clash}
use Rattle.event_sets.specs.declared.refusal.Refusal.TheVariants.{Conflict}
use Rattle.session_model.specs.CallTypes.{Call}
use Rattle.call_type.specs.declared.call.Call.TheVariants as call
use Rattle.session_model.specs.declared.reply.Body.TheVariants as body
use Rattle.session_model.specs.declared.reply.Reply.{Reply}
use Rattle.session_model.specs.Conditions.{IsGood}
use Rattle.session_model.specs.Fitness.{IsShape}
use Rattle.session_model.specs.Replies.{done, plain, refused}
use Rattle.call_laws.specs.History.{CallReply, Thread, answered, is_number, is_ok, makes, reply_after}
use Rattle.call_laws.specs.SetCalls.{runs_now, set_now}

-- ---- what stands before counters

-- the set that a call destroys: PAPI_destroy_eventset(3)
abbrev pub set_destroyed : Call → Option ℕ
set_destroyed (call.Destroy k) = Some k
set_destroyed c = None

-- the call destroyed the set of this number
abbrev pub destroys : ℕ → CallReply → Bool
destroys k x = is_number k (set_destroyed x.call) && is_ok x.reply.code

-- the set of this number is there: it was made, and not destroyed since then
abbrev pub is_there : ℕ → List CallReply → Bool
is_there k [] = false
is_there k (x ∷ earlier) = makes k x || (not (destroys k x) && is_there k earlier)

-- the thread is over a unit's counters, and each event that its calls name is of the unit or of the presets, which are too
pub record IsOverUnit (t : Thread) (calls : List Call) : Type 0 where
  pub counters : IsShape t.shape
  pub presets : BookFits t.shape t.book
  pub events : All (IsGood t.book t.shape) calls

-- nothing but its counters refuses the event: the set is there and does not run, it is of the event's component and has not the
-- event, and it has room
pub record IsOpenTo (t : Thread) (earlier : List CallReply) (k : ℕ) (e : EventRef) : Type 0 where
  pub there : is_there k earlier ≡ true
  pub at_rest : runs_now k earlier ≡ false
  pub takes : cannot_take t.book e (set_now t.book k earlier) ≡ false
  pub room : is_full t.book e (set_now t.book k earlier) ≡ false

-- ---- a set that is not multiplexed

-- PAPI_ECNFLCT, which names native events and counters
abbrev pub conflict : Clash → Reply
conflict clash = refused (Conflict clash)

-- the reply names a conflict
abbrev pub IsConflict : Reply → Type 0
IsConflict r = (clash : Clash) × (r ≡ conflict clash)

-- The reply is PAPI_OK exactly if distinct allowed counters can be chosen for these native events, and a conflict exactly if
-- they cannot. The conflict names the least set of those with fewer allowed counters than members.
pub record IsByCounters (natives : List Native) (r : Reply) : Type 0 where
  pub taken : (r ≡ plain code.Ok) ↔ Assignable (masks_of natives)
  pub conflicts : IsConflict r ↔ (Assignable (masks_of natives) → ⊥)
  pub names : (clash : Clash) → r ≡ conflict clash → IsLeastClash natives clash

-- so it is of an add that nothing else refuses, and of the native events of the set and the new one
abbrev pub ConflictsByCounters : Type 0
ConflictsByCounters = (t : Thread) (calls : List Call) (k : ℕ) (e : EventRef)
    → IsOverUnit t (call.Add k (Ok e) ∷ calls) → IsOpenTo t (answered t calls) k e
    → (set_now t.book k (answered t calls)).slice ≡ None
    → IsByCounters (natives_with t.book e (set_now t.book k (answered t calls))) (reply_after t calls (call.Add k (Ok e)))

-- ---- a multiplexed set

-- the first of them that no counter is allowed for
pub record IsFirstWithout (natives : List Native) (n : Native) : Type 0 where
  pub place : ℕ
  pub there : slice_get natives place ≡ Some n
  pub none : n.allowed ≡ 0
  pub earlier : All (λ m. m.allowed ≢ 0) (take place natives)

-- The reply is PAPI_OK exactly if a counter is allowed for each of these native events. The conflict names the first that none
-- is allowed for, and no counter.
pub record IsByTurns (natives : List Native) (r : Reply) : Type 0 where
  pub taken : (r ≡ plain code.Ok) ↔ All (λ n. n.allowed ≢ 0) natives
  pub conflicts : (clash : Clash)
      → (r ≡ conflict clash) ↔ ((n : Native) × IsFirstWithout natives n × (clash ≡ record { natives = n ∷ []; counters = 0 }))

-- the native events that a set with these would have more with this event
abbrev pub new_natives : Thread → AtRest → EventRef → List Native
new_natives t s e = drop (length (set_natives t.book s)) (natives_with t.book e s)

-- so it is of an add that nothing else refuses, and of the new native events
abbrev pub ConflictsByTurns : Type 0
ConflictsByTurns = (t : Thread) (calls : List Call) (k slice : ℕ) (e : EventRef)
    → IsOpenTo t (answered t calls) k e → (set_now t.book k (answered t calls)).slice ≡ Some slice
    → IsByTurns (new_natives t (set_now t.book k (answered t calls)) e) (reply_after t calls (call.Add k (Ok e)))

-- ---- the counters that are chosen

-- the reply shows these native events with the least of their assignments
pub record ShowsLeast (natives : List Native) (r : Reply) : Type 0 where
  pub counters : List ℕ
  pub shows : r ≡ done (body.Assigned (record { natives = natives; counters = counters }))
  pub least : IsLeast (masks_of natives) counters

-- `assign` of a set that is there and not multiplexed shows its native events with the least assignment
abbrev pub AssignsLeast : Type 0
AssignsLeast = (t : Thread) (calls : List Call) (k : ℕ)
    → IsOverUnit t (call.Assign k ∷ calls) → is_there k (answered t calls) ≡ true → (set_now t.book k (answered t calls)).slice ≡ None
    → ShowsLeast (set_natives t.book (set_now t.book k (answered t calls))) (reply_after t calls (call.Assign k))
