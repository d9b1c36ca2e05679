-- What contracts see of an event set that does not run, and what each set keeps.
use Rattle.std.specs.Prelude.{ℕ, ◌≡◌, ◌<◌, ◌≤◌, ◌^◌, false, List, All, length, Some, None, slice_get}
use Rattle.papi_base.specs.declared.native.Native.{Native}
use Rattle.papi_base.specs.declared.native.EventRef.{EventRef}
use Rattle.papi_base.specs.declared.limits.TheConstants.{MOST_COUNTERS, MOST_SET_EVENTS, MOST_SET_NATIVES}
use Rattle.counter_alloc.specs.Assignments.{Assignable}
use Rattle.counter_alloc.specs.Masks.{masks_of}
use Rattle.counter_alloc.specs.Matchings.{MatchingView}
use Rattle.postfix_rules.specs.Presets.{Book}
use Rattle.event_sets.specs.AtRest.{AtRest, Widths, set_natives, widths_at, is_bad_domain, is_bad_slice}

-- what is told of the set, its native events, and the number of its component's counters, which is 0 if it has none
pub record SetView : Type 0 where
  pub rest : AtRest
  pub natives : List Native
  pub counters : ℕ

-- a set with the natives of its events by the book and the counters of its component by the shape
abbrev pub set_view : Book → Widths → AtRest → SetView
set_view book shape s = record { rest = s; natives = set_natives book s; counters = length (widths_at shape s.component) }

-- a set whose natives take turns has a slice, an allowed counter for each native, and no thresholds
pub record IsShared (slice : ℕ) (natives : List Native) (thresholds : List ℕ) : Type 0 where
  pub good_slice : is_bad_slice slice ≡ false
  pub some_counter : All (λ n. 0 < n.allowed) natives
  pub no_thresholds : All (λ t. t ≡ 0) thresholds

-- What each set keeps: no event stands twice, the natives are of the set's component and allowed only its counters, and not
-- multiplexed they have counters of their own.
pub record IsSound (s : SetView) : Type 0 where
  pub few_events : length s.rest.events ≤ MOST_SET_EVENTS
  pub few_natives : length s.natives ≤ MOST_SET_NATIVES
  pub few_counters : s.counters ≤ MOST_COUNTERS
  pub one_threshold_each : length s.rest.thresholds ≡ length s.rest.events
  pub distinct : (i j : ℕ) (e : EventRef) → slice_get s.rest.events i ≡ Some e → slice_get s.rest.events j ≡ Some e → i ≡ j
  pub owned : All (λ n. s.rest.component ≡ Some n.comp) s.natives
  pub in_range : All (λ n. n.allowed < 2 ^ s.counters) s.natives
  pub good_domain : is_bad_domain s.rest.domain.0 ≡ false
  pub assignable : s.rest.slice ≡ None → Assignable (masks_of s.natives)
  pub shared : (slice : ℕ) → s.rest.slice ≡ Some slice → IsShared slice s.natives s.rest.thresholds

-- the matching is over the component's counters, and of the natives, unless these take turns
pub record IsMatched (s : SetView) (matching : MatchingView) : Type 0 where
  pub counters : matching.counters ≡ s.counters
  pub natives : s.rest.slice ≡ None → matching.allowed ≡ masks_of s.natives
