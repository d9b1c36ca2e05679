-- Sets that fit the book and the shape: what holds of every set that calls lead to.
use Rattle.std.specs.Prelude.{ℕ, ◌≤◌, ◌<◌, ◌≡◌, List, All, length, slice_get, Option, Some}
use Rattle.papi_base.specs.Widths.{AreWidths}
use Rattle.papi_base.specs.declared.limits.TheConstants.{MOST_COMPONENTS, MOST_COUNTERS}
use Rattle.counter_unit.specs.Counting.{IsThreshold}
use Rattle.postfix_rules.specs.Presets.{Book}
use Rattle.event_sets.specs.Agreement.{Agrees}
use Rattle.event_sets.specs.AtRest.{AtRest, Widths, least_width, widths_at}
use Rattle.event_sets.specs.Sets.{IsSound, set_view}
use Rattle.session_model.specs.Account.{Kept}
use Rattle.session_model.specs.Bounds.{AllValued}

-- A set that agrees with the book and the shape, and has what each set keeps. Its thresholds fit each register of its component.
pub record IsFit (book : Book) (shape : Widths) (s : AtRest) : Type 0 where
  pub agrees : Agrees book s
  pub sound : IsSound (set_view book shape s)
  pub has_component : (comp : ℕ) → s.component ≡ Some comp → comp < length shape
  pub thresholds : All (IsThreshold (least_width (widths_at shape s.component))) s.thresholds

-- each set fits, and has a caller's value for each of its events
pub record AreFit (book : Book) (shape : Widths) (sets : List (Option Kept)) : Type 0 where
  pub fit : (k : ℕ) (s : Kept) → slice_get sets k ≡ Some (Some s) → IsFit book shape s.set
  pub valued : AllValued sets

-- at most 16 components of at most 32 counters, each from 16 to 48 bits wide
pub record IsShape (shape : Widths) : Type 0 where
  pub few_components : length shape ≤ MOST_COMPONENTS
  pub few_counters : (comp : ℕ) (widths : List ℕ) → slice_get shape comp ≡ Some widths → length widths ≤ MOST_COUNTERS
  pub widths : (comp : ℕ) (widths : List ℕ) → slice_get shape comp ≡ Some widths → AreWidths widths
