-- What a set shares with the book.
use Rattle.std.specs.Prelude.{ℕ, suc, ◌≡◌, All, length, Option, Some, true, slice_get}
use Rattle.papi_base.specs.declared.native.Native.{Native}
use Rattle.papi_base.specs.declared.native.EventRef.{EventRef}
use Rattle.postfix_rules.specs.Fitting.{IsHeld}
use Rattle.postfix_rules.specs.Presets.{Book, lead, natives_of_event, rule_of_event}
use Rattle.event_sets.specs.AtRest.{AtRest, is_plain}

-- each native of the event is of this component
abbrev pub IsOwned : Book → Option ℕ → EventRef → Type 0
IsOwned book component e = All (λ n. component ≡ Some n.comp) (natives_of_event book e)

-- The set agrees with the book: its presets are held, its natives are of its component, no event stands twice, an event
-- with a threshold is plain, and no two of these count the same native.
pub record Agrees (book : Book) (s : AtRest) : Type 0 where
  pub held : All (IsHeld book) s.events
  pub owned : All (IsOwned book s.component) s.events
  pub one_each : length s.thresholds ≡ length s.events
  pub distinct : (i j : ℕ) (e : EventRef) → slice_get s.events i ≡ Some e → slice_get s.events j ≡ Some e → i ≡ j
  pub plain : (i t : ℕ) (e : EventRef) → slice_get s.thresholds i ≡ Some (suc t) → slice_get s.events i ≡ Some e → is_plain (rule_of_event book e) ≡ true
  pub apart : (i j t u : ℕ) (e f : EventRef) (n : Native)
      → slice_get s.thresholds i ≡ Some (suc t) → slice_get s.thresholds j ≡ Some (suc u) → slice_get s.events i ≡ Some e → slice_get s.events j ≡ Some f
      → lead book e ≡ Some n → lead book f ≡ Some n → i ≡ j
