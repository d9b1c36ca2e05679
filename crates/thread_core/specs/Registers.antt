-- What the registers of a thread's units and their banks are, for each account that the core stands for: the
-- counters of Intel's manual, PAPI_overflow(3).
use Rattle.std.specs.Prelude.{ℕ, zero, suc, ◌+◌, ◌-◌, ◌^◌, ◌%◌, ◌≡◌, true, slice_get, slice_index, Option, Some, None}
use Rattle.std.specs.Option.{option_and_then}
use Rattle.papi_base.specs.declared.native.Native.{Native}
use Rattle.counter_unit.specs.declared.registers.Register.{Register}
use Rattle.counter_unit.specs.Counting.{at_place}
use Rattle.postfix_rules.specs.Presets.{Book}
use Rattle.event_sets.specs.Assigning.{counters_for}
use Rattle.event_sets.specs.AtRest.{set_natives, widths_at}
use Rattle.session_model.specs.Account.{Account, Kept}
use Rattle.session_model.specs.Counts.{count}
use Rattle.session_model.specs.Faces.{at}
use Rattle.session_model.specs.Registers.{threshold_among}
use Rattle.thread_core.specs.CoreView.{CoreView}
use Rattle.thread_core.specs.Stands.{CoreStands}

-- the set under the number runs on the component, and its natives do not take turns
pub record CountsOn (a : Account) (number comp : ℕ) (s : Kept) : Type 0 where
  pub under : at a.sets number ≡ Some s
  pub runs : s.running ≡ true
  pub in_no_turns : s.set.slice ≡ None
  pub component : s.set.component ≡ Some comp

-- the i-th native of the set, on its counter of the least assignment
pub record IsOn (book : Book) (s : Kept) (i : ℕ) (n : Native) (c : ℕ) : Type 0 where
  pub native : slice_get (set_natives book s.set) i ≡ Some n
  pub counter : slice_get (counters_for (set_natives book s.set)) i ≡ Some c

-- what is programmed on a counter of a component, if anything
abbrev pub programmed : CoreView → ℕ → ℕ → Option Register
programmed core comp c = option_and_then (λ unit. at_place unit.registers c) (slice_get core.units comp)

-- where a register of w bits starts: at 0, or below its end by the threshold
abbrev pub start : ℕ → ℕ → ℕ
start w zero = 0
start w (suc t) = 2 ^ w - suc t

-- what it holds at a count: the count by its w bits, or what is over the last multiple of the threshold
abbrev pub reg : ℕ → ℕ → ℕ → ℕ
reg w zero count = count % 2 ^ w
reg w (suc t) count = 2 ^ w - suc t + count % suc t

-- The native is programmed on the counter, its register is `reg` of its count, and its bank and what the register is above
-- its start are its count: no wrap and no passing is lost.
pub record IsCounted (core : CoreView) (a : Account) (comp : ℕ) (s : Kept) (n : Native) (c w t : ℕ) : Type 0 where
  pub register : Register
  pub on_counter : programmed core comp c ≡ Some register
  pub native : register.native ≡ n
  pub threshold : register.threshold ≡ t
  pub value : register.value ≡ reg w t (count a.past s n)
  pub whole : register.bank + (register.value - start w t) ≡ count a.past s n

-- each native of a running set
abbrev pub EachIsCounted : Type 0
EachIsCounted = (book : Book) (core : CoreView) (a : Account) (number comp : ℕ) (s : Kept) (i : ℕ) (n : Native) (c : ℕ)
    → CoreStands book core a → CountsOn a number comp s → IsOn book s i n c
    → IsCounted core a comp s n c (slice_index (widths_at core.shape s.set.component) c) (threshold_among book n s.set.events s.set.thresholds)

-- and nothing else is programmed on its component
abbrev pub NoOtherIsProgrammed : Type 0
NoOtherIsProgrammed = (book : Book) (core : CoreView) (a : Account) (number comp : ℕ) (s : Kept) (c : ℕ)
    → CoreStands book core a → CountsOn a number comp s
    → ((i : ℕ) → slice_get (counters_for (set_natives book s.set)) i ≡ Some c → ⊥)
    → programmed core comp c ≡ None

-- if no set runs on a component, nothing is programmed on it
abbrev pub NothingIsProgrammed : Type 0
NothingIsProgrammed = (book : Book) (core : CoreView) (a : Account) (comp c : ℕ)
    → CoreStands book core a
    → ((number : ℕ) (s : Kept) → at a.sets number ≡ Some s → s.running ≡ true → s.set.component ≡ Some comp → ⊥)
    → programmed core comp c ≡ None
