-- The state of one thread, as this project's model of PAPI's event sets has it: it keeps every occurrence that was consumed.
use Rattle.std.specs.Prelude.{ℕ, ℤ, ◌+◌, Bool, false, if◌then◌else◌, List, [], ◌∷◌, take, replicate, Option, Some, None}
use Rattle.papi_base.specs.declared.occurrence.Occ.{Occ}
use Rattle.papi_base.specs.Streams.{Mark}
use Rattle.papi_base.specs.declared.limits.TheConstants.{MOST_SETS}
use Rattle.event_sets.specs.AtRest.{AtRest}

-- A set, the window of positions over which it counts, and the caller's value of each event. The window goes from `from` up
-- to, but not including, `to`; while the set runs, up to now.
pub record Kept : Type 0 where
  pub set : AtRest
  pub running : Bool
  pub from : ℕ
  pub to : ℕ
  pub values : List ℤ

-- under each number below MOST_SETS a set or none; the occurrences consumed and those to come
pub record Account : Type 0 where
  pub thread : ℕ
  pub registered : Bool
  pub sets : List (Option Kept)
  pub past : List Occ
  pub rest : List Occ
  pub mark : Mark

-- a thread's account before its first call
abbrev pub opening : ℕ → List Occ → Mark → Account
opening thread rest mark = record { thread = thread; registered = false; sets = replicate MOST_SETS None; past = []; rest = rest; mark = mark }

-- the last occurrence of the list, or else `before`
abbrev pub last_after : Option Occ → List Occ → Option Occ
last_after before [] = before
last_after before (o ∷ os) = last_after (Some o) os

-- the time after an occurrence
abbrev pub time_after : Option Occ → ℕ
time_after None = 0
time_after (Some o) = o.stamp + 1

-- the clock after the first k occurrences
abbrev pub clock : List Occ → ℕ → ℕ
clock past k = time_after (last_after None (take k past))

-- the end of a set's window, after n occurrences were consumed
abbrev pub end : ℕ → Kept → ℕ
end now s = if s.running then now else s.to

-- the window begins at its end
abbrev pub zeroed : ℕ → Kept → Kept
zeroed now s = record s { from = end now s; to = end now s }
