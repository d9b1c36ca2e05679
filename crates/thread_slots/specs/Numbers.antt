-- Where the numbers of a set's natives are found: PAPI_read(3).
use Rattle.std.specs.Prelude.{ℕ, ℤ, ◌≡◌, ◌++◌, List, drop, length, take, ⊤}
use Rattle.thread_slots.specs.declared.numbers.Numbers.{Numbers}
use Rattle.thread_slots.specs.declared.numbers.Numbers.TheVariants as numbers
use Rattle.thread_slots.specs.Pinned.{ArePinned}
use Rattle.thread_slots.specs.Shown.{pin_numbers}

-- a list of them, or the counts on the counters
abbrev pub numbers_at : Numbers → List ℕ
numbers_at (numbers.Listed counts) = counts.now
numbers_at (numbers.Counted unit pins) = pin_numbers unit.now pins.now

-- the counters are there
abbrev pub AreReadable : Numbers → Type 0
AreReadable (numbers.Listed counts) = ⊤
AreReadable (numbers.Counted unit pins) = ArePinned unit.now.widths pins.now

-- the values stand at the first places, as far as there is room, and what is past them stays
abbrev pub AreGiven : List ℤ → List ℤ → List ℤ → Type 0
AreGiven values before after = after ≡ take (length before) values ++ drop (length values) before
