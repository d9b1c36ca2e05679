-- The counters that an occurrence can move, as bits: those that are programmed with its select code, count in its mode, and have
-- no umask or one that shares a bit with its own, for its component.
use Rattle.std.specs.Prelude.{ℕ, ◌≡◌, ◌<◌, Bool, ◌&&◌, ◌||◌, false, if◌then◌else◌, ◌==◌, List, length, slice_index, Option, Some, None}
use Rattle.std.specs.Int.{bit_at}
use Rattle.papi_base.specs.declared.occurrence.Occ.{Occ}
use Rattle.papi_base.specs.Weight.{share}
use Rattle.papi_base.specs.declared.limits.TheConstants.{MOST_COUNTERS}
use Rattle.counter_unit.specs.declared.selects.TheConstants.{CODES}
use Rattle.counter_unit.specs.declared.registers.Register.{Register}
use Rattle.counter_unit.specs.declared.selects.Key.{Key}
use Rattle.counter_unit.specs.declared.selects.Key.TheVariants as key
use Rattle.counter_unit.specs.declared.selects.Selects.{Selects}
use Rattle.counter_unit.specs.Counting.{at_place}
use Rattle.counter_unit.specs.Modes.{counts_kernel, counts_user, is_modified}

-- occurrences with this code can move the register
abbrev pub has_code : Key → ℕ → Register → Bool
has_code key.User code r = (r.native.select == code) && counts_user r.native r.domain
has_code key.Kernel code r = (r.native.select == code) && counts_kernel r.native r.domain
has_code key.Umask code r = (r.native.umask == 0) || share r.native.umask code
has_code key.Comp code r = r.native.comp == code

-- none can if nothing is programmed
abbrev pub has : Key → ℕ → Option Register → Bool
has key code None = false
has key code (Some r) = has_code key code r

-- the key of an occurrence's select code
abbrev pub mode_of : Occ → Key
mode_of o = if o.kernel then key.Kernel else key.User

-- the occurrence can move what is programmed on a counter
abbrev pub admits : Occ → Option Register → Bool
admits o place = (has key.Comp o.comp place && has (mode_of o) o.select place) && has key.Umask o.umask place

-- a truth as a bit
abbrev pub bit_of : Bool → ℕ
bit_of b = if b then 1 else 0

-- bits that tell of each counter whether the occurrence can move it
abbrev pub AreAdmitted : Occ → List (Option Register) → ℕ → Type 0
AreAdmitted o registers bits = (k : ℕ) → k < MOST_COUNTERS → bit_at bits k ≡ bit_of (admits o (at_place registers k))

-- all of these counters but the modified ones count each amount as it is
abbrev pub ArePlain : List (Option Register) → ℕ → ℕ → Type 0
ArePlain registers bits modified = (k : ℕ) → k < MOST_COUNTERS → bit_at bits k ≡ 1 → bit_at modified k ≡ 0 → is_modified (at_place registers k) ≡ false

-- for each code a bit tells of each counter whether occurrences with this code can move it
pub record AreMarked (key : Key) (masks : List ℕ) (registers : List (Option Register)) : Type 0 where
  pub codes : length masks ≡ CODES
  pub each : (code c : ℕ) → code < CODES → c < MOST_COUNTERS → bit_at (slice_index masks code) c ≡ bit_of (has key code (at_place registers c))

-- the tables of a unit
pub record AreSelects (selects : Selects) (registers : List (Option Register)) : Type 0 where
  pub user : AreMarked key.User selects.user registers
  pub kernel : AreMarked key.Kernel selects.kernel registers
  pub umasks : AreMarked key.Umask selects.umasks registers
  pub comps : AreMarked key.Comp selects.comps registers
  pub modified : (c : ℕ) → c < MOST_COUNTERS → bit_at selects.modified c ≡ bit_of (is_modified (at_place registers c))

-- a table in which the bits of one counter are those of this place, and all others as before
pub record IsRemarked (key : Key) (c : ℕ) (place : Option Register) (old new : List ℕ) : Type 0 where
  pub codes : length new ≡ length old
  pub here : (code : ℕ) → code < CODES → bit_at (slice_index new code) c ≡ bit_of (has key code place)
  pub there : (code k : ℕ) → code < CODES → k < MOST_COUNTERS → (k ≡ c → ⊥) → bit_at (slice_index new code) k ≡ bit_at (slice_index old code) k

-- no other select code than this can move what is programmed on a counter
abbrev pub IsCodeOf : ℕ → Option Register → Type 0
IsCodeOf select place = (code : ℕ) → (code ≡ select → ⊥) → (has key.User code place ≡ false) × (has key.Kernel code place ≡ false)

-- no other component than this can move what is programmed on a counter
abbrev pub IsCompOf : ℕ → Option Register → Type 0
IsCompOf comp place = (code : ℕ) → code < CODES → (code ≡ comp → ⊥) → has key.Comp code place ≡ false

-- a table in which the bit of one counter is that of this place for one code, and all others as before
pub record IsMarkedAt (key : Key) (select c : ℕ) (place : Option Register) (old new : List ℕ) : Type 0 where
  pub codes : length new ≡ length old
  pub here : bit_at (slice_index new select) c ≡ bit_of (has key select place)
  pub there : (code k : ℕ) → code < CODES → k < MOST_COUNTERS → (code ≡ select → k ≡ c → ⊥) → bit_at (slice_index new code) k ≡ bit_at (slice_index old code) k
