-- The thresholds that occurrences pass: PAPI_overflow(3).
use Rattle.std.specs.Prelude.{ℕ, zero, suc, ◌+◌, ◌/◌, Bool, true, false, nat_lt, if◌then◌else◌, List, [], ◌∷◌, ◌++◌, map, Option, Some, None}
use Rattle.papi_base.specs.declared.occurrence.Occ.{Occ}
use Rattle.papi_base.specs.declared.native.Native.{Native}
use Rattle.papi_base.specs.declared.native.EventRef.{EventRef}
use Rattle.overflow_dispatch.specs.declared.handler.Note.{Note}
use Rattle.postfix_rules.specs.Presets.{Book, lead}
use Rattle.session_model.specs.Account.{Kept}
use Rattle.session_model.specs.Counts.{count}

-- the occurrence that comes after `past` takes the native's count past a multiple of the threshold
abbrev pub passes : List Occ → Kept → Occ → Option Native → ℕ → Bool
passes past s o native zero = false
passes past s o None (suc t) = false
passes past s o (Some n) (suc t) = nat_lt (count past s n / suc t) (count (past ++ o ∷ []) s n / suc t)

-- the indexes of the events whose thresholds are passed, counted from i
abbrev pub passed_from : Book → List Occ → Kept → Occ → ℕ → List EventRef → List ℕ → List ℕ
passed_from book past s o i [] ts = []
passed_from book past s o i (e ∷ es) [] = []
passed_from book past s o i (e ∷ es) (t ∷ ts) = (if passes past s o (lead book e) t then i ∷ [] else []) ++ passed_from book past s o (i + 1) es ts

-- only a running set counts
abbrev pub passed_in : Bool → Book → List Occ → Kept → Occ → List ℕ
passed_in true book past s o = passed_from book past s o 0 s.set.events s.set.thresholds
passed_in false book past s o = []

-- the note of one event of a set at an occurrence
abbrev pub note : ℕ → ℕ → Occ → ℕ → Note
note thread number o index = record { thread = thread; set = number; index = index; pc = o.pc }

-- the notes of one place of the sets
abbrev pub notes_of_place : Book → ℕ → List Occ → Occ → ℕ → Option Kept → List Note
notes_of_place book thread past o number None = []
notes_of_place book thread past o number (Some s) = map (note thread number o) (passed_in s.running book past s o)

-- the notes of all sets at the occurrence that comes after `past`, if the list begins at this number
abbrev pub notes_at : Book → ℕ → List Occ → Occ → ℕ → List (Option Kept) → List Note
notes_at book thread past o number [] = []
notes_at book thread past o number (place ∷ places) = notes_of_place book thread past o number place ++ notes_at book thread past o (number + 1) places

-- the notes of the occurrences that come after `past`, one after another
abbrev pub notes_over : Book → ℕ → List (Option Kept) → List Occ → List Occ → List Note
notes_over book thread sets past [] = []
notes_over book thread sets past (o ∷ os) = notes_at book thread past o 0 sets ++ notes_over book thread sets (past ++ o ∷ []) os
