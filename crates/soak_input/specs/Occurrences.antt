-- What occurs in the soak, by draws of the generator: docs/FORMATS.md.
use Rattle.std.specs.Prelude.{◌+◌, ◌*◌, ◌%◌, ◌==◌, ℕ, zero, suc, Bool, List, [], ◌∷◌, if◌then◌else◌, slice_index}
use Rattle.soak_input.specs.Generator.{draw_at, next}
use Rattle.soak_input.specs.declared.occurrence.Occurrence.{Occurrence}

-- the select codes of the events INST_RETIRED, CYCLES, BR_INST, BR_MISP and CACHE of the unit
abbrev pub select_of : ℕ → ℕ
select_of a = slice_index (0xc0 ∷ 0x3c ∷ 0xc4 ∷ 0xc5 ∷ 0x2e ∷ []) (a % 5)

-- the umask, that of `ALL` or that of `TAKEN`: the two of BR_INST
abbrev pub umask_of : ℕ → ℕ
umask_of b = if b % 2 == 0 then 0x01 else 0x02

-- kernel mode for one draw in four, else user mode
abbrev pub is_kernel : ℕ → Bool
is_kernel c = c % 4 == 0

-- the amount, from 1 to the 255 that a line of a stream can say
abbrev pub amount_of : ℕ → ℕ
amount_of d = 1 + d % 255

-- the program counter, one of the 4,096 addresses from 0x400000 on
abbrev pub counter_of : ℕ → ℕ
counter_of e = 0x400000 + e % 4096

-- the number after this one and four more
abbrev pub fifth : ℕ → ℕ
fifth x = next (next (next (next (next x))))

-- the occurrence of the five draws after a number
unfoldable pub occurrence_after : ℕ → Occurrence
occurrence_after x = record {
  select = select_of (draw_at (next x));
  umask = umask_of (draw_at (next (next x)));
  is_kernel = is_kernel (draw_at (next (next (next x))));
  amount = amount_of (draw_at (next (next (next (next x)))));
  program_counter = counter_of (draw_at (fifth x));
}

-- n occurrences after a number
unfoldable pub occurrences_after : ℕ → ℕ → List Occurrence
occurrences_after zero x = []
occurrences_after (suc count) x = occurrence_after x ∷ occurrences_after count (fifth x)

-- what occurs in a thread of a soak of n rounds
abbrev pub occurrences_of : ℕ → ℕ → List Occurrence
occurrences_of rounds thread = occurrences_after (100 * rounds) (64 * rounds + thread)
