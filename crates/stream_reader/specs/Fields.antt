-- The fields of a line one by one, each up to its space.
use Rattle.std.specs.Prelude.{◌==◌, ◌-◌, ◌+◌, ◌*◌, ◌&&◌, ◌||◌, not, nat_lt, ℕ, Bool, List, [], ◌∷◌, Option, Some, None, if◌then◌else◌}
use Rattle.std.specs.Char.{digit_value}
use Rattle.papi_base.specs.Numerals.{decimal_in, hex_in, is_digit, is_hex_digit}
use Rattle.stream_reader.specs.Judged.{given, mode_of}
use Rattle.papi_base.specs.declared.occurrence.Occ.{Occ}
use Rattle.papi_base.specs.declared.limits.TheConstants.{LARGEST_AMOUNT, LAST_STAMP, MOST_COMPONENTS}
use Rattle.stream_reader.specs.declared.occurrence.Event.{Event}
use Rattle.stream_reader.specs.declared.occurrence.Tail.{Tail}

-- the field that begins a text
unfoldable pub first_field : List ℕ → List ℕ
first_field [] = []
first_field (b ∷ t) = if b == 32 then [] else b ∷ first_field t

-- the text after the space that ends this field, if there is one
unfoldable pub after_field : List ℕ → Option (List ℕ)
after_field [] = None
after_field (b ∷ t) = if b == 32 then Some t else after_field t

-- the number of a field of such digits in a base that goes on from a number
unfoldable pub number_on : (ℕ → Bool) → ℕ → ℕ → List ℕ → Option ℕ
number_on is_one base n [] = Some n
number_on is_one base n (b ∷ t) = if b == 32 then Some n else if is_one b then number_on is_one base (n * base + digit_value b) t else None

abbrev pub digits_on : ℕ → List ℕ → Option ℕ
digits_on = number_on is_digit 10

abbrev pub hex_on : ℕ → List ℕ → Option ℕ
hex_on = number_on is_hex_digit 16

-- a field of digits with this length and first byte is not empty and has no leading zero
abbrev pub has_form : ℕ → ℕ → Bool
has_form size first = nat_lt 0 size && ((size == 1) || not (first == 48))

-- the first field of a text with this length and second byte is one byte, unless the first is a space
abbrev pub is_one_byte : ℕ → ℕ → Bool
is_one_byte size second = nat_lt 0 size && ((size == 1) || (second == 32))

-- a text that ends here
abbrev pub ends_with : {X : Type 0} → Option (List ℕ) → X → Option X
ends_with None x = Some x
ends_with (Some t) x = None

-- the stamp after the program counter
abbrev pub stamp_after : Bool → ℕ → Option (List ℕ) → Option ℕ
stamp_after stamped count more =
    if stamped then given more (λ t. given (decimal_in 0 LAST_STAMP (first_field t)) (ends_with (after_field t))) else ends_with more count

-- the last fields of an occurrence: amount, program counter and stamp
unfoldable pub tail_on : Bool → ℕ → List ℕ → Option Tail
tail_on stamped count t =
    given (decimal_in 1 LARGEST_AMOUNT (first_field t)) (λ amount.
    given (after_field t) (λ u.
    given (hex_in 1 16 (first_field u)) (λ pc.
    given (stamp_after stamped count (after_field u)) (λ stamp.
    Some (record { amount = amount; pc = pc; stamp = stamp })))))

-- the fields of an occurrence after its event
unfoldable pub event_occurrence_on : Bool → ℕ → Event → List ℕ → Option Occ
event_occurrence_on stamped count event w =
    given (mode_of (first_field w)) (λ kernel.
    given (after_field w) (λ x.
    given (tail_on stamped count x) (λ tail.
    Some (record { comp = event.comp; select = event.select; umask = event.umask; kernel = kernel; amount = tail.amount; pc = tail.pc; stamp = tail.stamp }))))

-- the fields of an occurrence
unfoldable pub occurrence_on : Bool → ℕ → List ℕ → Option Occ
occurrence_on stamped count t =
    given (decimal_in 0 (MOST_COMPONENTS - 1) (first_field t)) (λ comp.
    given (after_field t) (λ u.
    given (hex_in 2 2 (first_field u)) (λ select.
    given (after_field u) (λ v.
    given (hex_in 2 2 (first_field v)) (λ umask.
    given (after_field v) (event_occurrence_on stamped count (record { comp = comp; select = select; umask = umask })))))))
