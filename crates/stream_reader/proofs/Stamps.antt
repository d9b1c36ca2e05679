-- Stamps, and what stands between a program counter and the newline.
use Rattle.stream_reader.proofs.Words.{◌≡◌, ◌∙◌, ◌+◌, ◌-◌, ◌*◌, ◌<◌, ◌≤◌, ◌∷◌, ◌==◌, ◌||◌, ◌^◌, ℕ, true, false, not, List, [], Some, None, length}
use Rattle.stream_reader.proofs.Words.{drop, take, get_or, refl, sym, ap, arith, add-one, nat_lt, list_all, digits_value, pow-suc, take-add}
use Rattle.stream_reader.proofs.Words.{list_all_more, digits_value_more, and_parts, ltb-true, decimal_in, is_digit, Field, LineStart, piece}
use Rattle.stream_reader.proofs.Words.{after_field, first_field, has_form, stamp_after, IsDigits, IsStamp, is_plain}
use Rattle.std.proofs.lemmas.List.{get_or-take, length-take-le, length-drop}
use Rattle.stream_reader.proofs.DecimalBytes.{decimal-of, digit, digits-inner}
use Rattle.stream_reader.proofs.FirstItems.{taken}
use Rattle.stream_reader.proofs.LineFields.{all-plain, last-after, last-first, space-first}

-- ---- one digit more

pub record Grows (t : List ℕ) (i v : ℕ) : Type 0 where
  pub each : list_all is_digit (take (i + 1) t) ≡ true
  pub value : v * 10 + (get_or t i 0 - 48) ≡ digits_value 10 (take (i + 1) t)
  pub small : v * 10 + (get_or t i 0 - 48) < 10 ^ (i + 1)

pub grows : (t : List ℕ) (i v : ℕ) → i < length t → 48 ≤ get_or t i 0 → get_or t i 0 ≤ 57 → list_all is_digit (take i t) ≡ true → v ≡ digits_value 10 (take i t) → v < 10 ^ i → Grows t i v
grows t i v h low high each value small =
    let x = digit (get_or t i 0) low high in
    record {
      each = list_all_more is_digit t i 0 h ∙ rw (each, x.test) refl;
      value = omega (arith, value, x.value, digits_value_more 10 t i h);
      small = rw add-one (omega (arith, pow-suc 10 i));
    }

-- ---- a stamp

pub stamp-is : (t : List ℕ) (stamp : Field) → 12 ≤ length t → get_or t 0 0 ≡ 32 → IsDigits (drop 1 t) stamp → has_form stamp.size (get_or (drop 1 t) 0 0) ≡ true
    → stamp.value ≤ 4294967294 → IsStamp t stamp
stamp-is t stamp long space digits form most =
    let u = drop 1 t in
    let f = take stamp.size u in
    let few : stamp.size ≤ 10 = digits.few in
    let some : 0 < stamp.size = ltb-true 0 stamp.size (and_parts (nat_lt 0 stamp.size) ((stamp.size == 1) || not (get_or u 0 0 == 48)) form).0 in
    let size : length f ≡ stamp.size = length-take-le stamp.size u (omega (arith, length-drop 1 t)) in
    let form_of : has_form (length f) (get_or f 0 0) ≡ true = rw (size, get_or-take stamp.size u 0 0 some) form in
    record {
      few = few;
      within = omega arith;
      space = space;
      value = decimal-of 0 4294967294 f digits.each form_of (omega arith) (omega (arith, digits.value)) ∙ ap Some (sym digits.value);
      inner = record { each = digits-inner f digits.each };
    }

-- ---- what stands after the program counter

-- what stands between the program counter and the line's end gives the stamp
pub record IsEnding (start : LineStart) (t : List ℕ) (ending : Field) : Type 0 where
  pub few : ending.size ≤ 11
  pub field : first_field (take ending.size t) ≡ []
  pub value : stamp_after start.stamped start.given (after_field (take ending.size t)) ≡ Some ending.value
  pub plain : list_all is_plain (take ending.size t) ≡ true

pub ending-1 : (start : LineStart) (t : List ℕ) → start.stamped ≡ false → IsEnding start t (record { value = start.given; size = 0 })
unfolding first_field after_field
ending-1 start t plain = record {
  few = omega arith;
  field = refl;
  value = rw plain refl;
  plain = refl;
}

stamp-after : (count n : ℕ) (f : List ℕ) → first_field f ≡ f → after_field f ≡ None → decimal_in 0 4294967294 f ≡ Some n → stamp_after true count (after_field (32 ∷ f)) ≡ Some n
unfolding after_field
stamp-after count n f first after e = rw (first, e, after) refl

pub ending-2 : (start : LineStart) (t : List ℕ) (stamp : Field) → start.stamped ≡ true → IsStamp t stamp → IsEnding start t (record { value = stamp.value; size = 1 + stamp.size })
ending-2 start t stamp stamped s =
    let f = piece 1 stamp.size t in
    let whole : take (1 + stamp.size) t ≡ 32 ∷ f = take-add 1 stamp.size t ∙ rw (taken 0 1 0 t (let w = s.within in omega arith), s.space) refl in
    record {
      few = let few = s.few in omega arith;
      field = ap first_field whole ∙ space-first f;
      value = rw (stamped, whole) (stamp-after start.given stamp.value f (last-first f s.inner.each) (last-after f s.inner.each) s.value);
      plain = ap (list_all is_plain) whole ∙ all-plain f s.inner.each;
    }
