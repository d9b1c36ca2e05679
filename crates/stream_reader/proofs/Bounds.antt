-- The stamps of a stream rise, and it has no more occurrences than there are stamps.
use Rattle.stream_reader.proofs.Words.{◌≡◌, ◌∙◌, ◌+◌, ◌<◌, ◌≤◌, ◌==◌, ◌&&◌, ◌∷◌, ℕ, Bool, true, false, List, [], Option, Some, None, length, refl}
use Rattle.stream_reader.proofs.Words.{sym, ap, subst, arith, nat_lt, nat_le, codes, bytes_eq, IfSome, if◌then◌else◌, cond, list_all, slice_split}
use Rattle.stream_reader.proofs.Words.{onto_first, option_map, option_map_or, digits_value, and_parts, leb-true, ltb-false, ltb-true, lt-ltb}
use Rattle.stream_reader.proofs.Words.{eqb-true, decimal_in, flag_bit, hex_in, is_decimal, is_hex_digit, is_numeral, Occ, LAST_STAMP, Line, LineStart}
use Rattle.stream_reader.proofs.Words.{Judgement, Bad, Skipped, Version, Occurs, field, fields_judged, fields_of, given, is_above, is_next_stamp}
use Rattle.stream_reader.proofs.Words.{is_skipped, judged, line_text, mode_of, occ_of, stamp_of, text_judged, without_return, IsStart, after}
use Rattle.stream_reader.proofs.Words.{least_stamp, line_passed}
use Rattle.papi_base.specs.declared.occurrence.LineCause.TheVariants as cause
use Rattle.stream_reader.proofs.FirstItems.{whole}

-- ---- how long fields are

-- the bytes of some parts, with one more for each
abbrev parts_size : List (List ℕ) → ℕ
parts_size [] = 0
parts_size (p ∷ rest) = length p + 1 + parts_size rest

split-size : (p : ℕ → Bool) (t : List ℕ) → parts_size (slice_split p t) ≡ length t + 1
split-size p [] = refl
split-size p (b ∷ t) = go (p b) (slice_split p t) (split-size p t)
  where
    go : (c : Bool) (parts : List (List ℕ)) → parts_size parts ≡ length t + 1 → parts_size (cond c ([] ∷ parts) (onto_first b parts)) ≡ length (b ∷ t) + 1
    go true parts e = omega (arith, e)
    go false [] e = omega (arith, e)
    go false (q ∷ parts) e = omega (arith, e)

record Given {X Y : Type 0} (o : Option X) (next : X → Option Y) (y : Y) : Type 0 where
  value : X
  there : o ≡ Some value
  rest : next value ≡ Some y

given-some : {X Y : Type 0} (o : Option X) (next : X → Option Y) (y : Y) → given o next ≡ Some y → Given o next y
given-some None next y e = cc e
given-some (Some x) next y e = record { value = x; there = refl; rest = e }

decimal-size : (low high n : ℕ) (t : List ℕ) → decimal_in low high t ≡ Some n → 1 ≤ length t
unfolding decimal_in is_decimal is_numeral
decimal-size low high n [] e = cc e
decimal-size low high n (b ∷ t) e = omega arith

hex-size : (few many n : ℕ) (t : List ℕ) → hex_in few many t ≡ Some n → few ≤ length t
unfolding hex_in
hex-size few many n t e = go (list_all is_hex_digit t && (nat_le few (length t) && nat_le (length t) many)) refl e
  where
    go : (b : Bool) → (list_all is_hex_digit t && (nat_le few (length t) && nat_le (length t) many)) ≡ b → (if b then Some (digits_value 16 t) else None) ≡ Some n → few ≤ length t
    go true p q =
        let r = and_parts (list_all is_hex_digit t) (nat_le few (length t) && nat_le (length t) many) p in
        leb-true few (length t) (and_parts (nat_le few (length t)) (nat_le (length t) many) r.1).0
    go false p q = cc q

mode-size : (k : Bool) (t : List ℕ) → mode_of t ≡ Some k → 1 ≤ length t
unfolding mode_of
mode-size k [] e = cc e
mode-size k (b ∷ t) e = omega arith

decimal-range : (low high n : ℕ) (t : List ℕ) → decimal_in low high t ≡ Some n → (low ≤ n) × (n ≤ high)
unfolding decimal_in
decimal-range low high n t e = go (is_decimal t && (nat_le low (digits_value 10 t) && nat_le (digits_value 10 t) high)) refl e
  where
    go : (b : Bool) → (is_decimal t && (nat_le low (digits_value 10 t) && nat_le (digits_value 10 t) high)) ≡ b → (if b then Some (digits_value 10 t) else None) ≡ Some n → (low ≤ n) × (n ≤ high)
    go true p q =
        let r = and_parts (is_decimal t) (nat_le low (digits_value 10 t) && nat_le (digits_value 10 t) high) p in
        let s = and_parts (nat_le low (digits_value 10 t)) (nat_le (digits_value 10 t) high) r.1 in
        let is : digits_value 10 t ≡ n = cc q in
        rw (← is) (leb-true low (digits_value 10 t) s.0, leb-true (digits_value 10 t) high s.1)
    go false p q = cc q

-- the ranges of an occurrence
pub record IsFit (o : Occ) : Type 0 where
  pub comp : o.comp ≤ 15
  pub least : 1 ≤ o.amount
  pub greatest : o.amount ≤ 255

-- what the fields of an occurrence are
record IsRead (stamped : Bool) (count : ℕ) (fields : List (List ℕ)) (o : Occ) : Type 0 where
  size : 8 ≤ length (field fields 0) + length (field fields 1) + length (field fields 2) + length (field fields 3) + length (field fields 4) + length (field fields 5)
  stamp : stamp_of stamped count fields ≡ Some o.stamp
  fit : IsFit o

read-fields : (stamped : Bool) (count : ℕ) (fields : List (List ℕ)) (o : Occ) → occ_of stamped count fields ≡ Some o → IsRead stamped count fields o
unfolding occ_of
read-fields stamped count fields o e =
    let a = given-some (decimal_in 0 15 (field fields 0)) _ o e in
    let b = given-some (hex_in 2 2 (field fields 1)) _ o a.rest in
    let c = given-some (hex_in 2 2 (field fields 2)) _ o b.rest in
    let d = given-some (mode_of (field fields 3)) _ o c.rest in
    let f = given-some (decimal_in 1 255 (field fields 4)) _ o d.rest in
    let g = given-some (hex_in 1 16 (field fields 5)) _ o f.rest in
    let h = given-some (stamp_of stamped count fields) _ o g.rest in
    let a1 = decimal-size 0 15 a.value (field fields 0) a.there in
    let b1 = hex-size 2 2 b.value (field fields 1) b.there in
    let c1 = hex-size 2 2 c.value (field fields 2) c.there in
    let d1 = mode-size d.value (field fields 3) d.there in
    let f1 = decimal-size 1 255 f.value (field fields 4) f.there in
    let g1 = hex-size 1 16 g.value (field fields 5) g.there in
    record {
      size = omega (arith, a1, b1, c1, d1, f1, g1);
      stamp = h.there ∙ ap (λ (x : Option Occ). option_map (λ (y : Occ). y.stamp) x) h.rest;
      fit =
          let comp : a.value ≡ o.comp = ap (λ (x : Option Occ). option_map_or (λ (y : Occ). y.comp) x 0) h.rest in
          let amount : f.value ≡ o.amount = ap (λ (x : Option Occ). option_map_or (λ (y : Occ). y.amount) x 0) h.rest in
          record {
            comp = rw (← comp) (decimal-range 0 15 a.value (field fields 0) a.there).1;
            least = rw (← amount) (decimal-range 1 255 f.value (field fields 4) f.there).0;
            greatest = rw (← amount) (decimal-range 1 255 f.value (field fields 4) f.there).1;
          };
    }

all-size : (two : Bool) (fields : List (List ℕ)) → length fields ≡ 6 + flag_bit two
    → 8 ≤ length (field fields 0) + length (field fields 1) + length (field fields 2) + length (field fields 3) + length (field fields 4) + length (field fields 5) → 14 ≤ parts_size fields
all-size two fields n h = go two n
  where
    P : List (List ℕ) → Type 0
    P p = 8 ≤ length (field p 0) + length (field p 1) + length (field p 2) + length (field p 3) + length (field p 4) + length (field p 5) → 14 ≤ parts_size p

    go : (two : Bool) → length fields ≡ 6 + flag_bit two → 14 ≤ parts_size fields
    go false n = subst P (sym (whole [] 6 fields n)) (λ h. omega (arith, h)) h
    go true n = subst P (sym (whole [] 7 fields n)) (λ h. omega (arith, h)) h

-- ---- what an occurrence's line keeps

record IsOccurrence (st : LineStart) (o : Occ) (text : List ℕ) : Type 0 where
  fit : IsFit o
  size : 13 ≤ length text
  first : st.stamped ≡ false → (o.stamp ≡ st.given) × (o.stamp ≤ LAST_STAMP)
  second : st.stamped ≡ true → (is_above st.last o.stamp ≡ true) × (o.stamp ≤ LAST_STAMP)

stamp-first : (stamped : Bool) (count n : ℕ) (fields : List (List ℕ)) → stamp_of stamped count fields ≡ Some n → stamped ≡ false → n ≡ count
stamp-first false count n fields e q = cc
stamp-first true count n fields e q = cc q

stamp-second : (stamped : Bool) (count n : ℕ) (fields : List (List ℕ)) → stamp_of stamped count fields ≡ Some n → stamped ≡ true → n ≤ LAST_STAMP
stamp-second false count n fields e q = cc q
stamp-second true count n fields e q = (decimal-range 0 LAST_STAMP n (field fields 6) e).1

fields-occurrence : (st : LineStart) (text : List ℕ) (o : Occ) → fields_judged st (fields_of text) ≡ Occurs o → IsOccurrence st o text
unfolding fields_judged
fields-occurrence st text o e = go (length fields == (6 + flag_bit st.stamped)) (occ_of st.stamped st.given fields) refl refl e
  where
    fields : List (List ℕ)
    fields = fields_of text

    made : (x : Occ) → length fields ≡ 6 + flag_bit st.stamped → occ_of st.stamped st.given fields ≡ Some x → is_next_stamp st x.stamp ≡ true → IsOccurrence st x text
    made x n r next =
        let read = read-fields st.stamped st.given fields x r in
        let size = all-size st.stamped fields n read.size in
        let whole = split-size (λ b. b == 32) text in
        record {
          fit = read.fit;
          size = omega (arith, size, whole);
          first = λ q. (stamp-first st.stamped st.given x.stamp fields read.stamp q, leb-true x.stamp LAST_STAMP (rw q at next));
          second = λ q. (rw q at next, stamp-second st.stamped st.given x.stamp fields read.stamp q);
        }

    pick : (x : Occ) (a : Bool) → is_next_stamp st x.stamp ≡ a → length fields ≡ 6 + flag_bit st.stamped → occ_of st.stamped st.given fields ≡ Some x
        → (if a then Occurs x else Bad cause.Stamp) ≡ Occurs o → IsOccurrence st o text
    pick x true q n r h = let is : x ≡ o = cc h in subst (λ (y : Occ). IsOccurrence st y text) is (made x n r q)
    pick x false q n r h = cc h

    go : (c : Bool) (r : Option Occ) → (length fields == (6 + flag_bit st.stamped)) ≡ c → occ_of st.stamped st.given fields ≡ r
        → (if c then option_map_or (λ (x : Occ). if is_next_stamp st x.stamp then Occurs x else Bad cause.Stamp) r (Bad cause.Field) else Bad cause.Fields) ≡ Occurs o → IsOccurrence st o text
    go true (Some x) p q h = pick x (is_next_stamp st x.stamp) refl (eqb-true (length fields) (6 + flag_bit st.stamped) p) q h
    go true None p q h = cc h
    go false r p q h = cc h

text-occurrence : (st : LineStart) (text : List ℕ) (o : Occ) → text_judged st text ≡ Occurs o → IsOccurrence st o text
unfolding text_judged
text-occurrence st text o e = go ((st.number == 1) && bytes_eq text (codes "version 2")) (is_skipped text) e
  where
    go : (a b : Bool) → (if a then Version else if b then Skipped else fields_judged st (fields_of text)) ≡ Occurs o → IsOccurrence st o text
    go true b h = cc h
    go false true h = cc h
    go false false h = fields-occurrence st text o h

return-size : (t : List ℕ) → length (without_return t) ≤ length t
unfolding without_return
return-size [] = omega arith
return-size (b ∷ []) = go (b == 13)
  where
    go : (c : Bool) → length (if c then [] else b ∷ []) ≤ 1
    go true = omega arith
    go false = omega arith
return-size (b ∷ c ∷ rest) = let more = return-size (c ∷ rest) in omega (arith, more)

line-size : (line : Line) → length (line_text line) ≤ length line.bytes
line-size line = go line.ended
  where
    go : (b : Bool) → length (if b then without_return line.bytes else line.bytes) ≤ length line.bytes
    go true = return-size line.bytes
    go false = omega arith

pub record IsLine (st : LineStart) (o : Occ) (line : Line) : Type 0 where
  pub fit : IsFit o
  pub size : 13 ≤ length line.bytes
  pub within : st.passed + length line.bytes ≤ 67108864
  first : st.stamped ≡ false → (o.stamp ≡ st.given) × (o.stamp ≤ LAST_STAMP)
  second : st.stamped ≡ true → (is_above st.last o.stamp ≡ true) × (o.stamp ≤ LAST_STAMP)

pub line-occurrence : (st : LineStart) (line : Line) (o : Occ) → judged st line ≡ Occurs o → IsLine st o line
unfolding judged
line-occurrence st line o e = go (nat_lt 128 (length line.bytes)) (nat_lt 67108864 (st.passed + length line.bytes)) refl e
  where
    go : (a b : Bool) → nat_lt 67108864 (st.passed + length line.bytes) ≡ b → (if a then Bad cause.Long else if b then Bad cause.Size else text_judged st (line_text line)) ≡ Occurs o → IsLine st o line
    go true b p h = cc h
    go false true p h = cc h
    go false false p h =
        let t = text-occurrence st (line_text line) o h in
        let s = line-size line in
        let w = ltb-false 67108864 (st.passed + length line.bytes) p in
        record { fit = t.fit; size = omega (arith, s, t.size); within = w; first = t.first; second = t.second }

-- ---- the whole stream

-- an occurrence is above the last one, and its stamp is in range
pub stamp-fits : (st : LineStart) (line : Line) (o : Occ) → IsStart st → IsLine st o line → (is_above st.last o.stamp ≡ true) × (o.stamp ≤ LAST_STAMP)
stamp-fits st line o s l = go st.stamped refl
  where
    above : (last : Option ℕ) → IfSome last (λ x. x < st.given) → is_above last st.given ≡ true
    above None h = refl
    above (Some x) h = lt-ltb x st.given h

    go : (b : Bool) → st.stamped ≡ b → (is_above st.last o.stamp ≡ true) × (o.stamp ≤ LAST_STAMP)
    go true e = l.second e
    go false e = let is = l.first e in (rw is.0 (above st.last (s.below e)), is.1)

-- the stamps above the last one
above-least : (last : Option ℕ) (stamp : ℕ) → is_above last stamp ≡ true → least_stamp last ≤ stamp
above-least None stamp h = omega arith
above-least (Some last) stamp h = let less = ltb-true last stamp h in omega (arith, less)

state-passed : (st : LineStart) (line : Line) → IsStart st → IsStart (line_passed st line)
state-passed st line s = record { counted = s.counted; in_time = s.in_time; below = s.below }

state-after : (st : LineStart) (line : Line) (o : Occ) → IsStart st → IsLine st o line → IsStart (after st line (Occurs o))
state-after st line o s l =
    let c = s.counted in
    let fits = stamp-fits st line o s l in
    let least = above-least st.last o.stamp fits.0 in
    let most = fits.1 in
    record { counted = omega (arith, c, least); in_time = omega (arith, most); below = λ e. let is = (l.first e).0 in omega (arith, is) }

pub state-next : (st : LineStart) (line : Line) (j : Judgement) → judged st line ≡ j → IsStart st → IsStart (after st line j)
state-next st line (Bad c) e s = state-passed st line s
state-next st line Skipped e s = state-passed st line s
state-next st line Version e s = record { counted = s.counted; in_time = s.in_time; below = λ q. cc q }
state-next st line (Occurs o) e s = state-after st line o s (line-occurrence st line o e)
