-- A whole line from its fields.
use Rattle.stream_reader.proofs.Words.{◌≡◌, ◌∙◌, ◌+◌, ◌-◌, ◌<◌, ◌≤◌, ◌==◌, ◌++◌, ◌∷◌, ℕ, true, false, List, [], Some, length, drop, take, get_or}
use Rattle.stream_reader.proofs.Words.{refl, sym, ap, subst, inl, inr, arith, list_all, AllByRecursion, digits_value, take-add, list_all-append}
use Rattle.stream_reader.proofs.Words.{and_parts, le-leb, hex_in, is_hex_digit, Front, Head, Field, LineStart, IsHexadecimal, piece, occurrence_on}
use Rattle.stream_reader.proofs.Words.{without_return, BeginsWith, BeginsWithComponent, EndsAt, HasHeadSpaces, IsAmount, IsFront, IsHead, IsStamp}
use Rattle.stream_reader.proofs.Words.{is_inner, is_plain, occ_with}
use Rattle.std.proofs.lemmas.List.{take_more, drop-drop, length-take-le, length-drop, append_assoc}
use Rattle.stream_reader.proofs.FirstItems.{taken}
use Rattle.stream_reader.proofs.LineHeads.{inner-hex}
use Rattle.stream_reader.proofs.LineFields.{AreInner, fields-plain, line, line-is, plain-one, plain-whole, return-one, return-whole}
use Rattle.stream_reader.proofs.Stamps.{IsEnding, ending-1, ending-2}

hex-inner : (f : List ℕ) → list_all is_hex_digit f ≡ true → list_all is_inner f ≡ true
hex-inner [] h = refl
hex-inner (b ∷ f) h = let p = and_parts (is_hex_digit b) (list_all is_hex_digit f) h in rw (inner-hex b p.0, hex-inner f p.1) refl

pc-is : (h : List ℕ) (n : ℕ) → 1 ≤ length h → length h ≤ 16 → list_all is_hex_digit h ≡ true → n ≡ digits_value 16 h → hex_in 1 16 h ≡ Some n
unfolding hex_in
pc-is h n low high all e = rw (all, le-leb 1 (length h) low, le-leb (length h) 16 high) (ap Some (sym e))

-- ---- the text after the component

-- the fields after the component and before the stamp
abbrev rest : List ℕ → ℕ → ℕ → List ℕ
rest r a p = 32 ∷ get_or r 1 0 ∷ get_or r 2 0 ∷ 32 ∷ get_or r 4 0 ∷ get_or r 5 0 ∷ 32 ∷ get_or r 7 0 ∷ 32 ∷ (piece 9 a r ++ 32 ∷ piece (9 + a + 1) p r)

rest-is : (r : List ℕ) (a p : ℕ) → 9 + a < length r → HasHeadSpaces r → get_or r (9 + a) 0 ≡ 32 → take (9 + a + 1 + p) r ≡ rest r a p
rest-is r a p long spaces space =
    let amt = piece 9 a r in
    let hex = piece (9 + a + 1) p r in
    let head_part : take (9 + a) r ≡ take 9 r ++ amt = take-add 9 a r in
    let with_space : take (9 + a + 1) r ≡ (take 9 r ++ amt) ++ 32 ∷ [] = take_more r (9 + a) 0 long ∙ rw (head_part, space) refl in
    let whole : take (9 + a + 1 + p) r ≡ take 9 r ++ (amt ++ 32 ∷ hex) =
    take-add (9 + a + 1) p r ∙ ap (λ x. x ++ hex) with_space ∙ append_assoc (take 9 r ++ amt) (32 ∷ []) hex ∙ append_assoc (take 9 r) amt (32 ∷ hex) in
    whole ∙ ap (λ x. x ++ (amt ++ 32 ∷ hex)) (taken 0 9 0 r (omega arith)) ∙ rw (spaces.first, spaces.second, spaces.third, spaces.fourth) refl

front-is : (t : List ℕ) (n a p : ℕ) → 9 + a < length (drop n t) → HasHeadSpaces (drop n t) → get_or (drop n t) (9 + a) 0 ≡ 32 → take (n + (9 + a + 1) + p) t ≡ take n t ++ rest (drop n t) a p
front-is t n a p long spaces space =
    let sum : n + (9 + a + 1) + p ≡ n + (9 + a + 1 + p) = omega arith in
    ap (λ m. take m t) sum ∙ take-add n (9 + a + 1 + p) t ∙ ap (λ x. take n t ++ x) (rest-is (drop n t) a p long spaces space)

-- an ending after them
with-ending : (c amt hex s : List ℕ) (x1 x2 x4 x5 x7 : ℕ) → (c ++ 32 ∷ x1 ∷ x2 ∷ 32 ∷ x4 ∷ x5 ∷ 32 ∷ x7 ∷ 32 ∷ (amt ++ 32 ∷ hex)) ++ s ≡ line c (x1 ∷ x2 ∷ []) (x4 ∷ x5 ∷ []) (x7 ∷ []) amt hex s
with-ending c amt hex s x1 x2 x4 x5 x7 =
    append_assoc c (32 ∷ x1 ∷ x2 ∷ 32 ∷ x4 ∷ x5 ∷ 32 ∷ x7 ∷ 32 ∷ (amt ++ 32 ∷ hex)) s
    ∙ ap (λ x. c ++ 32 ∷ x1 ∷ x2 ∷ 32 ∷ x4 ∷ x5 ∷ 32 ∷ x7 ∷ 32 ∷ x) (append_assoc amt (32 ∷ hex) s)

pub front : (t : List ℕ) (comp : Field) (h : Head) (amount pc : Field) → comp.size + 30 ≤ length t → BeginsWithComponent t comp → IsHead (drop comp.size t) h → IsAmount (drop comp.size t) amount
    → IsHexadecimal t (comp.size + (9 + amount.size + 1)) pc → 0 < pc.size
    → IsFront t (record { comp = comp.value; head = h; amount = amount.value; pc = pc.value; size = comp.size + (9 + amount.size + 1) + pc.size })
front t comp h amount pc long c head am digits some =
    let n = comp.size in
    let r = drop n t in
    let place = 9 + amount.size + 1 in
    let amt = piece 9 amount.size r in
    let hex = piece place pc.size r in
    let same : piece (n + place) pc.size t ≡ hex = ap (take pc.size) (sym (drop-drop place n t)) in
    let c_some : 1 ≤ n = c.some in
    let c_few : n ≤ 2 = c.few in
    let am_few : amount.size ≤ 3 = am.few in
    let pc_few : pc.size ≤ 16 = digits.few in
    let r_long : length r ≡ length t - n = length-drop n t in
    let each : list_all is_hex_digit hex ≡ true = ap (list_all is_hex_digit) (sym same) ∙ digits.each in
    let all : AreInner (take n t) (get_or r 1 0 ∷ get_or r 2 0 ∷ []) (get_or r 4 0 ∷ get_or r 5 0 ∷ []) (get_or r 7 0 ∷ []) amt hex = record {
      comp = c.inner.each;
      select = head.select_inner.each;
      umask = head.umask_inner.each;
      kernel = head.kernel_inner.each;
      amount = am.inner.each;
      pc = hex-inner hex each;
    } in
    let fields = front-is t n amount.size pc.size (omega arith) head.spaces am.space in
    let hex_len : length hex ≡ pc.size = length-take-le pc.size (drop place r) (omega (arith, length-drop place r)) in
    let hex_in_range : hex_in 1 16 hex ≡ Some pc.value = pc-is hex pc.value (omega (arith, hex_len)) (omega (arith, hex_len)) each (digits.value ∙ ap (digits_value 16) same) in
    record {
      some = omega arith;
      few = omega arith;
      within = omega arith;
      digit = c.digit;
      plain = ap (list_all is_plain) fields ∙ fields-plain _ _ _ _ amt hex all;
      occurs = λ stamped count stamp s ends value. ap (λ x. occurrence_on stamped count (x ++ s)) fields ∙ ap (occurrence_on stamped count) (with-ending (take n t) amt hex s _ _ _ _ _)
          ∙ line-is stamped count (take n t) _ _ _ amt hex s comp.value h amount.value pc.value stamp all ends c.value head.select head.umask head.kernel am.value hex_in_range value;
    }

-- ---- the end of the line

-- the bytes of a line that ends after these fields
record IsLine (t : List ℕ) (place size : ℕ) : Type 0 where
  least : place ≤ size
  most : size ≤ place + 1
  whole : without_return (take size t) ≡ take place t
  one : AllByRecursion (λ b. (b == 10) ≡ false) (take size t)

ends : (t : List ℕ) (place size : ℕ) → place < length t → list_all is_plain (take place t) ≡ true → EndsAt t place size → IsLine t place size
ends t place size long plain e = elim e.fields [
  | inl same ↦ subst (IsLine t place) (sym same) (record {
    least = omega arith;
    most = omega arith;
    whole = plain-whole (take place t) plain;
    one = plain-one (take place t) plain;
  })
  | inr more ↦
      let f = take place t in
      let with_return : take (place + 1) t ≡ f ++ 13 ∷ [] = take_more t place 0 long ∙ rw more.1 refl in
      subst (IsLine t place) (sym more.0) (record {
        least = omega arith;
        most = omega arith;
        whole = rw with_return (return-whole f);
        one = rw with_return (return-one f plain);
      })
]

pub begins : (start : LineStart) (t : List ℕ) (front : Front) (ending : Field) (size : ℕ) → IsFront t front → IsEnding start (drop front.size t) ending → front.size + ending.size + 1 < length t
    → EndsAt t (front.size + ending.size) size → BeginsWith start t (record { occ = occ_with front ending.value; size = size })
begins start t front ending size f e long at =
    let n = front.size in
    let place = n + ending.size in
    let tail = take ending.size (drop n t) in
    let fields : take place t ≡ take n t ++ tail = take-add n ending.size t in
    let plain : list_all is_plain (take place t) ≡ true = ap (list_all is_plain) fields ∙ list_all-append is_plain (take n t) tail ∙ rw (f.plain, e.plain) refl in
    let few : n < 32 = f.few in
    let some : 0 < n = f.some in
    let e_few : ending.size ≤ 11 = e.few in
    let l = ends t place size (omega arith) plain at in
    let least : place ≤ size = l.least in
    let most : size ≤ place + 1 = l.most in
    record {
      within = omega arith;
      short = omega arith;
      newline = at.newline;
      one = record { each = l.one };
      fields = place;
      some = omega arith;
      few = least;
      digit = f.digit;
      whole = l.whole;
      occurs = ap (occurrence_on start.stamped start.given) fields ∙ f.occurs start.stamped start.given ending.value tail e.field e.value;
    }

-- in version 1 nothing stands after the program counter
pub begins-1 : (start : LineStart) (t : List ℕ) (front : Front) (size : ℕ) → start.stamped ≡ false → IsFront t front → front.size + 1 < length t → EndsAt t front.size size
    → BeginsWith start t (record { occ = occ_with front start.given; size = size })
begins-1 start t front size plain f long at =
    let same : front.size ≡ front.size + 0 = omega arith in
    begins start t front (record { value = start.given; size = 0 }) size f (ending-1 start (drop front.size t) plain) (omega arith) (subst (λ place. EndsAt t place size) same at)

-- in version 2 a space and the stamp
pub begins-2 : (start : LineStart) (t : List ℕ) (front : Front) (stamp : Field) (size : ℕ) → start.stamped ≡ true → IsFront t front → IsStamp (drop front.size t) stamp
    → front.size + (1 + stamp.size) + 1 < length t → EndsAt t (front.size + (1 + stamp.size)) size → BeginsWith start t (record { occ = occ_with front stamp.value; size = size })
begins-2 start t front stamp size stamped f s long at = begins start t front (record { value = stamp.value; size = 1 + stamp.size }) size f (ending-2 start (drop front.size t) stamp stamped s) long at
