-- A text that is not a name is the name of no event.
use Rattle.name_encoder.proofs.Words.{◌≡◌, ◌∙◌, ◌+◌, ◌<◌, ◌≤◌, ◌∷◌, ℕ, List, [], None, Bool, true, false, length, refl, sym, ap, arith, and_from}
use Rattle.name_encoder.proofs.Words.{and_parts, cond_both, false_from_ne_true, le-leb, ltb-false, ltb-true, length-map, bytes_eq-Decides}
use Rattle.name_encoder.proofs.Words.{to_ascii_lowercase, AllByRecursion, list_all, str_eq_ignore_ascii_case, str_to_ascii_lowercase, Text, is_name}
use Rattle.name_encoder.proofs.Words.{is_name_byte, IsComponent, IsEvent, ComponentText, EventText, Split, agrees, choice, event_from, found_from}
use Rattle.std.specs.Prelude.{◌&&◌, ◌||◌, ◌==◌, if◌then◌else◌, nat_le, nat_lt}

-- ---- a name in another case is a name

or-second : (a b : Bool) → (a || (true || b)) ≡ true
or-second true b = refl
or-second false b = refl

or-third : (a b c : Bool) → (a || (b || (true || c))) ≡ true
or-third true b c = refl
or-third false true c = refl
or-third false false c = refl

letter-lower : (b n : ℕ) → 65 ≤ b → b < 91 → n ≡ b + 32 → is_name_byte n ≡ is_name_byte b
letter-lower b n low high e =
    let u : nat_le 65 b ≡ true = le-leb 65 b low in
    let v : nat_le b 90 ≡ true = le-leb b 90 (omega arith) in
    let w : nat_le 97 n ≡ true = le-leb 97 n (omega (arith, e)) in
    let x : nat_le n 122 ≡ true = le-leb n 122 (omega (arith, e)) in
    let upper : is_name_byte b ≡ true = rw (u, v) (or-second (nat_le 48 b && nat_le b 57) ((nat_le 97 b && nat_le b 122) || ((b == 95) || (b == 45)))) in
    let lower : is_name_byte n ≡ true = rw (w, x) (or-third (nat_le 48 n && nat_le n 57) (nat_le 65 n && nat_le n 90) ((n == 95) || (n == 45))) in
    lower ∙ sym upper

byte-lower : (b : ℕ) → is_name_byte (to_ascii_lowercase b) ≡ is_name_byte b
byte-lower b = go (nat_lt b 65) (nat_lt b 91) refl refl
  where
    go : (p q : Bool) → nat_lt b 65 ≡ p → nat_lt b 91 ≡ q → is_name_byte (if p then b else if q then b + 32 else b) ≡ is_name_byte b
    go true q e f = refl
    go false true e f = letter-lower b (b + 32) (ltb-false b 65 e) (ltb-true b 91 f) refl
    go false false e f = refl

all-lower : (xs ys : List ℕ) → str_to_ascii_lowercase xs ≡ str_to_ascii_lowercase ys → list_all is_name_byte xs ≡ true → list_all is_name_byte ys ≡ true
all-lower [] [] e h = refl
all-lower [] (y ∷ ys) e h = cc e
all-lower (x ∷ xs) [] e h = cc e
all-lower (x ∷ xs) (y ∷ ys) e h =
    let first : to_ascii_lowercase x ≡ to_ascii_lowercase y = cc e in
    let rest : str_to_ascii_lowercase xs ≡ str_to_ascii_lowercase ys = cc e in
    let here : is_name_byte y ≡ true = sym (byte-lower y) ∙ ap is_name_byte (sym first) ∙ byte-lower x ∙ (and_parts _ _ h).0 in
    and_from (is_name_byte y) (list_all is_name_byte ys) here (all-lower xs ys rest (and_parts _ _ h).1)

name-lower : (a b : Text) → str_to_ascii_lowercase a ≡ str_to_ascii_lowercase b → is_name a ≡ true → is_name b ≡ true
unfolding is_name
name-lower a b e h =
    let long : length a ≡ length b = sym (length-map a to_ascii_lowercase) ∙ ap length e ∙ length-map b to_ascii_lowercase in
    let bytes = all-lower a b e (and_parts _ _ (and_parts _ _ h).1).1 in
    rw (← long) (and_from _ _ (and_parts _ _ h).0 (and_from _ _ (and_parts _ _ (and_parts _ _ h).1).0 bytes))

-- ---- no event has a name that is not one

apart : (a b : Text) → is_name a ≡ true → is_name b ≡ false → str_eq_ignore_ascii_case a b ≡ false
apart a b h n = false_from_ne_true (str_eq_ignore_ascii_case a b)
    (λ e. let named = name-lower a b ((bytes_eq-Decides (str_to_ascii_lowercase a) (str_to_ascii_lowercase b)).0 e) h in cc (named, n))

event-unnamed : (n comp row : ℕ) (c : ComponentText) (name : Text) (es : List EventText) → is_name name ≡ false → AllByRecursion (IsEvent n) es → event_from comp c name row es ≡ None
unfolding event_from
event-unnamed n comp row c name [] f h = refl
event-unnamed n comp row c name (x ∷ es) f h = rw (apart x.name name h.0.named f) (event-unnamed n comp (row + 1) c name es f h.1)

choice-unnamed : (s : Split) (comp : ℕ) (c : ComponentText) → is_name s.event ≡ false → IsComponent c → choice s comp c ≡ None
choice-unnamed s comp c f h =
    cond_both (agrees s.comp c.name && agrees s.pmu c.pmu) (event_from comp c s.event 0 c.events) None (λ o. o ≡ None) (λ b. event-unnamed (length c.counters) comp 0 c s.event c.events f h.events) (λ b. refl)

pub unnamed : (s : Split) (comp : ℕ) (tables : List ComponentText) → is_name s.event ≡ false → AllByRecursion IsComponent tables → found_from s comp tables ≡ None
unfolding found_from
unnamed s comp [] f h = refl
unnamed s comp (c ∷ tables) f h = rw (choice-unnamed s comp c f h.0) (unnamed s (comp + 1) tables f h.1)
