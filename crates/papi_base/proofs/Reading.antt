-- A tape of which the front has been read.
use Rattle.std.proofs.Common.{◌≡◌, ◌<◌, ◌≤◌, ◌+◌, ◌-◌, ℕ, List, [], ◌∷◌, ◌++◌, length, take, drop, refl, arith, sym, ap, ◌∙◌, IfSome, append_assoc, length-append, length-drop, Option, Some, None, Result, Ok}
use Rattle.std.proofs.Math.Seq.{take-add}
use Rattle.std.proofs.lemmas.List.{append-nil, drop-drop, length-take-le, take-append-drop}
use Rattle.papi_base.specs.Outside.{Tape, Gives, tape_after, appended, without, answer_at}
use Rattle.papi_base.specs.declared.outside.Ending.{Ending}
use Rattle.papi_base.specs.declared.outside.Ending.TheVariants.{End, Fault}
use Rattle.papi_base.specs.declared.outside.Failed.{Failed}

-- these bytes are the front of the tape, and the source has the rest
pub record IsFront (tape : Tape) (now : Option Tape) (bytes : List ℕ) : Type 0 where
  pub rest : now ≡ Some (without (length bytes) tape)
  pub front : bytes ≡ take (length bytes) tape.bytes
  pub within : length bytes ≤ length tape.bytes

abbrev pub HasRead : Option Tape → Option Tape → List ℕ → Type 0
HasRead tape now bytes = IfSome tape (λ tape. IsFront tape now bytes)

-- the front grows by what a read gives
front-more : (t : Tape) (bytes buf : List ℕ) (n : ℕ) → IsFront t (Some (without (length bytes) t)) bytes → Gives (without (length bytes) t) (Ok n) buf → IsFront t (Some (without n (without (length bytes) t))) (bytes ++ take n buf)
front-more t bytes buf n f g =
    let rest_len : length (drop (length bytes) t.bytes) ≡ length t.bytes - length bytes = length-drop (length bytes) t.bytes in
    let fits : n ≤ length (drop (length bytes) t.bytes) = g.bytes.0 in
    let same : take n buf ≡ take n (drop (length bytes) t.bytes) = g.bytes.1 in
    let len : length (bytes ++ take n buf) ≡ length bytes + n =
    length-append bytes (take n buf) ∙ ap (λ k. length bytes + k) (ap length same ∙ length-take-le n (drop (length bytes) t.bytes) fits) in
    let cut : take (length bytes + n) t.bytes ≡ take (length bytes) t.bytes ++ take n (drop (length bytes) t.bytes) = take-add (length bytes) n t.bytes in
    record {
      rest = ap (λ bs. Some (record { bytes = bs; ending = t.ending })) (drop-drop n (length bytes) t.bytes ∙ ap (λ k. drop k t.bytes) (sym len));
      front = rw len (rw cut (rw same (ap (λ bs. bs ++ take n (drop (length bytes) t.bytes)) f.front)));
      within = let w : length bytes ≤ length t.bytes = f.within in omega arith;
    }

pub HasRead-more : (tape now next : Option Tape) (bytes buf : List ℕ) (n : ℕ) → HasRead tape now bytes → IfSome now (λ t. Gives t (Ok n) buf) → next ≡ tape_after (Ok n) now → HasRead tape next (bytes ++ take n buf)
HasRead-more None now next bytes buf n h g e = tt
HasRead-more (Some t) now next bytes buf n h g e =
    let g2 = rw h.rest at g in
    let e2 = rw h.rest at e in
    rw e2 (front-more t bytes buf n (record { rest = refl; front = h.front; within = h.within }) g2)

-- What is appended in two pieces.
pub appended-more : (o : Option (List ℕ)) (xs : List ℕ) (i n : ℕ) → appended (appended o (take i xs)) (take n (drop i xs)) ≡ appended o (take (i + n) xs)
appended-more None xs i n = refl
appended-more (Some before) xs i n = ap Some (append_assoc before (take i xs) (take n (drop i xs)) ∙ ap (λ bs. before ++ bs) (sym (take-add i n xs)))

nothing_left : (t : Tape) (buf : List ℕ) (n : ℕ) → n ≡ 0 → 0 < length buf → Gives t (Ok n) buf → t.bytes ≡ []
nothing_left t buf n zero room g = empty t.bytes (λ left. let more : 0 < n = g.some left room in omega arith)
  where
    empty : (bs : List ℕ) → (0 < length bs → ⊥) → bs ≡ []
    empty [] h = refl
    empty (x ∷ bs) h = absurd (h (omega arith))

ends_well : (ending : Ending) (n : ℕ) → ◌≡◌ {A = Result ℕ Failed} (Ok n) (answer_at ending) → ending ≡ End
ends_well End n e = refl
ends_well Fault n e = cc

-- at the end of a tape the front is the whole
front-whole : (t : Tape) (bytes buf : List ℕ) (n limit : ℕ) → n ≡ 0 → 0 < length buf → length bytes ≤ limit → IsFront t (Some (without (length bytes) t)) bytes → Gives (without (length bytes) t) (Ok n) buf → (bytes ≡ t.bytes) × (t.ending ≡ End) × (length t.bytes ≤ limit)
front-whole t bytes buf n limit zero room small f g =
    let none = nothing_left (without (length bytes) t) buf n zero room g in
    let left : drop (length bytes) t.bytes ≡ [] = none in
    let e : ◌≡◌ {A = Result ℕ Failed} (Ok n) (answer_at t.ending) = g.none none in
    let all : bytes ≡ t.bytes = f.front ∙ sym (append-nil (take (length bytes) t.bytes)) ∙ ap (λ bs. take (length bytes) t.bytes ++ bs) (sym left) ∙ take-append-drop (length bytes) t.bytes in
    (all, ends_well t.ending n e, rw (← all) small)

pub HasRead-whole : (tape now : Option Tape) (bytes buf : List ℕ) (n limit : ℕ) → n ≡ 0 → 0 < length buf → length bytes ≤ limit → HasRead tape now bytes → IfSome now (λ t. Gives t (Ok n) buf) → IfSome tape (λ t. (bytes ≡ t.bytes) × (t.ending ≡ End) × (length t.bytes ≤ limit))
HasRead-whole None now bytes buf n limit zero room small h g = tt
HasRead-whole (Some t) now bytes buf n limit zero room small h g =
    let g2 = rw h.rest at g in
    front-whole t bytes buf n limit zero room small (record { rest = refl; front = h.front; within = h.within }) g2
