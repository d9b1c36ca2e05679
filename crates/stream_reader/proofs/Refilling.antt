-- What a piece says of the source's tape.
use Rattle.stream_reader.proofs.Words.{◌≡◌, ◌∙◌, ◌+◌, ◌-◌, ◌<◌, ◌≤◌, ◌++◌, ◌∷◌, ℕ, Bool, List, [], length, take, drop, refl, sym, ap, subst, arith}
use Rattle.stream_reader.proofs.Words.{IfSome, Option, Some, None, Result, Ok, Err, IfOk, MatchResult, result_unwrap_or, Gives, Tape, answer_at}
use Rattle.stream_reader.proofs.Words.{tape_after, Failed, Ending, LineStart, ReaderView, SourceView, before_rest, HasEnded, IsReader, Refills}
use Rattle.std.specs.Option.{is_some, option_and_then, option_map, option_map_or}
use Rattle.std.proofs.lemmas.List.{length-drop, length-take-le, take-append-drop}
use Rattle.papi_base.specs.declared.outside.Ending.TheVariants.{End, Fault}
use Rattle.stream_reader.proofs.Room.{held-filled}

-- the tape and the count that a source's view shows
pub view-tape : {X : Type 0} (tape : X → Option Tape) (faults : X → ℕ) (o : Option X) → option_and_then (λ (s : SourceView). s.tape) (option_map (λ x. record { tape = tape x; faults = faults x }) o) ≡ option_and_then tape o
view-tape tape faults None = refl
view-tape tape faults (Some x) = refl

pub view-faults : {X : Type 0} (tape : X → Option Tape) (faults : X → ℕ) (o : Option X) → option_map_or (λ (s : SourceView). s.faults) (option_map (λ x. record { tape = tape x; faults = faults x }) o) 0 ≡ option_map_or faults o 0
view-faults tape faults None = refl
view-faults tape faults (Some x) = refl

-- a view shows whether there is a source
pub view-some : {X Y : Type 0} (view : X → Y) (o : Option X) → is_some (option_map view o) ≡ is_some o
view-some view None = refl
view-some view (Some x) = refl

-- what was read, and then the rest
tape-is : (answer : Result ℕ Failed) (buf : List ℕ) (old new : Option Tape) → new ≡ tape_after answer old → IfSome old (λ t. Gives t answer buf) → old ≡ option_map (before_rest (take (result_unwrap_or answer 0) buf)) new
tape-is (Ok n) buf None new e g = rw e refl
tape-is (Ok n) buf (Some t) new e g = rw e (ap (λ bs. Some (record { bytes = bs; ending = t.ending })) (sym (ap (λ bs. bs ++ drop n t.bytes) g.bytes.1 ∙ take-append-drop n t.bytes)))
tape-is (Err f) buf None new e g = rw e refl
tape-is (Err f) buf (Some t) new e g = rw e refl

size-is : (answer : Result ℕ Failed) (buf : List ℕ) → IfOk answer (λ n. n ≤ length buf) → MatchResult answer (λ n. length (take (result_unwrap_or answer 0) buf) ≡ n) (λ _. take (result_unwrap_or answer 0) buf ≡ [])
size-is (Ok n) buf h = length-take-le n buf h
size-is (Err f) buf h = refl

no-bytes : (bs : List ℕ) → (0 < length bs → ⊥) → bs ≡ []
no-bytes [] h = refl
no-bytes (x ∷ bs) h = absurd (h (omega arith))

good : (e : Ending) (n : ℕ) → ◌≡◌ {A = Result ℕ Failed} (Ok n) (answer_at e) → e ≡ End
good End n h = refl
good Fault n h = cc

faulty : (e : Ending) (f : Failed) → ◌≡◌ {A = Result ℕ Failed} (Err f) (answer_at e) → e ≡ Fault
faulty End f h = cc
faulty Fault f h = refl

ends : (answer : Result ℕ Failed) (buf : List ℕ) (old new : Option Tape) → 0 < length buf → new ≡ tape_after answer old → IfSome old (λ t. Gives t answer buf)
    → MatchResult answer (λ n. n ≡ 0 → HasEnded End new) (λ _. HasEnded Fault new)
ends (Ok n) buf None new room e g = λ zero. rw e tt
ends (Ok n) buf (Some t) new room e g = λ zero.
    let none : t.bytes ≡ [] = no-bytes t.bytes (λ some. let more : 0 < n = g.some some room in omega arith) in
    rw (e, zero) (none, good t.ending n (g.none none))
ends (Err f) buf None new room e g = rw e tt
ends (Err f) buf (Some t) new room e g =
    let none : t.bytes ≡ [] = no-bytes t.bytes (λ some. g.some some room) in
    rw e (none, faulty t.ending f (g.none none))

-- ---- a reader with a piece more

abbrev told_by : Option SourceView → Option Tape
told_by source = option_and_then (λ (s : SourceView). s.tape) source

-- what the calls did to the bytes of a reader
pub record IsFilled (from to : ℕ) (bytes filled : List ℕ) : Type 0 where
  pub short : to - from ≤ 128
  pub room : length filled ≡ 4224
  pub moves : take 128 filled ≡ take (128 - (to - from)) bytes ++ take (to - from) (drop from bytes)

pub refills : {from to : ℕ} {bytes : List ℕ} {start : LineStart} {over asked : Bool} {source : Option SourceView} {old : ReaderView}
    → IsReader from to bytes start → record { start = start; held = take (to - from) (drop from bytes); over = over; asked = asked; source = source } ≡ old
    → (answer : Result ℕ Failed) (filled : List ℕ) (later : Option SourceView) → IsFilled from to bytes filled → IfOk answer (λ n. n ≤ 4096)
    → told_by later ≡ tape_after answer (told_by source) → IfSome (told_by source) (λ t. Gives t answer (drop 128 filled))
    → Refills old answer (record { start = start; held = take ((128 + result_unwrap_or answer 0) - (128 - (to - from))) (drop (128 - (to - from)) filled); over = over; asked = asked; source = later })
refills {from = from} {to = to} {bytes = bytes} {start = start} {over = over} {asked = asked} {source = source} r is answer filled later f few tape gives = subst P is (record {
  piece = take (result_unwrap_or answer 0) (drop 128 filled);
  size = size-is answer (drop 128 filled) (rw buf few);
  held = held-filled from to (result_unwrap_or answer 0) bytes filled r.in_order f.short (omega (arith, r.within, r.room)) (omega (arith, r.room)) f.moves;
  start = refl;
  over = refl;
  asked = refl;
  tape = tape-is answer (drop 128 filled) (told_by source) (told_by later) tape gives;
  ends = ends answer (drop 128 filled) (told_by source) (told_by later) (omega (arith, buf)) tape gives;
})
  where
    P : ReaderView → Type 0
    P v = Refills v answer (record { start = start; held = take ((128 + result_unwrap_or answer 0) - (128 - (to - from))) (drop (128 - (to - from)) filled); over = over; asked = asked; source = later })

    buf : length (drop 128 filled) ≡ 4096
    buf = omega (arith, length-drop 128 filled, f.room)
