-- What an answer that is read says of the parts that it was read from.
use Rattle.std.proofs.Common.{arith}
use Rattle.call_laws.proofs.Words.{◌≡◌, ◌⊎◌, inl, inr, ℕ, Bool, true, false, List, [], ◌∷◌, refl, Option, Some, None, Result, Ok, Err}
use Rattle.call_laws.proofs.Words.{bytes_eq, if◌then◌else◌, bytes_eq-Decides, Text, and_then, Open, begin_call}
use Rattle.call_laws.proofs.Words.{begun_of, by_script, innermost, innermost_call, region_call, line_of_thread}
use Rattle.call_laws.proofs.Words.{line_of_words, line_with, open_of, region_line, run_call, RegionCause, UnknownCall}
use Rattle.call_laws.proofs.Words.{WrongRegion, RegionCall, RegionLine}
use Rattle.script_lines.specs.Lines.{thread_in}
use Rattle.region_report.specs.declared.regions.RegionCall.TheVariants as call

-- both parts were read
both_read : {A B : Type 0} (first : Result A RegionCause) (next : A → Result B RegionCause) (b : B) → and_then first next ≡ Ok b
    → (a : A) × (first ≡ Ok a) × (next a ≡ Ok b)
both_read (Ok a) next b e = (a, refl, e)
both_read (Err cause) next b e = cc

not_refused : {A : Type 0} (b : Bool) (cause : RegionCause) (read : Result A RegionCause) (a : A) → (if b then Err cause else read) ≡ Ok a → read ≡ Ok a
not_refused true cause read a e = cc
not_refused false cause read a e = e

-- the call of the word that it has
one_of : {A : Type 0} (b c d f : Bool) (first second third fourth : Result A RegionCause) (a : A)
    → (if b then first else if c then second else if d then third else if f then fourth else Err UnknownCall) ≡ Ok a
    → (first ≡ Ok a) ⊎ ((second ≡ Ok a) ⊎ ((third ≡ Ok a) ⊎ (fourth ≡ Ok a)))
one_of true c d f first second third fourth a e = inl e
one_of false true d f first second third fourth a e = inr (inl e)
one_of false false true f first second third fourth a e = inr (inr (inl e))
one_of false false false true first second third fourth a e = inr (inr (inr e))
one_of false false false false first second third fourth a e = cc

-- a region of this name is open, and began at this reading
abbrev pub Found : Option Open → Text → ℕ → Type 0
Found place name begun = (o : Open) × (place ≡ Some o) × (o.name ≡ name) × (o.begun ≡ begun)

found : (place : Option Open) (name : Text) (begun : ℕ) → begun_of place name ≡ Ok begun → Found place name begun
found None name begun e = cc
found (Some o) name begun e = go (bytes_eq o.name name) refl e where
  go : (b : Bool) → bytes_eq o.name name ≡ b → (if b then Ok o.begun else Err WrongRegion) ≡ Ok begun → Found (Some o) name begun
  go true q h = (o, refl, (bytes_eq-Decides o.name name).0 q, (let same : o.begun ≡ begun = cc in same))
  go false q h = cc

-- the call of an open region
abbrev pub OfInnermost : (Text → RegionCall) → List Open → RegionCall × ℕ → Type 0
OfInnermost make opens called = (name : Text) × (called.0 ≡ make name) × Found (innermost opens) name called.1

of_innermost : (make : Text → RegionCall) (opens : List Open) (words : List Text) (called : RegionCall × ℕ) → innermost_call make opens words ≡ Ok called → OfInnermost make opens called
of_innermost make opens words called e = grind (arith, both_read, found)

-- ---- the four calls

-- a region begins at this reading
abbrev pub Begins : ℕ → RegionCall × ℕ → Type 0
Begins readings called = (name : Text) × (called ≡ (call.Begin name, readings))

abbrev pub Runs : RegionCall × ℕ → Type 0
Runs called = (n : ℕ) × (begun : ℕ) × (called ≡ (call.Run n, begun))

abbrev pub Called : ℕ → List Open → RegionCall × ℕ → Type 0
Called readings opens called =
    Begins readings called ⊎ (OfInnermost (λ name. call.Read name) opens called ⊎ (OfInnermost (λ name. call.End name) opens called ⊎ Runs called))

begins : (readings : ℕ) (opens : List Open) (words : List Text) (called : RegionCall × ℕ) → begin_call readings opens words ≡ Ok called → Begins readings called
begins readings opens words called e = grind (arith, both_read)

runs : (readings : ℕ) (words : List Text) (called : RegionCall × ℕ) → run_call readings words ≡ Ok called → Runs called
runs readings words called e = grind (arith, both_read)

pub called_is : (readings : ℕ) (opens : List Open) (word : Text) (words : List Text) (called : RegionCall × ℕ) → region_call readings opens word words ≡ Ok called → Called readings opens called
called_is readings opens word words called e = grind (arith, one_of, begins, of_innermost, runs)

-- ---- a line

-- it is the call of a thread
abbrev pub IsCalled : ℕ → ℕ → List (List Open) → RegionLine → Type 0
IsCalled number readings opens line =
    (t : ℕ) × (called : RegionCall × ℕ) × (line ≡ line_with number t called) × Called readings (open_of opens t) called

of_thread : (number readings : ℕ) (opens : List (List Open)) (t : ℕ) (words : List Text) (line : RegionLine) → line_of_thread number readings opens t words ≡ Ok line
    → IsCalled number readings opens line
of_thread number readings opens t [] line e = cc
of_thread number readings opens t (word ∷ words) line e = go (region_call readings (open_of opens t) word words) refl e where
  go : (read : Result (RegionCall × ℕ) RegionCause) → region_call readings (open_of opens t) word words ≡ read → and_then read (λ called. Ok (line_with number t called)) ≡ Ok line
      → IsCalled number readings opens line
  go (Ok called) q h = (t, called, (let same : line ≡ line_with number t called = cc in same), called_is readings (open_of opens t) word words called q)
  go (Err cause) q h = cc

of_words : (number readings : ℕ) (opens : List (List Open)) (words : List Text) (line : RegionLine) → line_of_words number readings opens words ≡ Ok line
    → IsCalled number readings opens line
of_words number readings opens [] line e = cc
of_words number readings opens (thread ∷ words) line e =
    let read = both_read (by_script (thread_in thread)) (λ t. line_of_thread number readings opens t words) line e in
    of_thread number readings opens read.0 words line read.2

pub line_is : (number above readings : ℕ) (opens : List (List Open)) (text : Text) (line : RegionLine) → region_line number above readings opens text ≡ Ok line
    → IsCalled number readings opens line
unfolding region_line
line_is number above readings opens text line e = grind (arith, of_words, not_refused)
