-- The lines that read the counters, by the numbers of their readings.
use Rattle.call_laws.proofs.Words.{◌≡◌, ◌+◌, ◌≤◌, ℕ, zero, suc, Bool, true, false, List, [], ◌∷◌, ◌++◌, filter, length, refl, sym, ◌∙◌, ap, ap₂}
use Rattle.call_laws.proofs.Words.{subst, arith, append_assoc, append-nil, Some, slice_get, slice_index_or, if◌then◌else◌, Coming, EventRef, Book}
use Rattle.call_laws.proofs.Words.{is_reading, RegionLine, before_reading, reading_line, asked_in, reading_after, readings_after}

-- how many of the lines read the counters
abbrev pub readings : List RegionLine → ℕ
readings lines = length (filter is_reading lines)

pub filter_reading : (l : RegionLine) (lines : List RegionLine) → is_reading l ≡ true → filter is_reading (l ∷ lines) ≡ l ∷ filter is_reading lines
filter_reading l lines e = ap (λ b. if b then l ∷ filter is_reading lines else filter is_reading lines) e

pub filter_running : (l : RegionLine) (lines : List RegionLine) → is_reading l ≡ false → filter is_reading (l ∷ lines) ≡ filter is_reading lines
filter_running l lines e = ap (λ b. if b then l ∷ filter is_reading lines else filter is_reading lines) e

pub before_none : (l : RegionLine) (lines : List RegionLine) → is_reading l ≡ true → before_reading (l ∷ lines) 0 ≡ []
before_none l lines e = ap (λ b. if b then [] else l ∷ before_reading lines 0) e

pub before_later : (l : RegionLine) (lines : List RegionLine) (i : ℕ) → is_reading l ≡ true → before_reading (l ∷ lines) (suc i) ≡ l ∷ before_reading lines i
before_later l lines i e = ap (λ b. l ∷ before_reading lines (if b then i else suc i)) e

pub before_running : (l : RegionLine) (lines : List RegionLine) (i : ℕ) → is_reading l ≡ false → before_reading (l ∷ lines) i ≡ l ∷ before_reading lines i
before_running l lines zero e = ap (λ b. if b then [] else l ∷ before_reading lines 0) e
before_running l lines (suc i) e = ap (λ b. l ∷ before_reading lines (if b then i else suc i)) e

-- ---- a line's own reading

-- its number is that of the readings before it
pub own_number : (before : List RegionLine) (l : RegionLine) (ys : List RegionLine) → is_reading l ≡ true → reading_line (before ++ l ∷ ys) (readings before) l
own_number [] l ys e = ap (λ ls. slice_get ls 0) (filter_reading l ys e)
own_number (x ∷ before) l ys e = go (is_reading x) refl (own_number before l ys e) where
  go : (b : Bool) → is_reading x ≡ b → reading_line (before ++ l ∷ ys) (readings before) l → reading_line (x ∷ before ++ l ∷ ys) (readings (x ∷ before)) l
  go true q h =
      ap₂ (λ ls i. slice_get ls (length i)) (filter_reading x (before ++ l ∷ ys) q) (filter_reading x before q)
      ∙ h
  go false q h = ap₂ (λ ls i. slice_get ls (length i)) (filter_running x (before ++ l ∷ ys) q) (filter_running x before q) ∙ h

pub own_before : (before : List RegionLine) (l : RegionLine) (ys : List RegionLine) → is_reading l ≡ true → before_reading (before ++ l ∷ ys) (readings before) ≡ before
own_before [] l ys e = before_none l ys e
own_before (x ∷ before) l ys e = go (is_reading x) refl (own_before before l ys e) where
  go : (b : Bool) → is_reading x ≡ b → before_reading (before ++ l ∷ ys) (readings before) ≡ before → before_reading (x ∷ before ++ l ∷ ys) (readings (x ∷ before)) ≡ x ∷ before
  go true q h =
      ap (λ i. before_reading (x ∷ before ++ l ∷ ys) (length i)) (filter_reading x before q)
      ∙ before_later x (before ++ l ∷ ys) (readings before) q ∙ ap (λ ls. x ∷ ls) h
  go false q h =
      ap (λ i. before_reading (x ∷ before ++ l ∷ ys) (length i)) (filter_running x before q)
      ∙ before_running x (before ++ l ∷ ys) (readings before) q ∙ ap (λ ls. x ∷ ls) h

-- further lines do not change what is before a reading
pub before_grown : (lines ys : List RegionLine) (i : ℕ) (b : RegionLine) → reading_line lines i b → before_reading (lines ++ ys) i ≡ before_reading lines i
before_grown [] ys i b e = cc
before_grown (x ∷ lines) ys i b e = go (is_reading x) refl i e (λ j h. before_grown lines ys j b h) where
  go : (r : Bool) → is_reading x ≡ r → (i : ℕ) → reading_line (x ∷ lines) i b → ((j : ℕ) → reading_line lines j b → before_reading (lines ++ ys) j ≡ before_reading lines j)
      → before_reading (x ∷ lines ++ ys) i ≡ before_reading (x ∷ lines) i
  go true q zero h rest = before_none x (lines ++ ys) q ∙ sym (before_none x lines q)
  go true q (suc i) h rest =
      before_later x (lines ++ ys) i q ∙ ap (λ ls. x ∷ ls) (rest i (sym (ap (λ ls. slice_get ls (suc i)) (filter_reading x lines q)) ∙ h)) ∙ sym (before_later x lines i q)
  go false q i h rest =
      before_running x (lines ++ ys) i q ∙ ap (λ ls. x ∷ ls) (rest i (sym (ap (λ ls. slice_get ls i) (filter_running x lines q)) ∙ h)) ∙ sym (before_running x lines i q)

pub readings_more : (before : List RegionLine) (l : RegionLine) → readings (before ++ l ∷ []) ≡ readings before + (if is_reading l then 1 else 0)
readings_more [] l = go (is_reading l) refl where
  go : (b : Bool) → is_reading l ≡ b → readings (l ∷ []) ≡ 0 + (if b then 1 else 0)
  go true q = ap length (filter_reading l [] q)
  go false q = ap length (filter_running l [] q)
readings_more (x ∷ before) l = go (is_reading x) refl (readings_more before l) where
  go : (b : Bool) → is_reading x ≡ b → readings (before ++ l ∷ []) ≡ readings before + (if is_reading l then 1 else 0)
      → readings (x ∷ before ++ l ∷ []) ≡ readings (x ∷ before) + (if is_reading l then 1 else 0)
  go true q h = let a = ap length (filter_reading x (before ++ l ∷ []) q) in let b = ap length (filter_reading x before q) in omega (arith, a, b, h)
  go false q h = let a = ap length (filter_running x (before ++ l ∷ []) q) in let b = ap length (filter_running x before q) in omega (arith, a, b, h)

-- ---- the reading of a number

-- it is that of its line after the lines before it
pub reading_of_number : (book : Book) (streams : List Coming) (events : List EventRef) (ys before : List RegionLine) (j : ℕ) (b : RegionLine) → reading_line ys j b
    → slice_index_or (readings_after book streams events before ys) j [] ≡ reading_after book streams events b.thread (before ++ before_reading ys j)
reading_of_number book streams events [] before j b e = cc
reading_of_number book streams events (l ∷ ys) before j b e = go (is_reading l) refl j e (λ i h. reading_of_number book streams events ys (before ++ l ∷ []) i b h) where
  more : (i : ℕ) → slice_index_or (readings_after book streams events (before ++ l ∷ []) ys) i [] ≡ reading_after book streams events b.thread ((before ++ l ∷ []) ++ before_reading ys i)
      → slice_index_or (readings_after book streams events (before ++ l ∷ []) ys) i [] ≡ reading_after book streams events b.thread (before ++ (l ∷ before_reading ys i))
  more i h = h ∙ ap (reading_after book streams events b.thread) (append_assoc before (l ∷ []) (before_reading ys i))

  go : (r : Bool) → is_reading l ≡ r → (j : ℕ) → reading_line (l ∷ ys) j b
      → ((i : ℕ) → reading_line ys i b → slice_index_or (readings_after book streams events (before ++ l ∷ []) ys) i [] ≡ reading_after book streams events b.thread ((before ++ l ∷ []) ++ before_reading ys i))
      → slice_index_or (readings_after book streams events before (l ∷ ys)) j [] ≡ reading_after book streams events b.thread (before ++ before_reading (l ∷ ys) j)
  go true q zero h rest =
      let there : Some l ≡ Some b = sym (ap (λ ls. slice_get ls 0) (filter_reading l ys q)) ∙ h in
      let same : l ≡ b = cc in
      ap (λ r. slice_index_or ((if r then reading_after book streams events l.thread before ∷ [] else []) ++ readings_after book streams events (before ++ l ∷ []) ys) 0 []) q
      ∙ ap (λ x. reading_after book streams events x.thread before) same
      ∙ ap (reading_after book streams events b.thread) (sym (append-nil before) ∙ ap (λ ls. before ++ ls) (sym (before_none l ys q)))
  go true q (suc i) h rest =
      ap (λ r. slice_index_or ((if r then reading_after book streams events l.thread before ∷ [] else []) ++ readings_after book streams events (before ++ l ∷ []) ys) (suc i) []) q
      ∙ more i (rest i (sym (ap (λ ls. slice_get ls (suc i)) (filter_reading l ys q)) ∙ h))
      ∙ ap (λ ls. reading_after book streams events b.thread (before ++ ls)) (sym (before_later l ys i q))
  go false q j h rest =
      ap (λ r. slice_index_or ((if r then reading_after book streams events l.thread before ∷ [] else []) ++ readings_after book streams events (before ++ l ∷ []) ys) j []) q
      ∙ more j (rest j (sym (ap (λ ls. slice_get ls j) (filter_running l ys q)) ∙ h))
      ∙ ap (λ ls. reading_after book streams events b.thread (before ++ ls)) (sym (before_running l ys j q))

-- ---- earlier readings

-- the lines before an earlier reading ask for no more
pub asked_earlier : (t : ℕ) (lines : List RegionLine) (j i : ℕ) → j ≤ i → asked_in t (before_reading lines j) ≤ asked_in t (before_reading lines i)
asked_earlier t [] j i h = omega arith
asked_earlier t (l ∷ lines) j i h = go (is_reading l) refl j i h (λ a b k. asked_earlier t lines a b k) where
  more : (a b : ℕ) → asked_in t (before_reading lines a) ≤ asked_in t (before_reading lines b)
      → asked_in t (l ∷ before_reading lines a) ≤ asked_in t (l ∷ before_reading lines b)
  more a b k = omega (arith, k)

  go : (r : Bool) → is_reading l ≡ r → (j i : ℕ) → j ≤ i
      → ((a b : ℕ) → a ≤ b → asked_in t (before_reading lines a) ≤ asked_in t (before_reading lines b))
      → asked_in t (before_reading (l ∷ lines) j) ≤ asked_in t (before_reading (l ∷ lines) i)
  go true q zero i k rest = subst (λ ls. asked_in t ls ≤ asked_in t (before_reading (l ∷ lines) i)) (sym (before_none l lines q)) (omega arith)
  go true q (suc j) zero k rest = absurd (omega (arith, k))
  go true q (suc j) (suc i) k rest =
      subst (λ ls. asked_in t ls ≤ asked_in t (before_reading (l ∷ lines) (suc i))) (sym (before_later l lines j q))
      (subst (λ ls. asked_in t (l ∷ before_reading lines j) ≤ asked_in t ls) (sym (before_later l lines i q)) (more j i (rest j i (omega (arith, k)))))
  go false q j i k rest =
      subst (λ ls. asked_in t ls ≤ asked_in t (before_reading (l ∷ lines) i)) (sym (before_running l lines j q))
      (subst (λ ls. asked_in t (l ∷ before_reading lines j) ≤ asked_in t ls) (sym (before_running l lines i q)) (more j i (rest j i k)))
