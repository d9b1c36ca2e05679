-- The readers of a run's streams: what they tell, and how many have a source.
use Rattle.papi_tools.proofs.Words.{◌≡◌, ◌<◌, ◌≤◌, ◌⊎◌, ◌+◌, ◌-◌, ℕ, zero, suc, List, [], ◌∷◌, ◌++◌, length, map, replicate, cond, is_some, Option}
use Rattle.papi_tools.proofs.Words.{Some, Vec, Global, vec_len, inl, inr, refl, sym, ap, ◌∙◌, arith, append_assoc, length-map, map-append}
use Rattle.papi_tools.proofs.Words.{replicate_more, sum_by-append, map-map, Rose, Tape, Coming, ReaderView, faults_of, SomeFailed, empty_stream}
use Rattle.papi_tools.proofs.Words.{sources_in, stream_of, streams_of}

-- one empty stream more
pub one_empty_more : {X : Type 0} (named now : List X) (x : X) (m n k : ℕ) → now ≡ named ++ replicate (n - m) x → m ≤ n → k ≡ n + 1 → now ++ x ∷ [] ≡ named ++ replicate (k - m) x
one_empty_more named now x m n k e le next =
    ap (λ xs. xs ++ x ∷ []) e ∙ append_assoc named (replicate (n - m) x) (x ∷ []) ∙ ap (λ xs. named ++ xs) (replicate_more (n - m) x)
    ∙ ap (λ j. named ++ replicate j x) (let q : n - m + 1 ≡ k - m = omega arith in q)

map-replicate : {X Y : Type 0} (f : X → Y) (n : ℕ) (x : X) → map f (replicate n x) ≡ replicate n (f x)
map-replicate f zero x = refl
map-replicate f (suc n) x = ap (λ ys. f x ∷ ys) (map-replicate f n x)

-- if the readers tell the streams of the tapes, and then empty ones, they tell the streams of all threads
pub all_streams : (tapes : List Tape) (named coming : List (Option Coming)) (n : ℕ) → named ≡ map (λ t. Some (stream_of t)) tapes → n ≡ length named →
    coming ≡ named ++ replicate (64 - n) (Some empty_stream) → coming ≡ map (λ s. Some s) (streams_of tapes)
unfolding streams_of
all_streams tapes named coming n is count all =
    let each : named ≡ map (λ s. Some s) (map stream_of tapes) = is ∙ sym (map-map (λ s. Some s) stream_of tapes) in
    let long : n ≡ length tapes = count ∙ ap length is ∙ length-map tapes (λ t. Some (stream_of t)) in
    all ∙ ap (λ xs. xs ++ replicate (64 - n) (Some empty_stream)) each ∙ ap (λ k. map (λ s. Some s) (map stream_of tapes) ++ replicate (64 - k) (Some empty_stream)) long
    ∙ ap (λ xs. map (λ s. Some s) (map stream_of tapes) ++ xs) (sym (map-replicate (λ s. Some s) (64 - length tapes) empty_stream))
    ∙ sym (map-append (λ s. Some s) (map stream_of tapes) (replicate (64 - length tapes) empty_stream))

-- the sources of these readers and of those
pub sources_in-append : (xs ys : List ReaderView) → sources_in (xs ++ ys) ≡ sources_in xs + sources_in ys
sources_in-append xs ys = sum_by-append (λ r. cond (is_some r.source) 1 0) xs ys

no_elements : {X : Type 0} (xs : List X) → length xs ≡ 0 → xs ≡ []
no_elements [] h = refl
no_elements (x ∷ xs) h = absurd (omega arith)

pub no_items : {X : Type 0} (v : Vec X Global) → vec_len v ≡ 0 → v.items ≡ []
no_items v h = no_elements v.items (omega (arith, h))

pub count : {X Y : Type 0} (f : X → Y) (v : Vec X Global) → vec_len v ≡ length (map f v.items)
count f v = let long : vec_len v ≡ length v.items = grind arith in long ∙ sym (length-map v.items f)

later : (r : ReaderView) (rs : List ReaderView) (x : ReaderView) → SomeFailed rs ⊎ (0 < faults_of x) → SomeFailed (r ∷ rs) ⊎ (0 < faults_of x)
later r rs x (inl (k, y, small, is, h)) = inl (suc k, y, omega arith, is, h)
later r rs x (inr h) = inr h

-- some source has failed: one of these, or the last
pub failed_more : (rs : List ReaderView) (x : ReaderView) → SomeFailed (rs ++ x ∷ []) → SomeFailed rs ⊎ (0 < faults_of x)
failed_more [] x (zero, y, small, is, h) = inr (let e : x ≡ y = is in rw e h)
failed_more [] x (suc k, y, small, is, h) = absurd (omega arith)
failed_more (r ∷ rs) x (zero, y, small, is, h) = inl (0, y, omega arith, is, h)
failed_more (r ∷ rs) x (suc k, y, small, is, h) = later r rs x (failed_more rs x (k, y, omega arith, is, h))

-- a count that rose first or then has risen
pub by_either : {A B : Type 0} (m n k : ℕ) → A ⊎ B → (A → Rose m n) → (B → Rose n k) → m ≤ n → n ≤ k → Rose m k
by_either m n k (inl a) f h small big = grind arith
by_either m n k (inr b) f h small big = grind arith
