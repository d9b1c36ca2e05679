-- The text of a line, one more item at a time.
use Rattle.tool_output.proofs.Words.{◌≡◌, ◌∙◌, ◌≤◌, ◌+◌, ◌-◌, ◌∷◌, ◌++◌, ℕ, zero, suc, Bool, true, false, List, [], Some, cond, drop, filter, length}
use Rattle.tool_output.proofs.Words.{map, min, take, sym, ap, arith, append_assoc, append-nil, drop_all, map-append, map-id, take_all}
use Rattle.tool_output.proofs.Words.{flat_map-append, filter_of_map_range_with_len_more, bit_at, range_with_len, drop_at, take_at}
use Rattle.std.proofs.Common.{refl, subst}
use Rattle.tool_output.proofs.Words.{drop-set, set, ◌<◌}
use Rattle.std.proofs.lemmas.Str.{IsUtf8-append, IsUtf8-from_ascii}
use Rattle.std.proofs.lemmas.Str.Ascii.{IsAscii-cons}
use Rattle.std.specs.Str.{IsAscii, IsUtf8}
use Rattle.std.specs.Prelude.{◌==◌, slice_get, zip}
use Rattle.tool_output.specs.Replies.{Text, members_below, spaced}

-- ---- texts after spaces

spaced-append : (xs ys : List Text) → spaced (xs ++ ys) ≡ spaced xs ++ spaced ys
unfolding spaced
spaced-append xs ys = flat_map-append (λ (text : Text). 32 ∷ text) xs ys

spaced_one : (text : Text) → spaced (text ∷ []) ≡ 32 ∷ text
unfolding spaced
spaced_one text = ap (λ (t : Text). 32 ∷ t) (append-nil text)

spaced_two : (first second : Text) → spaced (first ∷ second ∷ []) ≡ 32 ∷ (first ++ 32 ∷ second)
unfolding spaced
spaced_two first second = ap (λ (t : Text). 32 ∷ (first ++ 32 ∷ t)) (append-nil second)

-- nothing is pushed
pub pushed_none : (start : Text) → start ≡ start ++ spaced []
unfolding spaced
pushed_none start = sym (append-nil start)

-- one text more is pushed
pushed_more : (start line after text : Text) (texts : List Text) → line ≡ start ++ spaced texts → after ≡ line ++ 32 ∷ text → after ≡ start ++ spaced (texts ++ text ∷ [])
pushed_more start line after text texts so_far more =
    more ∙ ap (λ (t : Text). t ++ 32 ∷ text) so_far ∙ append_assoc start (spaced texts) (32 ∷ text)
    ∙ ap (λ (t : Text). start ++ t) (sym (spaced-append texts (text ∷ []) ∙ ap (λ (t : Text). spaced texts ++ t) (spaced_one text)))

-- ---- the items of a list

-- the text of one item more is pushed
pub item_pushed : {X : Type 0} (f : X → Text) (xs : List X) (i : ℕ) (x : X) (start line after : Text) → slice_get xs i ≡ Some x
    → line ≡ start ++ spaced (map f (take i xs)) → after ≡ line ++ 32 ∷ f x → after ≡ start ++ spaced (map f (take (i + 1) xs))
item_pushed f xs i x start line after h so_far more =
    pushed_more start line after (f x) (map f (take i xs)) so_far more
    ∙ ap (λ (ts : List Text). start ++ spaced ts) (sym (ap (map f) (take_at xs i x h) ∙ map-append f (take i xs) (x ∷ [])))

-- the texts of all items are pushed
pub items_pushed : {X : Type 0} (f : X → Text) (xs : List X) (i : ℕ) (start after : Text) → length xs ≤ i → after ≡ start ++ spaced (map f (take i xs)) → after ≡ start ++ spaced (map f xs)
items_pushed f xs i start after all so_far = so_far ∙ ap (λ ys. start ++ spaced (map f ys)) (take_all i xs all)

-- ---- the items of a list, from the last one on, before a tail

-- no item is gathered
pub none_before : {X : Type 0} (f : X → Text) (xs : List X) (tail : Text) → tail ≡ spaced (map f (drop (length xs - 0) xs)) ++ tail
unfolding spaced
none_before {X = X} f xs tail = sym (ap (λ (ys : List X). spaced (map f ys) ++ tail) (drop_all (length xs - 0) xs (omega arith)))

-- one item more is gathered
pub one_before : {X : Type 0} (f : X → Text) (xs : List X) (done i : ℕ) (x : X) (tail rest after : Text) → slice_get xs i ≡ Some x → i + 1 ≡ length xs - done
    → rest ≡ spaced (map f (drop (length xs - done) xs)) ++ tail → after ≡ 32 ∷ (f x ++ rest) → after ≡ spaced (map f (drop (length xs - (done + 1)) xs)) ++ tail
unfolding spaced
one_before f xs done i x tail rest after at next so_far more =
    let here : length xs - (done + 1) ≡ i = omega (arith, next) in
    let from_here : drop (length xs - (done + 1)) xs ≡ x ∷ drop (length xs - done) xs = ap (λ (k : ℕ). drop k xs) here ∙ drop_at xs i x at ∙ ap (λ (k : ℕ). x ∷ drop k xs) next in
    more ∙ ap (λ (t : Text). 32 ∷ (f x ++ t)) so_far
    ∙ ap (λ (t : Text). 32 ∷ t) (sym (append_assoc (f x) (spaced (map f (drop (length xs - done) xs))) tail))
    ∙ sym (ap (λ ys. spaced (map f ys) ++ tail) from_here)

-- all items are gathered
pub all_before : {X : Type 0} (f : X → Text) (xs : List X) (done : ℕ) (tail rest : Text) → length xs ≤ done → rest ≡ spaced (map f (drop (length xs - done) xs)) ++ tail
    → rest ≡ spaced (map f xs) ++ tail
all_before f xs done tail rest all so_far =
    let start : length xs - done ≡ 0 = omega (arith, all) in
    so_far ∙ ap (λ (k : ℕ). spaced (map f (drop k xs)) ++ tail) start

-- ---- a text before another

-- a space and a word
pub word_before : (word rest all : Text) → all ≡ 32 ∷ (word ++ rest) → IsUtf8 word → IsUtf8 rest → IsUtf8 all
word_before word rest all is w r =
    subst IsUtf8 (sym is) (IsUtf8-append (32 ∷ []) (word ++ rest) (IsUtf8-from_ascii (32 ∷ []) (IsAscii-cons 32 [] (omega arith) (λ i. omega arith))) (IsUtf8-append word rest w r))

-- what stands before the results
pub head_joined : (line thread word code tail at_code at_word at_thread at_line : Text) → at_code ≡ 32 ∷ (code ++ tail) → at_word ≡ 32 ∷ (word ++ at_code) → at_thread ≡ 32 ∷ (thread ++ at_word) → at_line ≡ line ++ at_thread
    → at_line ≡ line ++ (spaced (thread ∷ word ∷ code ∷ []) ++ tail)
unfolding spaced
head_joined line thread word code tail at_code at_word at_thread at_line a b c d = rw (d, c, b, a) (simp append_assoc)

-- the whole line of a reply, its results before a newline
pub line_before : (line thread word code : Text) (results : List Text) (tail all : Text) → tail ≡ spaced results ++ 10 ∷ [] → all ≡ line ++ (spaced (thread ∷ word ∷ code ∷ []) ++ tail)
    → all ≡ line ++ (spaced (thread ∷ word ∷ []) ++ (spaced (code ∷ results) ++ 10 ∷ []))
line_before line thread word code results tail all t a = a ∙ ap (λ (x : Text). line ++ x) (ap (λ (x : Text). spaced (thread ∷ word ∷ code ∷ []) ++ x) t ∙ joined)
  where
    joined : spaced (thread ∷ word ∷ code ∷ []) ++ (spaced results ++ 10 ∷ []) ≡ spaced (thread ∷ word ∷ []) ++ (spaced (code ∷ results) ++ 10 ∷ [])
    joined =
        ap (λ (x : Text). x ++ (spaced results ++ 10 ∷ [])) (spaced-append (thread ∷ word ∷ []) (code ∷ []))
        ∙ append_assoc (spaced (thread ∷ word ∷ [])) (spaced (code ∷ [])) (spaced results ++ 10 ∷ [])
        ∙ ap (λ (x : Text). spaced (thread ∷ word ∷ []) ++ x)
        (sym (append_assoc (spaced (code ∷ [])) (spaced results) (10 ∷ [])) ∙ ap (λ (x : Text). x ++ 10 ∷ []) (sym (spaced-append (code ∷ []) results)))

-- no results
pub no_results : (tail : Text) → tail ≡ 10 ∷ [] → tail ≡ spaced [] ++ 10 ∷ []
unfolding spaced
no_results tail is = is

-- two results
pub two_results : (first second at_second at_first tail : Text) → tail ≡ 10 ∷ [] → at_second ≡ 32 ∷ (second ++ tail) → at_first ≡ 32 ∷ (first ++ at_second) → at_first ≡ spaced (first ∷ second ∷ []) ++ 10 ∷ []
two_results first second at_second at_first tail t b a = rw (a, b, t, spaced_two first second) (simp append_assoc)

-- what stands before the results, then the results, then a newline
pub line_after : (start line thread word code : Text) (results : List Text) (tail head first second after : Text) → tail ≡ [] → head ≡ line ++ (spaced (thread ∷ word ∷ code ∷ []) ++ tail)
    → first ≡ start ++ head → second ≡ first ++ spaced results → after ≡ second ++ 10 ∷ [] → after ≡ start ++ (line ++ (spaced (thread ∷ word ∷ []) ++ (spaced (code ∷ results) ++ 10 ∷ [])))
line_after start line thread word code results tail head first second after t h a b n =
    let whole : after ≡ start ++ (line ++ (spaced (thread ∷ word ∷ code ∷ []) ++ (spaced results ++ 10 ∷ []))) = rw (n, b, a, h, t) (simp (append_assoc, append-nil)) in
    whole ∙ ap (λ (x : Text). start ++ x) (line_before line thread word code results (spaced results ++ 10 ∷ []) _ refl refl)

-- a space is written before what stands at a place
pub space_before : (bytes : Text) (at : ℕ) (more : Text) → 0 < at → at ≤ length bytes → drop at bytes ≡ more → drop (at - 1) (set bytes (at - 1) 32) ≡ 32 ∷ more
space_before bytes at more low high is =
    let back : at - 1 + 1 ≡ at = omega (arith, low) in
    drop-set bytes (at - 1) 32 (omega (arith, low, high)) ∙ ap (λ (k : ℕ). 32 ∷ drop k bytes) back ∙ ap (λ (t : Text). 32 ∷ t) is

-- a newline is written at the last place
pub newline_last : (bytes : Text) (last : ℕ) → length bytes ≡ last + 1 → drop last (set bytes last 10) ≡ 10 ∷ []
newline_last bytes last size = drop-set bytes last 10 (omega (arith, size)) ∙ ap (λ (t : Text). 10 ∷ t) (drop_all (last + 1) bytes (omega (arith, size)))

pub newline_ascii : (bytes : Text) (last : ℕ) → length bytes ≡ last + 1 → IsAscii (drop last (set bytes last 10))
newline_ascii bytes last size = subst IsAscii (sym (newline_last bytes last size)) (IsAscii-cons 10 [] (omega arith) (λ i. omega arith))

-- ---- the pairs of two lists

-- the pair at a place of two lists
pub get-zip : {X : Type 0} (xs : List X) (ns : List ℕ) (i : ℕ) (x : X) (n : ℕ) → slice_get xs i ≡ Some x → slice_get ns i ≡ Some n → slice_get (zip xs ns) i ≡ Some (x, n)
get-zip xs [] i x n h k = cc k
get-zip [] (m ∷ ns) i x n h k = cc h
get-zip (y ∷ ys) (m ∷ ns) zero x n h k = let e : y ≡ x = cc h in let f : m ≡ n = cc k in ap (λ z. Some (z, m)) e ∙ ap (λ z. Some (x, z)) f
get-zip (y ∷ ys) (m ∷ ns) (suc i) x n h k = get-zip ys ns i x n h k

length-zip : {X : Type 0} (xs : List X) (ns : List ℕ) → (length (zip xs ns) ≤ length xs) × (length (zip xs ns) ≤ length ns)
length-zip [] ns = (omega arith, omega arith)
length-zip (y ∷ ys) [] = (omega arith, omega arith)
length-zip (y ∷ ys) (n ∷ ns) = let rest = length-zip ys ns in (omega (arith, rest.0), omega (arith, rest.1))

pub zip_within : {X : Type 0} (xs : List X) (ns : List ℕ) (i : ℕ) → min (length xs) (length ns) ≤ i → length (zip xs ns) ≤ i
zip_within xs ns i le = omega (arith, (length-zip xs ns).0, (length-zip xs ns).1)

-- ---- the members of a set of bits

-- the members below one number more
members_more : (k set : ℕ) → members_below (k + 1) set ≡ members_below k set ++ cond (bit_at set k == 1) (k ∷ []) []
unfolding members_below
members_more k set =
    ap (filter (λ x. bit_at set x == 1)) (sym (map-id (range_with_len 0 (k + 1))))
    ∙ filter_of_map_range_with_len_more (λ x. bit_at set x == 1) (λ x. x) 0 k k (omega arith)
    ∙ ap (λ (xs : List ℕ). filter (λ x. bit_at set x == 1) xs ++ cond (bit_at set k == 1) (k ∷ []) []) (map-id (range_with_len 0 k))

pub no_member_pushed : (f : ℕ → Text) (set : ℕ) (start : Text) → start ≡ start ++ spaced (map f (members_below 0 set))
unfolding members_below
no_member_pushed f set start = pushed_none start

-- the text of a member is pushed
pub member_pushed : (f : ℕ → Text) (k set : ℕ) (start line after : Text) → (bit_at set k == 1) ≡ true
    → line ≡ start ++ spaced (map f (members_below k set)) → after ≡ line ++ 32 ∷ f k → after ≡ start ++ spaced (map f (members_below (k + 1) set))
member_pushed f k set start line after has so_far more =
    pushed_more start line after (f k) (map f (members_below k set)) so_far more
    ∙ ap (λ (ts : List Text). start ++ spaced ts)
    (sym (ap (map f) (members_more k set ∙ ap (λ (b : Bool). members_below k set ++ cond b (k ∷ []) []) has) ∙ map-append f (members_below k set) (k ∷ [])))

-- what is not a member is passed over
pub member_passed : (f : ℕ → Text) (k set : ℕ) (start line : Text) → (bit_at set k == 1) ≡ false
    → line ≡ start ++ spaced (map f (members_below k set)) → line ≡ start ++ spaced (map f (members_below (k + 1) set))
member_passed f k set start line has so_far =
    so_far ∙ ap (λ (ms : List ℕ). start ++ spaced (map f ms)) (sym (members_more k set ∙ ap (λ (b : Bool). members_below k set ++ cond b (k ∷ []) []) has ∙ append-nil (members_below k set)))

-- ---- whole results and lines

-- two runs of texts, with one text between them
pub parts_pushed : (start first mid after text : Text) (xs ys : List Text) → first ≡ start ++ spaced xs → mid ≡ first ++ 32 ∷ text → after ≡ mid ++ spaced ys → after ≡ start ++ spaced (xs ++ text ∷ ys)
parts_pushed start first mid after text xs ys a b c =
    c ∙ ap (λ (t : Text). t ++ spaced ys) (pushed_more start first mid text xs a b)
    ∙ append_assoc start (spaced (xs ++ text ∷ [])) (spaced ys)
    ∙ ap (λ (t : Text). start ++ t) (sym (spaced-append (xs ++ text ∷ []) ys) ∙ ap spaced (append_assoc xs (text ∷ []) ys))

pub reply_joined : (start code head after : Text) (texts : List Text) → head ≡ start ++ 32 ∷ code → after ≡ head ++ spaced texts → after ≡ start ++ spaced (code ∷ texts)
unfolding spaced
reply_joined start code head after texts a b = rw (b, a) (simp append_assoc)
