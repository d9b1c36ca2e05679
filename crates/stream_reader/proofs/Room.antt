-- The bytes of a reader: the place of a line, and a piece after it.
use Rattle.stream_reader.proofs.Words.{◌≡◌, ◌∙◌, ◌+◌, ◌-◌, ◌≤◌, ◌++◌, ℕ, Bool, Option, List, [], length, take, drop, sym, ap, arith, length-drop}
use Rattle.stream_reader.proofs.Words.{length-append, take-add, append-nil, drop-drop, drop-take, drop_all, drop_at, length-take-le, mid_of, put_mid}
use Rattle.stream_reader.proofs.Words.{LineStart, ReaderView, SourceView, IsReader}

-- what was written from a on to the end
pub drop-put_end : (a k : ℕ) (xs ys : List ℕ) → length xs ≡ a + k → drop a (put_mid a k xs ys) ≡ ys
drop-put_end a k xs ys all =
    let none : drop k (drop a xs) ≡ [] = drop_all k (drop a xs) (omega (arith, length-drop a xs)) in
    let front : length (take a xs) ≡ a = length-take-le a xs (omega arith) in
    ap (λ zs. drop a (take a xs ++ (ys ++ zs))) none ∙ ap (λ zs. drop a (take a xs ++ zs)) (append-nil ys) ∙ drop_at (take a xs) ys a front

-- the part of a list that ends at m lies in its first m
pub part-front : (k m : ℕ) (xs : List ℕ) → k ≤ m → take k (drop (m - k) xs) ≡ drop (m - k) (take m xs)
part-front k m xs le = let sum : (m - k) + k ≡ m = omega arith in sym (ap (λ n. drop (m - k) (take n xs)) (sym sum) ∙ drop-take (m - k) k xs)

-- after the rest of a line was moved before the piece, and the piece was filled
pub held-filled : (from to n : ℕ) (old filled : List ℕ) → from ≤ to → to - from ≤ 128 → to ≤ length old → 128 ≤ length old → take 128 filled ≡ take (128 - (to - from)) old ++ take (to - from) (drop from old)
    → take ((128 + n) - (128 - (to - from))) (drop (128 - (to - from)) filled) ≡ take (to - from) (drop from old) ++ take n (drop 128 filled)
held-filled from to n old filled order short within long moves =
    let k = to - from in
    let size : (128 + n) - (128 - k) ≡ k + n = omega arith in
    let back : (128 - k) + k ≡ 128 = omega arith in
    let over : drop k (drop (128 - k) filled) ≡ drop 128 filled = drop-drop k (128 - k) filled ∙ ap (λ j. drop j filled) back in
    let lead : length (take (128 - k) old) ≡ 128 - k = length-take-le (128 - k) old (omega arith) in
    let rest : take k (drop (128 - k) filled) ≡ take k (drop from old) =
    part-front k 128 filled short ∙ ap (drop (128 - k)) moves ∙ drop_at (take (128 - k) old) (take k (drop from old)) (128 - k) lead in
    ap (λ j. take j (drop (128 - k) filled)) size ∙ take-add k n (drop (128 - k) filled) ∙ ap (λ zs. zs ++ take n (drop k (drop (128 - k) filled))) rest ∙ ap (λ zs. take k (drop from old) ++ take n zs) over

-- some bytes of those held are gone
pub held-drop : (from to n : ℕ) (bytes : List ℕ) → n ≤ to - from → take (to - (from + n)) (drop (from + n) bytes) ≡ drop n (take (to - from) (drop from bytes))
held-drop from to n bytes le =
    let size : n + (to - (from + n)) ≡ to - from = omega arith in
    sym (ap (λ j. drop n (take j (drop from bytes))) (sym size) ∙ drop-take n (to - (from + n)) (drop from bytes) ∙ ap (take (to - (from + n))) (drop-drop n from bytes))

pub length-held : (from to : ℕ) (bytes : List ℕ) → from ≤ to → to ≤ length bytes → length (take (to - from) (drop from bytes)) ≡ to - from
length-held from to bytes order within = length-take-le (to - from) (drop from bytes) (omega (arith, length-drop from bytes))

-- how many bytes a reader holds
pub size_held : {from to : ℕ} {bytes : List ℕ} {start : LineStart} {over asked : Bool} {source : Option SourceView} {v : ReaderView}
    → IsReader from to bytes start → record { start = start; held = take (to - from) (drop from bytes); over = over; asked = asked; source = source } ≡ v → length v.held ≡ to - from
size_held {from = from} {to = to} {bytes = bytes} r is = ap (λ (v : ReaderView). length v.held) (sym is) ∙ length-held from to bytes r.in_order (omega (arith, r.within, r.room))

-- a part that was written keeps the length of the whole
pub length-put_end : (a k : ℕ) (xs ys : List ℕ) → length xs ≡ a + k → length ys ≡ k → length (put_mid a k xs ys) ≡ a + k
length-put_end a k xs ys all part =
    let none : drop k (drop a xs) ≡ [] = drop_all k (drop a xs) (omega (arith, length-drop a xs)) in
    let front : length (take a xs) ≡ a = length-take-le a xs (omega arith) in
    ap (λ zs. length (take a xs ++ (ys ++ zs))) none ∙ length-append (take a xs) (ys ++ []) ∙ omega (arith, front, part, length-append ys [])

pub part-long : (a k : ℕ) (xs : List ℕ) → length xs ≡ a + k → length (mid_of a k xs) ≡ k
part-long a k xs all = length-take-le k (drop a xs) (omega (arith, length-drop a xs))
