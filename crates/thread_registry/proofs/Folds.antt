-- What a list of calls does, cut in two.
use Rattle.thread_registry.proofs.Words.{◌≡◌, ℕ, ◌+◌, ◌<◌, ◌≤◌, List, [], ◌∷◌, ◌++◌, length, take, drop, get_or, refl, ap, sym, ◌∙◌, append_assoc}
use Rattle.thread_registry.proofs.Words.{arith, take-append-add, replies-append, notes-append, account-append, Book, Call, Widths, Account, step}
use Rattle.thread_registry.proofs.Words.{account_after, replies_to, notes_to}
use Rattle.std.proofs.lemmas.List.{take_more, take-append-drop, take_at, append-nil, take-append-le, length-take-le}

pub replies-length : (b : Book) (w : Widths) (a : Account) (xs : List Call) → length (replies_to b w a xs) ≡ length xs
replies-length b w a [] = refl
replies-length b w a (x ∷ xs) = let h = replies-length b w (step b w a x).account xs in omega (arith, h)

-- one call more
call_more : (xs : List Call) (k : ℕ) (c : Call) → k < length xs → get_or xs k c ≡ c → take (k + 1) xs ≡ take k xs ++ c ∷ []
call_more xs k c h e = take_more xs k c h ∙ ap (λ z. take k xs ++ z ∷ []) e

pub after-more : (b : Book) (w : Widths) (a : Account) (xs : List Call) (k : ℕ) (c : Call) → k < length xs → get_or xs k c ≡ c
    → account_after b w a (take (k + 1) xs) ≡ (step b w (account_after b w a (take k xs)) c).account
after-more b w a xs k c h e = ap (account_after b w a) (call_more xs k c h e) ∙ account-append b w a (take k xs) (c ∷ [])

pub replies-more : (b : Book) (w : Widths) (a : Account) (xs : List Call) (k : ℕ) (c : Call) → k < length xs → get_or xs k c ≡ c
    → replies_to b w a (take (k + 1) xs) ≡ replies_to b w a (take k xs) ++ (step b w (account_after b w a (take k xs)) c).reply ∷ []
replies-more b w a xs k c h e = ap (replies_to b w a) (call_more xs k c h e) ∙ replies-append b w a (take k xs) (c ∷ [])

pub notes-more : (b : Book) (w : Widths) (a : Account) (xs : List Call) (k : ℕ) (c : Call) → k < length xs → get_or xs k c ≡ c
    → notes_to b w a (take (k + 1) xs) ≡ notes_to b w a (take k xs) ++ (step b w (account_after b w a (take k xs)) c).notes
notes-more b w a xs k c h e =
    ap (notes_to b w a) (call_more xs k c h e)
    ∙ (notes-append b w a (take k xs) (c ∷ [])
    ∙ ap (λ ns. notes_to b w a (take k xs) ++ ns) (append-nil (step b w (account_after b w a (take k xs)) c).notes))

-- the replies and the notes of the first calls are the first ones of all
pub replies-front : (b : Book) (w : Widths) (a : Account) (xs : List Call) (k : ℕ) → k ≤ length xs → replies_to b w a (take k xs) ≡ take k (replies_to b w a xs)
replies-front b w a xs k h =
    sym (ap (λ cs. take k (replies_to b w a cs)) (sym (take-append-drop k xs))
    ∙ (ap (λ rs. take k rs) (replies-append b w a (take k xs) (drop k xs))
    ∙ take_at (replies_to b w a (take k xs)) _ k (replies-length b w a (take k xs) ∙ length-take-le k xs h)))

pub notes-front : (b : Book) (w : Widths) (a : Account) (xs : List Call) (k : ℕ)
    → notes_to b w a xs ≡ notes_to b w a (take k xs) ++ notes_to b w (account_after b w a (take k xs)) (drop k xs)
notes-front b w a xs k = ap (notes_to b w a) (sym (take-append-drop k xs)) ∙ notes-append b w a (take k xs) (drop k xs)

-- the notes of k calls, and the first n of the next call's, are the first ones of all
pub notes-part : (b : Book) (w : Widths) (a : Account) (xs : List Call) (k n : ℕ) (c : Call) → k < length xs → get_or xs k c ≡ c
    → n ≤ length (step b w (account_after b w a (take k xs)) c).notes
    → notes_to b w a (take k xs) ++ take n (step b w (account_after b w a (take k xs)) c).notes ≡ take (length (notes_to b w a (take k xs)) + n) (notes_to b w a xs)
notes-part b w a xs k n c h e l =
    let v = account_after b w a (take k xs) in
    let ps = notes_to b w a (take k xs) in
    let rest = notes_to b w (account_after b w a (take (k + 1) xs)) (drop (k + 1) xs) in
    let whole : notes_to b w a xs ≡ ps ++ ((step b w v c).notes ++ rest) =
    notes-front b w a xs (k + 1) ∙ (ap (λ z. z ++ rest) (notes-more b w a xs k c h e) ∙ append_assoc ps (step b w v c).notes rest) in
    sym (ap (λ z. take (length ps + n) z) whole
    ∙ (take-append-add ps ((step b w v c).notes ++ rest) n
    ∙ ap (λ z. ps ++ z) (take-append-le n (step b w v c).notes rest l)))
