-- A refused call leaves all as it was, but for the mentioned codes.
use Rattle.call_laws.proofs.Words.{arith, nat_tests, ◌≡◌, ℕ, zero, suc, ◌+◌, Bool, true, false, not, cond, List, [], ◌∷◌, ◌++◌, filter, refl, sym, ap}
use Rattle.call_laws.proofs.Words.{◌∙◌, slice_get, slice_set, unwrap_or, Some, if◌then◌else◌, list_any, position_or_len, and-false, Native, get_front}
use Rattle.call_laws.proofs.Words.{native_code, native_named, Book, among, joined_by, same_native, Widths, Call, Line, Account, account_after}
use Rattle.call_laws.proofs.Words.{notes_to, performed, replies_to, step, Setting, World, mentions_of, world_after, world_after_line, CodesStay}
use Rattle.call_laws.proofs.Words.{NamesStay, RefusedLineStays, SameAccount, SameNotes, SameReplies, is_refusal, without_refused}

-- ---- one call

-- the reply to a call that is carried out is no refusal
not_refused : (book : Book) (shape : Widths) (a : Account) (c : Call) → is_refusal (performed book shape a c).reply ≡ false
not_refused book shape a c = grind (arith, nat_tests, and-false)

-- a refused call leaves the account, and notes nothing
refused_step : (book : Book) (shape : Widths) (a : Account) (c : Call) → is_refusal (step book shape a c).reply ≡ true
    → ((step book shape a c).account ≡ a) × ((step book shape a c).notes ≡ [])
refused_step book shape a c refuses = grind (arith, nat_tests, not_refused)

-- ---- all calls

pub same_account : SameAccount
same_account book shape a [] = refl
same_account book shape a (c ∷ calls) = go (is_refusal (step book shape a c).reply) refl (same_account book shape (step book shape a c).account calls) where
  go : (b : Bool) → is_refusal (step book shape a c).reply ≡ b
      → account_after book shape (step book shape a c).account (without_refused book shape (step book shape a c).account calls) ≡ account_after book shape (step book shape a c).account calls
      → account_after book shape a ((if b then [] else c ∷ []) ++ without_refused book shape (step book shape a c).account calls) ≡ account_after book shape (step book shape a c).account calls
  go true e later = ap (λ x. account_after book shape x (without_refused book shape (step book shape a c).account calls)) (sym (refused_step book shape a c e).0) ∙ later
  go false e later = later

pub same_replies : SameReplies
same_replies book shape a [] = refl
same_replies book shape a (c ∷ calls) = go (is_refusal (step book shape a c).reply) refl (same_replies book shape (step book shape a c).account calls) where
  go : (b : Bool) → is_refusal (step book shape a c).reply ≡ b
      → replies_to book shape (step book shape a c).account (without_refused book shape (step book shape a c).account calls)
      ≡ filter (λ r. not (is_refusal r)) (replies_to book shape (step book shape a c).account calls)
      → replies_to book shape a ((if b then [] else c ∷ []) ++ without_refused book shape (step book shape a c).account calls)
      ≡ cond (not b) ((step book shape a c).reply ∷ filter (λ r. not (is_refusal r)) (replies_to book shape (step book shape a c).account calls)) (filter (λ r. not (is_refusal r)) (replies_to book shape (step book shape a c).account calls))
  go true e later = ap (λ x. replies_to book shape x (without_refused book shape (step book shape a c).account calls)) (sym (refused_step book shape a c e).0) ∙ later
  go false e later = ap (λ rs. (step book shape a c).reply ∷ rs) later

pub same_notes : SameNotes
same_notes book shape a [] = refl
same_notes book shape a (c ∷ calls) = go (is_refusal (step book shape a c).reply) refl (same_notes book shape (step book shape a c).account calls) where
  go : (b : Bool) → is_refusal (step book shape a c).reply ≡ b
      → notes_to book shape (step book shape a c).account (without_refused book shape (step book shape a c).account calls) ≡ notes_to book shape (step book shape a c).account calls
      → notes_to book shape a ((if b then [] else c ∷ []) ++ without_refused book shape (step book shape a c).account calls)
      ≡ (step book shape a c).notes ++ notes_to book shape (step book shape a c).account calls
  go true e later =
      let stays = refused_step book shape a c e in
      ap (λ x. notes_to book shape x (without_refused book shape (step book shape a c).account calls)) (sym stays.0) ∙ later
      ∙ ap (λ ns. ns ++ notes_to book shape (step book shape a c).account calls) (sym stays.1)
  go false e later = ap (λ ns. (step book shape a c).notes ++ ns) later

-- ---- lines

-- what was there, put again
put_again : {X : Type 0} (xs : List X) (i : ℕ) (d : X) → slice_set xs i (unwrap_or (slice_get xs i) d) ≡ xs
put_again [] i d = refl
put_again (x ∷ xs) zero d = refl
put_again (x ∷ xs) (suc i) d = ap (λ ys. x ∷ ys) (put_again xs i d)

pub refused_line_stays : RefusedLineStays
refused_line_stays at w l = grind (arith, nat_tests, refused_step, put_again)

-- ---- mentions

named_front : (xs ys : List Native) (c : ℕ) (n : Native) → native_named xs c ≡ Some n → native_named (xs ++ ys) c ≡ Some n
named_front xs ys c n = grind (arith, nat_tests, get_front)

-- a list that is kept, or longer by one
joined_keeps : (P : List Native → Type 0) (seen more : List Native) → ((xs : List Native) (m : Native) → P xs → P (xs ++ m ∷ [])) → P seen → P (joined_by seen more)
joined_keeps P seen [] longer h = h
joined_keeps P seen (m ∷ more) longer h = joined_keeps P (if among m seen then seen else seen ++ m ∷ []) more longer (go (among m seen)) where
  go : (b : Bool) → P (if b then seen else seen ++ m ∷ [])
  go true = h
  go false = longer seen m h

lines_keep : (P : List Native → Type 0) (at : Setting) (w : World) (ls : List Line) → ((xs : List Native) (m : Native) → P xs → P (xs ++ m ∷ [])) → P w.mentioned → P (world_after at w ls).mentioned
lines_keep P at w [] longer h = h
lines_keep P at w (l ∷ ls) longer h = lines_keep P at (world_after_line at w l) ls longer (joined_keeps P w.mentioned (mentions_of l.asked) longer h)

pub names_stay : NamesStay
names_stay at w ls c n h = lines_keep (λ ns. native_named ns c ≡ Some n) at w ls (λ xs m e. named_front xs (m ∷ []) c n e) h

-- the first place that passes, if one does, is the same in a longer list
place_front : {X : Type 0} (p : X → Bool) (xs ys : List X) → list_any p xs ≡ true → (position_or_len p (xs ++ ys) ≡ position_or_len p xs) × (list_any p (xs ++ ys) ≡ true)
place_front p [] ys e = cc
place_front p (x ∷ xs) ys e = grind (arith, nat_tests, place_front p xs ys)

pub codes_stay : CodesStay
codes_stay at w ls n h =
    (lines_keep (λ ns. (native_code ns n ≡ native_code w.mentioned n) × (among n ns ≡ true)) at w ls (λ xs m e.
    let f = place_front (same_native n) xs (m ∷ []) e.1 in
    (ap (λ k. 0x40000000 + k) f.0 ∙ e.0, f.1)) (refl, h)).0
