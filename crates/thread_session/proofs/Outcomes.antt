-- The step of a run, by the occurrences that it takes.
use Rattle.thread_session.proofs.Words.{◌≡◌, ℕ, ◌<◌, ◌≤◌, List, [], ◌++◌, length, take, drop, min, ap, ap₂, sym, ◌∙◌, arith, length-append, Bool}
use Rattle.thread_session.proofs.Words.{nat_lt, min-eq_left, min-eq_right, take-append_seam, drop-append_seam, take-length, drop-length, le-ltb}
use Rattle.thread_session.proofs.Words.{lt-ltb, Occ, Mark, Dry, Book, Widths, Run, Ended, Account, StepOutcome, ended_at, ran, ran_reply, step}
use Rattle.thread_session.proofs.Words.{notes_over, expecting}
use Rattle.session_model.specs.declared.reply.Ended.TheVariants as ended

-- a run that took these, and leaves that to come
abbrev pub ran_to : Book → Account → List Occ → List Occ → Mark → Ended → StepOutcome
ran_to book a os later m e = record {
  account = record a { past = a.past ++ os; rest = later; mark = m };
  reply = ran_reply (length os) (notes_over book a.thread a.sets a.past os) e;
  notes = notes_over book a.thread a.sets a.past os;
}

pub whole : (book : Book) (shape : Widths) (a : Account) (n : ℕ) (os later : List Occ) (m : Mark) → length os ≡ n
    → step book shape (expecting (record { rest = os ++ later; mark = m }) a) (Run n) ≡ ran_to book a os later m ended.Going
whole book shape a n os later m number =
    let enough : length os ≤ length (os ++ later) = omega (arith, length-append os later) in
    let here : Account = expecting (record { rest = os ++ later; mark = m }) a in
    ap (λ (k : ℕ). ran book (nat_lt (length (os ++ later)) k) (min k (length (os ++ later))) here) (sym number)
    ∙ ap₂ (λ (short : Bool) (k : ℕ). ran book short k here) (le-ltb (length (os ++ later)) (length os) enough) (min-eq_left enough)
    ∙ parts (take (length os) (os ++ later)) (drop (length os) (os ++ later)) (take-append_seam os later) (drop-append_seam os later) where
      parts : (taken left : List Occ) → taken ≡ os → left ≡ later → record {
        account = record a { past = a.past ++ taken; rest = left; mark = m };
        reply = ran_reply (length os) (notes_over book a.thread a.sets a.past taken) ended.Going;
        notes = notes_over book a.thread a.sets a.past taken;
      } ≡ ran_to book a os later m ended.Going
      parts taken left t l = ap₂ (λ (x y : List Occ). record {
        account = record a { past = a.past ++ x; rest = y; mark = m };
        reply = ran_reply (length os) (notes_over book a.thread a.sets a.past x) ended.Going;
        notes = notes_over book a.thread a.sets a.past x;
      }) t l

pub short : (book : Book) (shape : Widths) (a : Account) (n : ℕ) (os : List Occ) (m : Mark) → length os < n
    → step book shape (expecting (record { rest = os; mark = m }) a) (Run n) ≡ ran_to book a os [] Dry (ended_at m)
short book shape a n os m less =
    let here : Account = expecting (record { rest = os; mark = m }) a in
    ap₂ (λ (b : Bool) (k : ℕ). ran book b k here) (lt-ltb (length os) n less) (min-eq_right (omega (arith, less)))
    ∙ parts (take (length os) os) (drop (length os) os) (take-length os) (drop-length os) where
      parts : (taken left : List Occ) → taken ≡ os → left ≡ [] → record {
        account = record a { past = a.past ++ taken; rest = left; mark = Dry };
        reply = ran_reply (length os) (notes_over book a.thread a.sets a.past taken) (ended_at m);
        notes = notes_over book a.thread a.sets a.past taken;
      } ≡ ran_to book a os [] Dry (ended_at m)
      parts taken left t l = ap₂ (λ (x y : List Occ). record {
        account = record a { past = a.past ++ x; rest = y; mark = Dry };
        reply = ran_reply (length os) (notes_over book a.thread a.sets a.past x) (ended_at m);
        notes = notes_over book a.thread a.sets a.past x;
      }) t l
