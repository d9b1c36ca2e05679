-- A run in which memory was refused.
use Rattle.thread_session.proofs.Words.{◌≡◌, ℕ, suc, ◌+◌, ◌-◌, ◌<◌, List, [], ◌∷◌, ◌++◌, length, map, take, min, refl, ap, ap₂, sym, subst, ◌∙◌}
use Rattle.thread_session.proofs.Words.{arith, append_assoc, length-append, take-append-add, take-append-le, Occ, Coming, PartAdded, Note, Book, Run}
use Rattle.thread_session.proofs.Words.{Account, step, note, notes_at, notes_over, NextGives, ReaderView, Takes, coming, CoreView, CoreStands}
use Rattle.thread_session.proofs.Words.{consumed, SessionView, Stands, IsCut, IsCutTo, consuming, expecting, CanCome, gave_more}
use Rattle.stream_reader.specs.declared.next.Next.TheVariants as next
use Rattle.thread_session.proofs.Endings.{core_at}
use Rattle.thread_session.proofs.Possible.{before_answer}
use Rattle.thread_session.proofs.Runs.{Running, notes_over-append}

pub cut_at : {book : Book} {old : SessionView} {core core_then : CoreView} {reader reader_then : ReaderView} {before after after_then : List Note} {k count n thread : ℕ} {o : Occ} (set : ℕ) (passed : List ℕ)
    → k < n
    → thread ≡ old.core.thread
    → ((b : Book) (a : Account) → CoreStands b core a → CoreStands b core_then (consumed a o))
    → ((b : Book) (a : Account) → CoreStands b core a → notes_at b a.thread a.past o 0 a.sets ≡ map (note a.thread set o) passed)
    → NextGives (coming reader) (next.Occ o) (coming reader_then)
    → Takes reader (next.Occ o) reader_then
    → PartAdded after (map (note thread set o) passed) after_then
    → Running book old core reader before after k count → IsCut book old (record { core = core_then; reader = reader_then }) n before after_then
cut_at {book} {old} {core} {core_then} {reader} {reader_then} {before} {after} {after_then} {k} {count} {n} {thread} {o} set passed less same stands notes gives takes part r =
    let its : (a : Account) → CoreStands book old.core a → map (note thread set o) passed ≡ notes_at book a.thread (a.past ++ r.os) o 0 a.sets =
    λ a h. ap (λ (t : ℕ). map (note t set o) passed) (same ∙ h.thread) ∙ sym (notes book (consuming r.os a) (r.taking.stands a h)) in
    record {
      earlier = r.os;
      last = o;
      below = omega (arith, r.number, less);
      core = λ a h. subst (λ (past : List Occ). CoreStands book core_then (record a { past = past })) (append_assoc a.past r.os (o ∷ [])) (stands book (consuming r.os a) (r.taking.stands a h));
      notes = λ a h. (
        part.0,
        subst (λ (xs : List Note). part.0 < length xs) (its a h) part.1,
        part.2 ∙ ap₂ (λ (xs ys : List Note). xs ++ take part.0 ys) (r.taking.notes a h) (its a h),
      );
      told = λ a h.
          let g = gave_more (record { rest = a.rest; mark = a.mark }) r.os (coming reader) (coming reader_then) o (r.taking.told (record { rest = a.rest; mark = a.mark }) h.told) gives in
          (g.later, g.rest ∙ append_assoc r.os (o ∷ []) g.later, g.left);
      came = λ later h. r.came (record { rest = o ∷ later.rest; mark = later.mark }) (before_answer reader reader_then (next.Occ o) later takes h);
    }

-- a proper prefix of the middle, after the first part, is one of the whole
part_of : (before first middle last after : List Note) → PartAdded (before ++ first) middle after → PartAdded before (first ++ (middle ++ last)) after
part_of before first middle last after (m, less, e) = (
  length first + m,
  omega (arith, less, length-append first (middle ++ last), length-append middle last),
  e ∙ append_assoc before first (take m middle)
      ∙ ap (λ (xs : List Note). before ++ xs) (ap (λ (xs : List Note). first ++ xs) (sym (take-append-le m middle last (omega (arith, less)))) ∙ sym (take-append-add first (middle ++ last) m)),
)

-- the first of these, one more, and some of those after it
take_past : (earlier later : List Occ) (o : Occ) (k : ℕ) → length earlier < k → take k (earlier ++ o ∷ later) ≡ earlier ++ (o ∷ [] ++ take (k - (length earlier + 1)) later)
take_past earlier later o k less =
    let j : ℕ = k - (length earlier + 1) in
    let is : k ≡ length earlier + suc j = omega (arith, less) in
    ap (λ (x : ℕ). take x (earlier ++ o ∷ later)) is ∙ take-append-add earlier (o ∷ later) (suc j)

-- the notes of the step, if these were to come and then others
pub cut_notes : (book : Book) (old new : SessionView) (n : ℕ) (before after : List Note) (a : Account) (later : List Occ) (cut : IsCut book old new n before after) → a.rest ≡ cut.earlier ++ cut.last ∷ later → CoreStands book old.core a
    → PartAdded before (step book old.core.shape a (Run n)).notes after
cut_notes book old new n before after a later cut e h =
    let k : ℕ = min n (length a.rest) in
    let long : length a.rest ≡ length cut.earlier + suc (length later) = ap length e ∙ length-append cut.earlier (cut.last ∷ later) in
    let less : length cut.earlier < k = omega (arith, cut.below, long) in
    let j : ℕ = k - (length cut.earlier + 1) in
    let taken : take k a.rest ≡ cut.earlier ++ (cut.last ∷ [] ++ take j later) = ap (λ (xs : List Occ). take k xs) e ∙ take_past cut.earlier later cut.last k less in
    let is : (step book old.core.shape a (Run n)).notes ≡ notes_over book a.thread a.sets a.past cut.earlier ++ (notes_at book a.thread (a.past ++ cut.earlier) cut.last 0 a.sets ++ notes_over book a.thread a.sets ((a.past ++ cut.earlier) ++ cut.last ∷ []) (take j later)) =
    ap (λ (xs : List Occ). notes_over book a.thread a.sets a.past xs) taken ∙ notes_over-append book a.thread a.sets a.past cut.earlier (cut.last ∷ [] ++ take j later) in
    subst (λ (xs : List Note). PartAdded before xs after) (sym is) (part_of before (notes_over book a.thread a.sets a.past cut.earlier) (notes_at book a.thread (a.past ++ cut.earlier) cut.last 0 a.sets)
    (notes_over book a.thread a.sets ((a.past ++ cut.earlier) ++ cut.last ∷ []) (take j later)) after (cut.notes a h))

pub cut_part : (book : Book) (old new : SessionView) (n : ℕ) (before after : List Note) (a : Account) → IsCut book old new n before after → Stands book old a → PartAdded before (step book old.core.shape a (Run n)).notes after
cut_part book old new n before after a cut h =
    let t = cut.told a h in
    cut_notes book old new n before after a t.0 cut t.1 h.kept

pub cut_to : (book : Book) (old new : SessionView) (n : ℕ) (before after : List Note) → IsCut book old new n before after → (left : Coming) → CanCome new.reader left → IsCutTo book old (Run n) before after left
cut_to book old new n before after cut left h = record {
  expected = record { rest = cut.earlier ++ cut.last ∷ left.rest; mark = left.mark };
  can_come = cut.came left h;
  notes = λ a s. cut_notes book old new n before after (expecting (record { rest = cut.earlier ++ cut.last ∷ left.rest; mark = left.mark }) a) left.rest cut refl (core_at book old.core a (cut.earlier ++ cut.last ∷ left.rest) left.mark s);
}
