-- Told or not, notes are appended to what a handler was told, and none is taken back.
use Rattle.std.proofs.Common.{ℕ, List, [], ◌++◌, Result, Ok, Err, ap, sym, ◌∙◌, append_assoc, append-nil, take}
use Rattle.thread_session.proofs.Words.{IfOk, OnErr, Grown, Note, Book, Call, Reply, step, notes_at, notes_over, SessionView, IsReady, FollowsAs}
use Rattle.thread_session.proofs.Words.{IsCut, expecting}

pub grown_same : (notes : List Note) → Grown notes notes
grown_same notes = ([], sym (append-nil notes))

pub grown_more : (before mid after : List Note) → Grown before mid → Grown mid after → Grown before after
grown_more before mid after (first, e) (more, f) = (first ++ more, f ∙ ap (λ (xs : List Note). xs ++ more) e ∙ append_assoc before first more)

-- the session is ready, so that there is an account which says what the notes are
pub grown_by : {T E : Type 0} (r : Result T E) (answer : T → Reply) (book : Book) (old new : SessionView) (made : Call) (n : ℕ) (before after : List Note) → IsReady book old
    → IfOk r (λ x. FollowsAs book old new made (answer x) before after) → OnErr r (IsCut book old new n before after) → Grown before after
grown_by (Ok x) answer book old new made n before after ready follows cut =
    let a = ready.agrees.account in
    ((step book old.core.shape (expecting follows.expected a) made).notes, follows.notes a ready.agrees.stands)
grown_by (Err e) answer book old new made n before after ready follows cut =
    let a = ready.agrees.account in
    let part = cut.notes a ready.agrees.stands in
    let earlier : List Note = notes_over book a.thread a.sets a.past cut.earlier in
    let last : List Note = take part.0 (notes_at book a.thread (a.past ++ cut.earlier) cut.last 0 a.sets) in
    (earlier ++ last, part.2 ∙ append_assoc before earlier last)
