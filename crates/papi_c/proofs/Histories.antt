-- A history is one thread's, deed by deed.
use Rattle.std.proofs.Common.{◌≡◌, ◌∙◌, ℕ, false, List, [], ◌∷◌, ◌++◌, Option, Some, None, length, ap, ap₂, refl, sym, subst, append-nil}
use Rattle.papi_base.specs.Streams.{Mark, Dry}
use Rattle.papi_base.specs.declared.occurrence.Occ.{Occ}
use Rattle.overflow_dispatch.specs.declared.handler.Note.{Note}
use Rattle.postfix_rules.specs.Presets.{Book}
use Rattle.call_type.specs.declared.call.Call.TheVariants as call
use Rattle.component_table.specs.Catalogs.{CatalogView}
use Rattle.event_sets.specs.AtRest.{Widths}
use Rattle.event_sets.specs.declared.refusal.Refusal.{Refusal}
use Rattle.session_model.specs.Account.{Account, opening, time_after}
use Rattle.session_model.specs.CallTypes.{Call}
use Rattle.session_model.specs.Step.{StepOutcome, account_refusal, notes_to, performed, ran_reply, replies_to, step, unless}
use Rattle.session_model.specs.Thresholds.{notes_over}
use Rattle.session_model.specs.declared.reply.Ended.TheVariants as ended
use Rattle.session_model.specs.declared.reply.Reply.{Reply}
use Rattle.thread_core.specs.Stands.{CoreStands}
use Rattle.thread_session.proofs.Endings.{core_at}
use Rattle.thread_session.proofs.Outcomes.{ran_to, whole}
use Rattle.thread_session.specs.Follows.{expecting, is_run}
use Rattle.thread_session.specs.Happening.{Happens, occurrences, run_over}
use Rattle.thread_session.specs.declared.happening.Happening.{Happening}
use Rattle.papi_calls.specs.Calls.{Made}
use Rattle.papi_calls.specs.Libraries.{IsOpened, LibraryView}
use Rattle.papi_c.specs.Histories.{Deed, Did, DidAll, Hands, IsOneThread, Makes, Moment, as_call, calls_of, handed, of_deed}

-- what a step leaves to come, and its notes
record Leaves (outcome : StepOutcome) (os : List Occ) (m : Mark) : Type 0 where
  pub rest : outcome.account.rest ≡ os
  pub mark : outcome.account.mark ≡ m
  pub notes : outcome.notes ≡ []

performed_leaves : (book : Book) (shape : Widths) (a : Account) (made : Call) → is_run made ≡ false → Leaves (performed book shape a made) a.rest a.mark
performed_leaves book shape a (call.Run n) e = absurd cc
performed_leaves book shape a made e = record { rest = refl; mark = refl; notes = refl }

call_leaves : (book : Book) (shape : Widths) (a : Account) (made : Call) → is_run made ≡ false → Leaves (step book shape a made) a.rest a.mark
call_leaves book shape a made e = go (account_refusal book shape a made) where
  go : (r : Option Refusal) → Leaves (unless r a (performed book shape a made)) a.rest a.mark
  go None = performed_leaves book shape a made e
  go (Some r) = record { rest = refl; mark = refl; notes = refl }

-- a deed did what the step of its call does, and leaves this of the stream
record IsStep (book : Book) (shape : Widths) (l : LibraryView) (a : Account) (m : Moment) (left : List Occ) : Type 0 where
  pub stands : CoreStands book m.later.session.core (step book shape a (as_call l m.deed)).account
  pub reply : m.reply ≡ (step book shape a (as_call l m.deed)).reply
  pub notes : m.notes ≡ (step book shape a (as_call l m.deed)).notes
  pub rest : (step book shape a (as_call l m.deed)).account.rest ≡ left
  pub mark : (step book shape a (as_call l m.deed)).account.mark ≡ Dry
  pub book_stays : m.later.catalog.book ≡ book
  pub shape_stays : m.later.session.core.shape ≡ shape

call_step : (l new : LibraryView) (a : Account) (made : Call) (reply : Reply) (notes : List Note) (left : List Occ) → CoreStands l.catalog.book l.session.core a → a.rest ≡ left → a.mark ≡ Dry
    → is_run made ≡ false → Made l new made reply → notes ≡ []
    → IsStep l.catalog.book l.session.core.shape l a (record { deed = Makes made; reply = reply; notes = notes; later = new }) left
call_step l new a made reply notes left h rest mark still m none =
    let leaves = call_leaves l.catalog.book l.session.core.shape a made still in
    record {
      stands = m.does.kept.account a h;
      reply = m.does.kept.reply a h;
      notes = none ∙ sym leaves.notes;
      rest = leaves.rest ∙ rest;
      mark = leaves.mark ∙ mark;
      book_stays = ap (λ (c : CatalogView). c.book) m.catalog;
      shape_stays = m.does.kept.shape;
    }

-- an account by what is to come of it
expects : (a : Account) (rest : List Occ) → a.rest ≡ rest → a.mark ≡ Dry → a ≡ expecting (record { rest = rest; mark = Dry }) a
expects a rest r m = ap₂ (λ (x : List Occ) (y : Mark). record a { rest = x; mark = y }) r m

hand_step : (l new : LibraryView) (a : Account) (what : Happening) (amount : ℕ) (reply : Reply) (notes : List Note) (left : List Occ) → CoreStands l.catalog.book l.session.core a
    → a.rest ≡ occurrences what amount (time_after l.session.core.last) ++ left → a.mark ≡ Dry
    → Happens l.catalog.book l.session new.session what amount notes → new.catalog ≡ l.catalog
    → reply ≡ ran_reply (length (occurrences what amount (time_after l.session.core.last))) notes ended.Going
    → IsStep l.catalog.book l.session.core.shape l a (record { deed = Hands what amount; reply = reply; notes = notes; later = new }) left
hand_step l new a what amount reply notes left h rest mark happens catalog told = record {
  stands = subst (λ (x : StepOutcome). CoreStands book new.session.core x.account) (sym is) (core_at book new.session.core (ran_to book a os [] Dry ended.Going).account left Dry stood);
  reply = told ∙ ap (λ (ns : List Note). ran_reply (length os) ns ended.Going) noted ∙ ap (λ (x : StepOutcome). x.reply) (sym is);
  notes = noted ∙ ap (λ (x : StepOutcome). x.notes) (sym is);
  rest = ap (λ (x : StepOutcome). x.account.rest) is;
  mark = ap (λ (x : StepOutcome). x.account.mark) is;
  book_stays = ap (λ (c : CatalogView). c.book) catalog;
  shape_stays = happens.shape;
} where
  os : List Occ
  os = occurrences what amount (time_after l.session.core.last)

  book : Book
  book = l.catalog.book

  shape : Widths
  shape = l.session.core.shape

  is : step book shape a (call.Run (length os)) ≡ ran_to book a os left Dry ended.Going
  is = ap (λ (x : Account). step book shape x (call.Run (length os))) (expects a (os ++ left) rest mark) ∙ whole book shape a (length os) os left Dry refl

  over : run_over book l.session os a ≡ ran_to book a os [] Dry ended.Going
  over = ap (λ (r : List Occ). step book shape (expecting (record { rest = r; mark = Dry }) a) (call.Run (length os))) (sym (append-nil os)) ∙ whole book shape a (length os) os [] Dry refl

  stood : CoreStands book new.session.core (ran_to book a os [] Dry ended.Going).account
  stood = subst (λ (x : StepOutcome). CoreStands book new.session.core x.account) over (happens.core a h)

  noted : notes ≡ notes_over book a.thread a.sets a.past os
  noted = happens.notes a h ∙ ap (λ (x : StepOutcome). x.notes) over

deed_step : (l new : LibraryView) (a : Account) (deed : Deed) (reply : Reply) (notes : List Note) (left : List Occ) → CoreStands l.catalog.book l.session.core a → a.rest ≡ of_deed l deed ++ left → a.mark ≡ Dry → Did l deed new reply notes
    → IsStep l.catalog.book l.session.core.shape l a (record { deed = deed; reply = reply; notes = notes; later = new }) left
deed_step l new a (Makes made) reply notes left h rest mark (still, m, none) = call_step l new a made reply notes left h rest mark still m none
deed_step l new a (Hands what amount) reply notes left h rest mark (happens, catalog, told) = hand_step l new a what amount reply notes left h rest mark happens catalog told

one_thread : (ms : List Moment) (l : LibraryView) (a : Account) → CoreStands l.catalog.book l.session.core a → a.rest ≡ handed l ms → a.mark ≡ Dry → DidAll l ms → IsOneThread l a ms
one_thread [] l a h rest mark did = record { replies = refl; notes = refl }
one_thread (m ∷ ms) l a h rest mark (did, others) =
    let s = deed_step l m.later a m.deed m.reply m.notes (handed m.later ms) h rest mark did in
    let then : Account = (step l.catalog.book l.session.core.shape a (as_call l m.deed)).account in
    let stands : CoreStands m.later.catalog.book m.later.session.core then = subst (λ (b : Book). CoreStands b m.later.session.core then) (sym s.book_stays) s.stands in
    let later = one_thread ms m.later then stands s.rest s.mark others in
    let replies : replies_to m.later.catalog.book m.later.session.core.shape then (calls_of m.later ms) ≡ replies_to l.catalog.book l.session.core.shape then (calls_of m.later ms) =
    ap₂ (λ (b : Book) (w : Widths). replies_to b w then (calls_of m.later ms)) s.book_stays s.shape_stays in
    let notes : notes_to m.later.catalog.book m.later.session.core.shape then (calls_of m.later ms) ≡ notes_to l.catalog.book l.session.core.shape then (calls_of m.later ms) =
    ap₂ (λ (b : Book) (w : Widths). notes_to b w then (calls_of m.later ms)) s.book_stays s.shape_stays in
    record {
      replies = ap₂ (λ (r : Reply) (rs : List Reply). r ∷ rs) s.reply (later.replies ∙ replies);
      notes = ap₂ (λ (ns more : List Note). ns ++ more) s.notes (later.notes ∙ notes);
    }

pub each_history : (given : CatalogView) (thread : ℕ) (l : LibraryView) (ms : List Moment) → IsOpened given thread [] l → DidAll l ms → IsOneThread l (opening thread (handed l ms) Dry) ms
each_history given thread l ms opened did =
    one_thread ms l (opening thread (handed l ms) Dry) (core_at l.catalog.book l.session.core _ (handed l ms) Dry opened.stands.kept) refl refl did
