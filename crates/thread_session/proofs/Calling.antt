-- A call that is not a run leaves the stream alone, and notes nothing.
use Rattle.thread_session.proofs.Words.{◌≡◌, ℕ, false, List, [], ◌++◌, refl, ap, sym, subst, ◌∙◌, ap₂, append-nil, Option, Some, None, option_map_or}
use Rattle.thread_session.proofs.Words.{Occ, Coming, Mark, PartAdded, Note, Book, Widths, Refusal, Plain, Conflict, Call, Body, Reply, Account}
use Rattle.thread_session.proofs.Words.{refused, account_refusal, performed, step, unless, ReaderView, coming, nothing, CoreView, Follows, AgreesWith}
use Rattle.thread_session.proofs.Words.{IsFaultBody, IsFaultReply, Does, FollowsAs, FollowsTo, expecting, is_run, CanCome, SessionView}
use Rattle.call_type.specs.declared.call.Call.TheVariants as call
use Rattle.session_model.specs.declared.reply.Body.TheVariants as body
use Rattle.thread_session.proofs.Endings.{core_at, follows_reply, follows_stands}

-- what a call leaves of the stream, its notes, and that the source did not fail
record IsQuiet (a : Account) (after : Account) (reply : Reply) (notes : List Note) : Type 0 where
  pub rest : after.rest ≡ a.rest
  pub mark : after.mark ≡ a.mark
  pub none : notes ≡ []
  pub sound : IsFaultReply reply → ⊥

shown_sound : {X : Type 0} (f : X → Body) (place : Option X) → ((x : X) → IsFaultBody (f x) → ⊥) → IsFaultBody (option_map_or f place body.Nothing) → ⊥
shown_sound f None sound x = x
shown_sound f (Some s) sound x = sound s x

performed_quiet : (book : Book) (shape : Widths) (a : Account) (made : Call) → is_run made ≡ false → IsQuiet a (performed book shape a made).account (performed book shape a made).reply (performed book shape a made).notes
performed_quiet book shape a (call.Run n) e = absurd cc
performed_quiet book shape a made e = record { rest = refl; mark = refl; none = refl; sound = search (shown_sound) }

refused_sound : (r : Refusal) → IsFaultReply (refused r) → ⊥
refused_sound (Plain c) x = x
refused_sound (Conflict clash) x = x

step_quiet : (book : Book) (shape : Widths) (a : Account) (made : Call) → is_run made ≡ false → IsQuiet a (step book shape a made).account (step book shape a made).reply (step book shape a made).notes
step_quiet book shape a made e = go (account_refusal book shape a made) where
  go : (r : Option Refusal) → IsQuiet a (unless r a (performed book shape a made)).account (unless r a (performed book shape a made)).reply (unless r a (performed book shape a made)).notes
  go None = performed_quiet book shape a made e
  go (Some r) = record { rest = refl; mark = refl; none = refl; sound = refused_sound r }

-- what is to come, if it is told
abbrev expected_of : Option Coming → Coming
expected_of None = nothing
expected_of (Some c) = c

expected_told : (was : Option Coming) (c : Coming) → was ≡ Some c → c ≡ expected_of was
expected_told None c e = absurd cc
expected_told (Some d) c e = let h : Some d ≡ Some c = e in cc

pub call_follows : (book : Book) (old : SessionView) (core : CoreView) (made : Call) (reply : Reply) (notes : List Note) → is_run made ≡ false → Follows book old.core core made reply
    → FollowsAs book old (record { core = core; reader = old.reader }) made reply notes notes
call_follows book old core made reply notes still f =
    let c = expected_of (coming old.reader) in
    let q : (a : Account) → IsQuiet (expecting c a) (step book old.core.shape (expecting c a) made).account (step book old.core.shape (expecting c a) made).reply (step book old.core.shape (expecting c a) made).notes =
    λ a. step_quiet book old.core.shape (expecting c a) made still in
    record {
      expected = c;
      core = λ a h. f.account (expecting c a) (core_at book old.core a c.rest c.mark h);
      reply = λ a h. f.reply (expecting c a) (core_at book old.core a c.rest c.mark h);
      notes = λ a h. sym (ap (λ (xs : List Note). notes ++ xs) (q a).none ∙ append-nil notes);
      told = expected_told (coming old.reader);
      left = λ a h t. t ∙ ap₂ (λ (r : List Occ) (m : Mark). Some (record { rest = r; mark = m })) (sym (q a).rest) (sym (q a).mark);
    }

-- what is left is all that was to come
pub does_towards : (book : Book) (old new : SessionView) (made : Call) (reply : Reply) (notes : List Note) → is_run made ≡ false → Does book old new made reply
    → (left : Coming) → CanCome new.reader left → FollowsTo book old new made reply notes notes left
does_towards book old new made reply notes still d c h =
    let q : (a : Account) → IsQuiet (expecting c a) (step book old.core.shape (expecting c a) made).account (step book old.core.shape (expecting c a) made).reply (step book old.core.shape (expecting c a) made).notes =
    λ a. step_quiet book old.core.shape (expecting c a) made still in
    record {
      expected = c;
      can_come = subst (λ (r : ReaderView). CanCome r c) d.reader h;
      core = λ a s. d.kept.account (expecting c a) (core_at book old.core a c.rest c.mark s);
      reply = λ a s. d.kept.reply (expecting c a) (core_at book old.core a c.rest c.mark s);
      notes = λ a s. sym (ap (λ (xs : List Note). notes ++ xs) (q a).none ∙ append-nil notes);
      comes_then = λ a s. ap₂ (λ (r : List Occ) (m : Mark). record { rest = r; mark = m }) (q a).rest (q a).mark;
    }

-- the source did not fail
pub call_sound : (book : Book) (old core : CoreView) (made : Call) (reply : Reply) → is_run made ≡ false → Follows book old core made reply → AgreesWith book old → IsFaultReply reply → ⊥
call_sound book old core made reply still f agrees x =
    (step_quiet book old.shape agrees.account made still).sound (subst IsFaultReply (f.reply agrees.account agrees.stands) x)

pub call_does : (book : Book) (old : SessionView) (core : CoreView) (made : Call) (reply : Reply) → is_run made ≡ false → Follows book old.core core made reply → Does book old (record { core = core; reader = old.reader }) made reply
call_does book old core made reply still f =
    let whole = call_follows book old core made reply [] still f in
    record {
      kept = f;
      reader = refl;
      stands = λ a h. follows_stands book old (record { core = core; reader = old.reader }) made reply [] [] a whole h;
      reply = λ a h. follows_reply book old (record { core = core; reader = old.reader }) made reply [] [] a whole h;
    }

pub does_follows : (book : Book) (old new : SessionView) (made : Call) (reply : Reply) (notes : List Note) → is_run made ≡ false → Does book old new made reply → FollowsAs book old new made reply notes notes
does_follows book old new made reply notes still d =
    subst (λ (r : ReaderView). FollowsAs book old (record { core = new.core; reader = r }) made reply notes notes) (sym d.reader) (call_follows book old new.core made reply notes still d.kept)

pub still_by : (made : Call) → ((n : ℕ) → made ≡ call.Run n → ⊥) → is_run made ≡ false
still_by (call.Run n) other = absurd (other n refl)
still_by made other = refl

-- the notes of a run that is this call
pub part_of_call : (book : Book) (shape : Widths) (a : Account) (made run : Call) (before after : List Note) → made ≡ run → PartAdded before (step book shape a run).notes after → PartAdded before (step book shape a made).notes after
part_of_call book shape a made run before after e part = subst (λ (k : Call). PartAdded before (step book shape a k).notes after) (sym e) part
