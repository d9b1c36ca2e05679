-- How a run ends that was not cut.
use Rattle.thread_session.proofs.Words.{◌≡◌, ℕ, ◌<◌, true, List, [], ◌++◌, length, refl, ap, ap₂, sym, subst, ◌∙◌, arith, Option, Some, None, Occ}
use Rattle.thread_session.proofs.Words.{Coming, Mark, Dry, Note, Book, Call, Run, Ended, Reply, Account, StepOutcome, ended_at, step, notes_over}
use Rattle.thread_session.proofs.Words.{NextGives, ReaderView, Takes, at_mark, coming, nothing, CoreView, CoreStands, SessionView, Stands, FollowsAs}
use Rattle.thread_session.proofs.Words.{FollowsTo, consuming, expecting, run_reply, CanCome, Closed, GaveAll, gave_mark}
use Rattle.session_model.specs.declared.reply.Ended.TheVariants as ended
use Rattle.thread_session.proofs.Possible.{came_to_mark, nothing_left}
use Rattle.thread_session.proofs.Outcomes.{ran_to, short, whole}
use Rattle.thread_session.proofs.Runs.{Running}

-- a core stands whatever is to come
pub core_at : (book : Book) (core : CoreView) (a : Account) (rest : List Occ) (mark : Mark) → CoreStands book core a → CoreStands book core (record a { rest = rest; mark = mark })
core_at book core a rest mark h = record {
  thread = h.thread;
  registered = h.registered;
  slots = h.slots;
  units = h.units;
  taken = h.taken;
  last = h.last;
  places = h.places;
  rises = h.rises;
  within = h.within;
  apart = h.apart;
  fit = h.fit;
  shape = h.shape;
  in_limits = h.in_limits;
}

-- what was to come, and what comes later: if it is told, it is this
record Expects (was now : Option Coming) (first last : Coming) : Type 0 where
  pub told : (c : Coming) → was ≡ Some c → c ≡ first
  pub left : was ≡ Some first → now ≡ Some last

record ExpectsMore (was now : Option Coming) (os : List Occ) : Type 0 where
  pub later : List Occ
  pub mark : Mark
  pub expects : Expects was now (record { rest = os ++ later; mark = mark }) (record { rest = later; mark = mark })

expects_more : (was now : Option Coming) (os : List Occ) → ((c : Coming) → was ≡ Some c → GaveAll c os now) → ExpectsMore was now os
expects_more None now os gave = record { later = []; mark = Dry; expects = record { told = λ c e. absurd cc; left = λ e. absurd cc } }
expects_more (Some d) now os gave =
    let g = gave d refl in
    record {
      later = g.later;
      mark = d.mark;
      expects = record {
        told = λ c e. (let same : c ≡ d = (let h : Some d ≡ Some c = e in cc) in same ∙ ap (λ (r : List Occ). record { rest = r; mark = d.mark }) g.rest);
        left = λ e. g.left;
      };
    }

expects_end : (was now : Option Coming) (os : List Occ) (m : Mark) → ((c : Coming) → was ≡ Some c → Closed c os m now) → Expects was now (record { rest = os; mark = m }) nothing
expects_end was now os m closed = record {
  told = λ c e. ap₂ (λ (r : List Occ) (k : Mark). record { rest = r; mark = k }) (closed c e).rest (closed c e).mark;
  left = λ e. (closed (record { rest = os; mark = m }) e).left;
}

-- the parts of a run's reply
reply_is : (k count : ℕ) (e : Ended) (os : List Occ) (notes : List Note) → length os ≡ k → count ≡ length notes → run_reply (record { consumed = k; notes = count; ended = e }) ≡ run_reply (record { consumed = length os; notes = length notes; ended = e })
reply_is k count e os notes number counted = ap₂ (λ (x y : ℕ). run_reply (record { consumed = x; notes = y; ended = e })) (sym number) counted

-- the run is the step, by the occurrences that it took
follows_by : (book : Book) (old : SessionView) (core : CoreView) (reader : ReaderView) (before after : List Note) (k count n : ℕ) (e : Ended) (first last : Coming) (r : Running book old core reader before after k count)
    (then : ReaderView) → Expects (coming old.reader) (coming then) first last
    → ((a : Account) → step book old.core.shape (expecting first a) (Run n) ≡ ran_to book a r.os last.rest last.mark e)
    → FollowsAs book old (record { core = core; reader = then }) (Run n) (run_reply (record { consumed = k; notes = count; ended = e })) before after
follows_by book old core reader before after k count n e first last r then expects is = record {
  expected = first;
  core = λ a h. subst (λ (x : StepOutcome). CoreStands book core x.account) (sym (is a)) (core_at book core (consuming r.os a) last.rest last.mark (r.taking.stands a h));
  reply = λ a h. reply_is k count e r.os (notes_over book a.thread a.sets a.past r.os) r.number (r.counted a h) ∙ ap (λ (x : StepOutcome). x.reply) (sym (is a));
  notes = λ a h. r.taking.notes a h ∙ ap (λ (x : StepOutcome). before ++ x.notes) (sym (is a));
  told = expects.told;
  left = λ a h t. expects.left t ∙ ap (λ (x : StepOutcome). Some (record { rest = x.account.rest; mark = x.account.mark })) (sym (is a));
}

-- all that were asked for
pub run_whole : (book : Book) (old : SessionView) (core : CoreView) (reader : ReaderView) (before after : List Note) (k count n : ℕ) (e : Ended) → k ≡ n → e ≡ ended.Going → Running book old core reader before after k count
    → FollowsAs book old (record { core = core; reader = reader }) (Run n) (run_reply (record { consumed = k; notes = count; ended = e })) before after
run_whole book old core reader before after k count n e all going r =
    let x = expects_more (coming old.reader) (coming reader) r.os r.taking.told in
    follows_by book old core reader before after k count n e _ _ r reader x.expects
    (λ a. whole book old.core.shape a n r.os x.later x.mark (r.number ∙ all) ∙ ap (ran_to book a r.os x.later x.mark) (sym going))

-- the stream ended before
pub run_short : (book : Book) (old : SessionView) (core : CoreView) (reader then : ReaderView) (before after : List Note) (k count n : ℕ) (m : Mark) (e : Ended) → k < n → e ≡ ended_at m → NextGives (coming reader) (at_mark m) (coming then)
    → Running book old core reader before after k count
    → FollowsAs book old (record { core = core; reader = then }) (Run n) (run_reply (record { consumed = k; notes = count; ended = e })) before after
run_short book old core reader then before after k count n m e less so gives r =
    let x = expects_end (coming old.reader) (coming then) r.os m (λ c h. gave_mark c r.os (coming reader) (coming then) m (r.taking.told c h) gives) in
    follows_by book old core reader before after k count n e _ _ r then x (λ a. short book old.core.shape a n r.os m (omega (arith, r.number, less)) ∙ ap (ran_to book a r.os [] Dry) (sym so))

-- ---- if it is not told

-- the run is the step, by the occurrences that it took, as if these were to come and then what is left
towards_by : (book : Book) (old : SessionView) (core : CoreView) (reader : ReaderView) (before after : List Note) (k count n : ℕ) (e : Ended) (first last : Coming) (r : Running book old core reader before after k count)
    (then : ReaderView) → CanCome old.reader first
    → ((a : Account) → step book old.core.shape (expecting first a) (Run n) ≡ ran_to book a r.os last.rest last.mark e)
    → FollowsTo book old (record { core = core; reader = then }) (Run n) (run_reply (record { consumed = k; notes = count; ended = e })) before after last
towards_by book old core reader before after k count n e first last r then can is = record {
  expected = first;
  can_come = can;
  core = λ a h. subst (λ (x : StepOutcome). CoreStands book core x.account) (sym (is a)) (core_at book core (consuming r.os a) last.rest last.mark (r.taking.stands a h));
  reply = λ a h. reply_is k count e r.os (notes_over book a.thread a.sets a.past r.os) r.number (r.counted a h) ∙ ap (λ (x : StepOutcome). x.reply) (sym (is a));
  notes = λ a h. r.taking.notes a h ∙ ap (λ (x : StepOutcome). before ++ x.notes) (sym (is a));
  comes_then = λ a h. ap (λ (x : StepOutcome). record { rest = x.account.rest; mark = x.account.mark }) (is a);
}

-- all that were asked for
pub towards_whole : (book : Book) (old : SessionView) (core : CoreView) (reader : ReaderView) (before after : List Note) (k count n : ℕ) (e : Ended) → k ≡ n → e ≡ ended.Going → Running book old core reader before after k count
    → (later : Coming) → CanCome reader later → FollowsTo book old (record { core = core; reader = reader }) (Run n) (run_reply (record { consumed = k; notes = count; ended = e })) before after later
towards_whole book old core reader before after k count n e all going r later h =
    towards_by book old core reader before after k count n e (record { rest = r.os ++ later.rest; mark = later.mark }) later r reader (r.came later h)
    (λ a. whole book old.core.shape a n r.os later.rest later.mark (r.number ∙ all) ∙ ap (ran_to book a r.os later.rest later.mark) (sym going))

-- the stream ended before
pub towards_short : (book : Book) (old : SessionView) (core : CoreView) (reader then : ReaderView) (before after : List Note) (k count n : ℕ) (m : Mark) (e : Ended) → k < n → e ≡ ended_at m → Takes reader (at_mark m) then → then.over ≡ true
    → Running book old core reader before after k count
    → (later : Coming) → CanCome then later → FollowsTo book old (record { core = core; reader = then }) (Run n) (run_reply (record { consumed = k; notes = count; ended = e })) before after later
towards_short book old core reader then before after k count n m e less so takes over r later h =
    subst (λ (c : Coming). FollowsTo book old (record { core = core; reader = then }) (Run n) (run_reply (record { consumed = k; notes = count; ended = e })) before after c) (nothing_left then later over h)
    (towards_by book old core reader before after k count n e (record { rest = r.os; mark = m }) nothing r then (came_to_mark old.reader reader then r.os m r.came takes over later h)
    (λ a. short book old.core.shape a n r.os m (omega (arith, r.number, less)) ∙ ap (ran_to book a r.os [] Dry) (sym so)))

-- ---- if what is to come is told

-- the account expects it
same_account : (book : Book) (old : SessionView) (a : Account) (first : Coming) → ((c : Coming) → coming old.reader ≡ Some c → c ≡ first) → Stands book old a → expecting first a ≡ a
same_account book old a first told h = ap (λ (c : Coming). expecting c a) (sym (told (record { rest = a.rest; mark = a.mark }) h.told))

pub follows_stands : (book : Book) (old new : SessionView) (call : Call) (reply : Reply) (before after : List Note) (a : Account) → FollowsAs book old new call reply before after → Stands book old a
    → Stands book new (step book old.core.shape a call).account
follows_stands book old new call reply before after a f h =
    let same = same_account book old a f.expected f.told h in
    record {
      kept = subst (λ (x : Account). CoreStands book new.core (step book old.core.shape x call).account) same (f.core a h.kept);
      told = subst (λ (x : Account). coming new.reader ≡ Some (record { rest = (step book old.core.shape x call).account.rest; mark = (step book old.core.shape x call).account.mark })) same
          (f.left a h.kept (h.told ∙ ap (λ (c : Coming). Some c) (f.told (record { rest = a.rest; mark = a.mark }) h.told)));
    }

pub follows_reply : (book : Book) (old new : SessionView) (call : Call) (reply : Reply) (before after : List Note) (a : Account) → FollowsAs book old new call reply before after → Stands book old a
    → reply ≡ (step book old.core.shape a call).reply
follows_reply book old new call reply before after a f h = subst (λ (x : Account). reply ≡ (step book old.core.shape x call).reply) (same_account book old a f.expected f.told h) (f.reply a h.kept)

pub follows_notes : (book : Book) (old new : SessionView) (call : Call) (reply : Reply) (before after : List Note) (a : Account) → FollowsAs book old new call reply before after → Stands book old a
    → after ≡ before ++ (step book old.core.shape a call).notes
follows_notes book old new call reply before after a f h = subst (λ (x : Account). after ≡ before ++ (step book old.core.shape x call).notes) (same_account book old a f.expected f.told h) (f.notes a h.kept)
