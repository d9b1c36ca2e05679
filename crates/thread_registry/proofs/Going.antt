-- A job after its first calls, and after all of them.
use Rattle.thread_registry.proofs.Words.{nat_tests, ◌≡◌, ℕ, ◌+◌, ◌<◌, ◌≤◌, Bool, true, false, List, [], ◌∷◌, ◌++◌, All, length, take, get_or, ap, ap₂}
use Rattle.thread_registry.proofs.Words.{sym, ◌∙◌, append_assoc, length-append, arith, subst, cases_lt, take_all, All-push, MatchBool, Book, Note}
use Rattle.thread_registry.proofs.Words.{Begun, Grown, Call, Reply, Account, step, account_after, replies_to, notes_to, FaultsKept}
use Rattle.thread_registry.proofs.Words.{FaultsRose, IsFaultReply, fault_count, SessionView, Coming, Widths, CoreStands, FollowsTo}
use Rattle.thread_registry.proofs.Words.{expecting, CanCome, IsStarvedTo, IsReady, Stands, to_come, grown_more, JobView, Replied, Worked, WorkedTo, Finished}
use Rattle.thread_registry.proofs.Words.{FinishedTo, CutShort, WorkedOrIdle, seen_of}
use Rattle.thread_registry.proofs.Folds.{after-more, replies-more, notes-more, replies-front, notes-part}
use Rattle.thread_registry.proofs.Faults.{kept-kept, kept-rose, rose-kept}

-- the account, the replies and the notes after k calls
pub record Along (book : Book) (a : Account) (x y : JobView) (k : ℕ) : Type 0 where
  pub stands : Stands book y.session (account_after book x.session.core.shape a (take k x.calls))
  pub replies : y.replies ≡ x.replies ++ replies_to book x.session.core.shape a (take k x.calls)
  pub notes : y.notes ≡ x.notes ++ notes_to book x.session.core.shape a (take k x.calls)

-- so if it is not told, and this is left to come
pub record AlongTo (book : Book) (a : Account) (x y : JobView) (k : ℕ) (left : Coming) : Type 0 where
  pub core : CoreStands book y.session.core (account_after book x.session.core.shape a (take k x.calls))
  pub comes_then : to_come (account_after book x.session.core.shape a (take k x.calls)) ≡ left
  pub replies : y.replies ≡ x.replies ++ replies_to book x.session.core.shape a (take k x.calls)
  pub notes : y.notes ≡ x.notes ++ notes_to book x.session.core.shape a (take k x.calls)

pub record GoingTo (book : Book) (x y : JobView) (k : ℕ) (left : Coming) : Type 0 where
  pub expected : Coming
  pub can_come : CanCome x.session.reader expected
  pub along : (a : Account) → CoreStands book x.session.core a → to_come a ≡ expected → AlongTo book a x y k left

-- the replies that were made by k calls
pub record Made (x y : JobView) (k : ℕ) (made : List Reply) : Type 0 where
  pub appended : y.replies ≡ x.replies ++ made
  pub counted : length made ≡ k
  pub faulty : All (λ r. IsFaultReply r → FaultsRose (fault_count x.session.reader) (fault_count y.session.reader)) made

-- y is the job x after its first k calls
pub record Going (book : Book) (x y : JobView) (k : ℕ) : Type 0 where
  pub calls : y.calls ≡ x.calls
  pub starved : y.starved ≡ false
  pub shape : y.session.core.shape ≡ x.session.core.shape
  pub ready : IsReady book y.session
  pub faults : FaultsKept (fault_count x.session.reader) (fault_count y.session.reader)
  pub grown : Grown x.notes y.notes
  pub made : (made : List Reply) × Made x y k made
  pub along : (a : Account) → Stands book x.session a → Along book a x y k
  pub towards : (left : Coming) → CanCome y.session.reader left → GoingTo book x y k left

-- what a call gave
pub record Called (book : Book) (y z : JobView) (c : Call) (r : Reply) : Type 0 where
  pub shape : z.session.core.shape ≡ y.session.core.shape
  pub ready : IsReady book z.session
  pub faults : FaultsKept (fault_count y.session.reader) (fault_count z.session.reader)
  pub grown : Grown y.notes z.notes
  pub faulty : IsFaultReply r → FaultsRose (fault_count y.session.reader) (fault_count z.session.reader)
  pub follows : (a : Account) → Stands book y.session a
      → Stands book z.session (step book y.session.core.shape a c).account
      × (r ≡ (step book y.session.core.shape a c).reply)
      × (z.notes ≡ y.notes ++ (step book y.session.core.shape a c).notes)
  pub towards : (left : Coming) → CanCome z.session.reader left → FollowsTo book y.session z.session c r y.notes z.notes left

-- replies that spoke of a fault before speak so still
still : (u v w : SessionView) (rs : List Reply) → FaultsKept (fault_count u.reader) (fault_count v.reader) → FaultsKept (fault_count v.reader) (fault_count w.reader)
    → All (λ r. IsFaultReply r → FaultsRose (fault_count u.reader) (fault_count v.reader)) rs → All (λ r. IsFaultReply r → FaultsRose (fault_count u.reader) (fault_count w.reader)) rs
still u v w rs h i all = λ k d l f. rose-kept (fault_count u.reader) (fault_count v.reader) (fault_count w.reader) h (all k d l f) i

-- the replies made by one call more
made-more : (x y z : JobView) (k : ℕ) (r : Reply) (rs : List Reply) → FaultsKept (fault_count x.session.reader) (fault_count y.session.reader)
    → FaultsKept (fault_count y.session.reader) (fault_count z.session.reader) → (IsFaultReply r → FaultsRose (fault_count y.session.reader) (fault_count z.session.reader))
    → z.replies ≡ y.replies ++ r ∷ [] → Made x y k rs → Made x z (k + 1) (rs ++ r ∷ [])
made-more x y z k r rs h i f p m =
    record {
      appended = p ∙ (ap (λ v. v ++ r ∷ []) m.appended ∙ append_assoc x.replies rs (r ∷ []));
      counted = omega (arith, length-append rs (r ∷ []), m.counted);
      faulty =
          All-push (λ r. IsFaultReply r → FaultsRose (fault_count x.session.reader) (fault_count z.session.reader)) rs r
          (still x.session y.session z.session rs h i m.faulty)
          (λ g. kept-rose (fault_count x.session.reader) (fault_count y.session.reader) (fault_count z.session.reader) h (f g));
    }

along-more : (book : Book) (x y z : JobView) (k : ℕ) (c : Call) (r : Reply) (a : Account) → k < length x.calls → get_or x.calls k c ≡ c
    → y.session.core.shape ≡ x.session.core.shape → Called book y z c r → z.replies ≡ y.replies ++ r ∷ []
    → Along book a x y k → Along book a x z (k + 1)
along-more book x y z k c r a h e shape called p g = grind (arith, nat_tests, after-more, append_assoc, replies-more, notes-more)

-- what the step of a call does, if this is left
record StepsTo (book : Book) (y z : JobView) (c : Call) (r : Reply) (left : Coming) (w : Widths) (a : Account) : Type 0 where
  pub core : CoreStands book z.session.core (step book w a c).account
  pub comes_then : to_come (step book w a c).account ≡ left
  pub reply : r ≡ (step book w a c).reply
  pub notes : z.notes ≡ y.notes ++ (step book w a c).notes

along-to-more : (book : Book) (x y z : JobView) (k : ℕ) (c : Call) (r : Reply) (left : Coming) (a : Account) → k < length x.calls → get_or x.calls k c ≡ c
    → y.session.core.shape ≡ x.session.core.shape → (f : FollowsTo book y.session z.session c r y.notes z.notes left) → z.replies ≡ y.replies ++ r ∷ []
    → AlongTo book a x y k f.expected → AlongTo book a x z (k + 1) left
along-to-more book x y z k c r left a h e shape f p g =
    let w = x.session.core.shape in
    let b = account_after book w a (take k x.calls) in
    let same : expecting f.expected b ≡ b = ap (λ (q : Coming). expecting q b) (sym g.comes_then) in
    let here : StepsTo book y z c r left y.session.core.shape (expecting f.expected b) = record { core = f.core b g.core; comes_then = f.comes_then b g.core; reply = f.reply b g.core; notes = f.notes b g.core } in
    let s : StepsTo book y z c r left w b = subst (λ (v : Widths). StepsTo book y z c r left v b) shape (subst (λ (q : Account). StepsTo book y z c r left y.session.core.shape q) same here) in
    record {
      core = subst (CoreStands book z.session.core) (sym (after-more book w a x.calls k c h e)) s.core;
      comes_then = ap to_come (after-more book w a x.calls k c h e) ∙ s.comes_then;
      replies =
          p
          ∙ (ap₂ (λ u v. u ++ v ∷ []) g.replies s.reply
          ∙ (append_assoc x.replies (replies_to book w a (take k x.calls)) ((step book w b c).reply ∷ [])
          ∙ ap (λ v. x.replies ++ v) (sym (replies-more book w a x.calls k c h e))));
      notes =
          s.notes
          ∙ (ap (λ u. u ++ (step book w b c).notes) g.notes
          ∙ (append_assoc x.notes (notes_to book w a (take k x.calls)) (step book w b c).notes
          ∙ ap (λ v. x.notes ++ v) (sym (notes-more book w a x.calls k c h e))));
    }

going-to-more : (book : Book) (x y z : JobView) (k : ℕ) (c : Call) (r : Reply) (left : Coming) → k < length x.calls → get_or x.calls k c ≡ c
    → y.session.core.shape ≡ x.session.core.shape → (f : FollowsTo book y.session z.session c r y.notes z.notes left) → z.replies ≡ y.replies ++ r ∷ []
    → GoingTo book x y k f.expected → GoingTo book x z (k + 1) left
going-to-more book x y z k c r left h e shape f p g = record {
  expected = g.expected;
  can_come = g.can_come;
  along = λ a s q. along-to-more book x y z k c r left a h e shape f p (g.along a s q);
}

pub going-more : (book : Book) (x y z : JobView) (k : ℕ) (c : Call) (r : Reply) → Going book x y k → k < length x.calls → get_or x.calls k c ≡ c
    → Called book y z c r → z.calls ≡ y.calls → z.starved ≡ false → z.replies ≡ y.replies ++ r ∷ []
    → Going book x z (k + 1)
going-more book x y z k c r g h e called p q rs =
    record {
      calls = p ∙ g.calls;
      starved = q;
      shape = called.shape ∙ g.shape;
      ready = called.ready;
      faults = kept-kept (fault_count x.session.reader) (fault_count y.session.reader) (fault_count z.session.reader) g.faults called.faults;
      grown = grown_more x.notes y.notes z.notes g.grown called.grown;
      made = (g.made.0 ++ r ∷ [], made-more x y z k r g.made.0 g.faults called.faults called.faulty rs g.made.1);
      along = λ a s. along-more book x y z k c r a h e g.shape called rs (g.along a s);
      towards =
          λ left n.
          let f = called.towards left n in
          going-to-more book x y z k c r left h e g.shape f rs (g.towards f.expected f.can_come);
    }

-- what a call left to which memory was refused
pub record CallStarved (book : Book) (y z : JobView) (c : Call) : Type 0 where
  pub shape : z.session.core.shape ≡ y.session.core.shape
  pub ready : IsReady book z.session
  pub faults : FaultsKept (fault_count y.session.reader) (fault_count z.session.reader)
  pub grown : Grown y.notes z.notes
  pub part : (a : Account) → Stands book y.session a → Begun y.notes (step book y.session.core.shape a c).notes z.notes
  pub towards : (left : Coming) → CanCome z.session.reader left → IsStarvedTo book y.session c y.notes z.notes left

begun-of : (before given after : List Note) (n : ℕ) → after ≡ before ++ take n given → Begun before given after
begun-of before given after n e = grind (arith, nat_tests, cases_lt, take_all)

cut-by : (book : Book) (x y z : JobView) (k : ℕ) (c : Call) (a : Account) → k < length x.calls → get_or x.calls k c ≡ c
    → z.replies ≡ y.replies → y.replies ≡ x.replies ++ replies_to book x.session.core.shape a (take k x.calls) → y.notes ≡ x.notes ++ notes_to book x.session.core.shape a (take k x.calls)
    → Begun y.notes (step book x.session.core.shape (account_after book x.session.core.shape a (take k x.calls)) c).notes z.notes → CutShort book a x z
cut-by book x y z k c a h e p replies notes part =
    let w = x.session.core.shape in
    let b = account_after book w a (take k x.calls) in
    let ps = notes_to book w a (take k x.calls) in
    let n = part.0 in
    let front = notes-part book w a x.calls k n c h e part.1 in
    let all = notes_to book w a x.calls in
    record {
      replies = (k, h, p ∙ (replies ∙ ap (λ v. x.replies ++ v) (replies-front book w a x.calls k (omega arith))));
      notes = begun-of x.notes all z.notes (length ps + n) (part.2 ∙ (ap (λ u. u ++ take n (step book w b c).notes) notes ∙ (append_assoc x.notes ps (take n (step book w b c).notes) ∙ ap (λ v. x.notes ++ v) front)));
    }

cut-along : (book : Book) (x y z : JobView) (k : ℕ) (c : Call) (a : Account) → k < length x.calls → get_or x.calls k c ≡ c
    → y.session.core.shape ≡ x.session.core.shape → CallStarved book y z c → z.replies ≡ y.replies
    → Along book a x y k → CutShort book a x z
cut-along book x y z k c a h e shape refused p g =
    let b = account_after book x.session.core.shape a (take k x.calls) in
    cut-by book x y z k c a h e p g.replies g.notes (subst (λ v. Begun y.notes (step book v b c).notes z.notes) shape (refused.part b g.stands))

cut-along-to : (book : Book) (x y z : JobView) (k : ℕ) (c : Call) (left : Coming) (a : Account) → k < length x.calls → get_or x.calls k c ≡ c
    → y.session.core.shape ≡ x.session.core.shape → (refused : IsStarvedTo book y.session c y.notes z.notes left) → z.replies ≡ y.replies
    → AlongTo book a x y k refused.expected → CutShort book a x z
cut-along-to book x y z k c left a h e shape refused p g =
    let b = account_after book x.session.core.shape a (take k x.calls) in
    let same : expecting refused.expected b ≡ b = ap (λ (q : Coming). expecting q b) (sym g.comes_then) in
    cut-by book x y z k c a h e p g.replies g.notes
    (subst (λ v. Begun y.notes (step book v b c).notes z.notes) shape (subst (λ (q : Account). Begun y.notes (step book y.session.core.shape q c).notes z.notes) same (refused.notes b g.core)))

pub going-cut : (book : Book) (x y z : JobView) (k : ℕ) (c : Call) → Going book x y k → k < length x.calls → get_or x.calls k c ≡ c
    → CallStarved book y z c → z.calls ≡ y.calls → z.starved ≡ true → z.replies ≡ y.replies
    → Worked book x z
going-cut book x y z k c g h e refused p q rs =
    record {
      calls = p ∙ g.calls;
      shape = refused.shape ∙ g.shape;
      ready = refused.ready;
      faults = kept-kept (fault_count x.session.reader) (fault_count y.session.reader) (fault_count z.session.reader) g.faults refused.faults;
      grown = grown_more x.notes y.notes z.notes g.grown refused.grown;
      replied = (
        g.made.0,
        record {
          appended = rs ∙ g.made.1.appended;
          counted = λ f. absurd (cc);
          faulty = still x.session y.session z.session g.made.0 g.faults refused.faults g.made.1.faulty;
        },
      );
      outcome = λ a s. subst (λ b. MatchBool b (CutShort book a x z) (Finished book a x z)) (sym q) (cut-along book x y z k c a h e g.shape refused rs (g.along a s));
      towards =
          λ left n.
          let f = refused.towards left n in
          let way = g.towards f.expected f.can_come in
          record {
            expected = way.expected;
            can_come = way.can_come;
            outcome = λ a s t. subst (λ b. MatchBool b (CutShort book a x z) (FinishedTo book a x z left)) (sym q) (cut-along-to book x y z k c left a h e g.shape f rs (way.along a s t));
          };
    }

-- all calls were made
pub going-end : (book : Book) (x y : JobView) (k : ℕ) → Going book x y k → k ≡ length x.calls → Worked book x y
going-end book x y k g e =
    let h : length x.calls ≤ k = omega (arith, e) in
    let all : take k x.calls ≡ x.calls = take_all k x.calls h in
    let w = x.session.core.shape in
    record {
      calls = g.calls;
      shape = g.shape;
      ready = g.ready;
      faults = g.faults;
      grown = g.grown;
      replied = (
        g.made.0,
        record { appended = g.made.1.appended; counted = λ f. g.made.1.counted ∙ e; faulty = g.made.1.faulty },
      );
      outcome =
          λ a s.
          let f = g.along a s in
          let done : Finished book a x y =
          record {
            stands = subst (λ cs. Stands book y.session (account_after book w a cs)) all f.stands;
            replies = f.replies ∙ ap (λ cs. x.replies ++ replies_to book w a cs) all;
            notes = f.notes ∙ ap (λ cs. x.notes ++ notes_to book w a cs) all;
          } in
          subst (λ b. MatchBool b (CutShort book a x y) (Finished book a x y)) (sym g.starved) done;
      towards =
          λ left n.
          let way = g.towards left n in
          record {
            expected = way.expected;
            can_come = way.can_come;
            outcome =
                λ a s t.
                let f = way.along a s t in
                let done : FinishedTo book a x y left =
                record {
                  core = subst (λ cs. CoreStands book y.session.core (account_after book w a cs)) all f.core;
                  comes_then = ap (λ cs. to_come (account_after book w a cs)) (sym all) ∙ f.comes_then;
                  replies = f.replies ∙ ap (λ cs. x.replies ++ replies_to book w a cs) all;
                  notes = f.notes ∙ ap (λ cs. x.notes ++ notes_to book w a cs) all;
                } in
                subst (λ b. MatchBool b (CutShort book a x y) (FinishedTo book a x y left)) (sym g.starved) done;
          };
    }

-- how it ended does not look at whether memory was refused before
outcome-as : (book : Book) (a : Account) (x y : JobView) (before b : Bool)
    → MatchBool b (CutShort book a x y) (Finished book a x y)
    → MatchBool b (CutShort book a (seen_of x.session x.notes x.calls x.replies before) y) (Finished book a (seen_of x.session x.notes x.calls x.replies before) y)
outcome-as book a x y before b h = grind (arith, nat_tests)

outcome-to-as : (book : Book) (a : Account) (x y : JobView) (left : Coming) (before b : Bool)
    → MatchBool b (CutShort book a x y) (FinishedTo book a x y left)
    → MatchBool b (CutShort book a (seen_of x.session x.notes x.calls x.replies before) y) (FinishedTo book a (seen_of x.session x.notes x.calls x.replies before) y left)
outcome-to-as book a x y left before b h = grind (arith, nat_tests)

-- nor does anything else that its work left
worked-as : (book : Book) (x y : JobView) (before : Bool) → Worked book x y → Worked book (seen_of x.session x.notes x.calls x.replies before) y
worked-as book x y before w =
    let x' = seen_of x.session x.notes x.calls x.replies before in
    let replied : (made : List Reply) × Replied x' y made = (w.replied.0, grind (arith, nat_tests)) in
    let towards : (left : Coming) → CanCome y.session.reader left → WorkedTo book x' y left =
    λ left h.
    let t = w.towards left h in
    record { expected = t.expected; can_come = t.can_come; outcome = λ a s q. outcome-to-as book a x y left before y.starved (t.outcome a s q) } in
    grind (arith, nat_tests, outcome-as, replied, towards)

-- the job is seen the same by its parts
pub worked-same : (book : Book) (x x' y y' : JobView) → Worked book x y
    → x'.session ≡ x.session → x'.notes ≡ x.notes → x'.calls ≡ x.calls → x'.replies ≡ x.replies
    → y'.session ≡ y.session → y'.notes ≡ y.notes → y'.calls ≡ y.calls → y'.replies ≡ y.replies → y'.starved ≡ y.starved
    → Worked book x' y'
worked-same book x x' y y' w a n c r a' n' c' r' s' =
    let old : seen_of x.session x.notes x.calls x.replies x'.starved ≡ x' = λ i. seen_of (sym a i) (sym n i) (sym c i) (sym r i) x'.starved in
    let new : y ≡ y' = λ i. seen_of (sym a' i) (sym n' i) (sym c' i) (sym r' i) (sym s' i) in
    subst (Worked book x') new (subst (λ v. Worked book v y) old (worked-as book x y x'.starved w))

-- a job with calls was worked
pub ran-by : (book : Book) (x y : JobView) → 0 < length x.calls → Worked book x y → WorkedOrIdle book x y
ran-by book x y some w = grind (arith, nat_tests)
