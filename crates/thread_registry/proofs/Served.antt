-- What each thread got, from what its job left.
use Rattle.thread_registry.proofs.Words.{nat_tests, ◌≡◌, ℕ, zero, suc, ◌+◌, ◌<◌, Bool, true, false, ◌==◌, if◌then◌else◌, List, [], ◌∷◌, ◌++◌, All}
use Rattle.thread_registry.proofs.Words.{length, map, get_or, refl, sym, ◌∙◌, ap, subst, arith, Option, Some, None, append-nil, inl, inr, slice_get}
use Rattle.thread_registry.proofs.Words.{MatchBool, cases_lt, take_all, get_or-map, get_or_past, length-map, All-append, All-push, All-tail, Note}
use Rattle.thread_registry.proofs.Words.{Begun, Coming, Dry, Book, Widths, BookFits, Call, Reply, Account, opening, IsGood, IsShape, notes_to, Tape}
use Rattle.thread_registry.proofs.Words.{End, ReaderView, comes, coming, tape_of, opening_agrees, opening_stands, FaultsRose, IsFaultReply}
use Rattle.thread_registry.proofs.Words.{fault_count, CanCome, Stands, kept_same, grown_same, JobView, Worked, Finished, FinishedTo, CutShort}
use Rattle.thread_registry.proofs.Words.{CanWork, WorkedOrIdle, PlanLine, Work, Left, before, befores_from, AreGood, AreThreads, IsGoodFor, Planned}
use Rattle.thread_registry.proofs.Words.{calls_in, planned_at, planned_calls, AreServed, Served, AreDealt, AreWorks, calls_of}
use Rattle.thread_registry.proofs.Lists.{all-cons, all-none}
use Rattle.thread_registry.proofs.Lent.{before-at, befores-length}

-- a fact that some element helps to show
pub with_some : {X G : Type 0} (xs : List X) → 0 < length xs → (X → G) → G
with_some [] h f = absurd (omega (arith, h))
with_some (x ∷ xs) h f = f x

-- ---- the conditions of the calls

good-in : (book : Book) (shape : Widths) (p : Planned) → IsGoodFor book shape p → All (IsGood book shape) (calls_in p)
good-in book shape p g = grind (arith, nat_tests, all-cons, all-none)

good-if : (book : Book) (shape : Widths) (b : Bool) (cs : List Call) → All (IsGood book shape) cs → All (IsGood book shape) (if b then cs else [])
good-if book shape true cs all = all
good-if book shape false cs all = all-none (IsGood book shape)

good-calls : (book : Book) (shape : Widths) (t : ℕ) (plan : List PlanLine) → All (λ l. IsGoodFor book shape l.planned) plan → All (IsGood book shape) (planned_at t plan)
good-calls book shape t [] all = all-none (IsGood book shape)
good-calls book shape t (l ∷ ls) all =
    All-append (IsGood book shape) (planned_calls t l) (planned_at t ls)
    (good-if book shape (l.thread == t) (calls_in l.planned) (good-in book shape l.planned (all 0 l (omega arith))))
    (good-calls book shape t ls (All-tail (λ (k : PlanLine). IsGoodFor book shape k.planned) l ls all))

-- the calls of a thread
found-calls : (works : List Work) (t : ℕ) (w : Work) → slice_get works t ≡ Some w → get_or (map calls_of works) t [] ≡ calls_of w
found-calls [] t w e = absurd (cc)
found-calls (v ∷ works) zero w e = let same : v ≡ w = cc in ap calls_of same
found-calls (v ∷ works) (suc t) w e = found-calls works t w e

no-calls : (works : List Work) (t : ℕ) → slice_get works t ≡ None → get_or (map calls_of works) t [] ≡ []
no-calls [] t e = refl
no-calls (v ∷ works) zero e = absurd (cc)
no-calls (v ∷ works) (suc t) e = no-calls works t e

-- if some thread has calls, a core was made, so that the shape is one
shaped-where : (shape : Widths) (works : List Work) → AreWorks shape works → (t : ℕ) → 0 < length (get_or (map calls_of works) t []) → IsShape shape
shaped-where shape works all t some = go (slice_get works t) refl where
  go : (o : Option Work) → slice_get works t ≡ o → IsShape shape
  go None e = absurd (omega (arith, some, ap length (no-calls works t e)))
  go (Some w) e = (all.each t w e).shaped (omega (arith, some, ap length (found-calls works t w e)))

-- a job can be worked if it has calls
abbrev Can : Book → JobView → Type 0
Can book x = 0 < length x.calls → CanWork book x.session x.calls

can-before : (book : Book) (shape : Widths) (t : ℕ) (r : ReaderView) (ns : List Note) (cs : List Call) → BookFits shape book
    → (0 < length cs → IsShape shape) → All (IsGood book shape) cs → Can book (before shape t r ns cs)
can-before book shape t r ns [] fits shaped good = λ some. absurd (omega (arith, some))
can-before book shape t r ns (c ∷ cs) fits shaped good = λ some. record { ready = record { agrees = opening_agrees book t shape [] Dry (shaped some) fits }; good = good }

can-from : (book : Book) (shape : Widths) (k : ℕ) (rs : List ReaderView) (nss : List (List Note)) (css : List (List Call)) → BookFits shape book
    → ((t : ℕ) → 0 < length (get_or css t []) → IsShape shape) → ((t : ℕ) → All (IsGood book shape) (get_or css t []))
    → All (Can book) (befores_from k shape rs nss css)
can-from book shape k [] nss css fits shaped good = all-none (Can book)
can-from book shape k (r ∷ rs) [] css fits shaped good = all-none (Can book)
can-from book shape k (r ∷ rs) (ns ∷ nss) [] fits shaped good = all-none (Can book)
can-from book shape k (r ∷ rs) (ns ∷ nss) (cs ∷ css) fits shaped good =
    all-cons (Can book) (before shape k r ns cs) _ (can-before book shape k r ns cs fits (shaped 0) (good 0))
    (can-from book shape (k + 1) rs nss css fits (λ t. shaped (suc t)) (λ t. good (suc t)))

pub can-work : (book : Book) (shape : Widths) (plan : List PlanLine) (readers : List ReaderView) (notes : List (List Note)) (works : List Work)
    → length works ≡ 64 → AreDealt plan works → AreWorks shape works → BookFits shape book → AreGood book shape plan
    → All (Can book) (befores_from 0 shape readers notes (map calls_of works))
can-work book shape plan readers notes works len dealt all fits good =
    can-from book shape 0 readers notes (map calls_of works) fits (shaped-where shape works all)
    (λ t.
    elim (cases_lt t 64) [
      | inl h ↦ subst (All (IsGood book shape)) (sym (dealt t h)) (good-calls book shape t plan good.each)
      | inr h ↦ subst (All (IsGood book shape)) (sym (get_or_past (map calls_of works) t [] (omega (arith, h, len, length-map works calls_of)))) (all-none (IsGood book shape))
    ])

-- ---- what one thread got

begun-by : (book : Book) (a : Account) (x y : JobView) (b : Bool) → MatchBool b (CutShort book a x y) (Finished book a x y) → Begun x.notes (notes_to book x.session.core.shape a x.calls) y.notes
begun-by book a x y b h = grind (arith, nat_tests, take_all)

done-by : (book : Book) (a : Account) (x y : JobView) (b : Bool) → b ≡ false → MatchBool b (CutShort book a x y) (Finished book a x y) → Finished book a x y
done-by book a x y true e h = absurd (cc)
done-by book a x y false e h = h

begun-to-by : (book : Book) (a : Account) (x y : JobView) (left : Coming) (b : Bool) → MatchBool b (CutShort book a x y) (FinishedTo book a x y left) → Begun x.notes (notes_to book x.session.core.shape a x.calls) y.notes
begun-to-by book a x y left b h = grind (arith, nat_tests, take_all)

done-to-by : (book : Book) (a : Account) (x y : JobView) (left : Coming) (b : Bool) → b ≡ false → MatchBool b (CutShort book a x y) (FinishedTo book a x y left) → FinishedTo book a x y left
done-to-by book a x y left true e h = absurd (cc)
done-to-by book a x y left false e h = h

-- something can come of each reader
pub some_coming : (reader : ReaderView) → (c : Coming) × CanCome reader c
some_coming reader = go (tape_of reader) refl where
  go : (told : Option Tape) → tape_of reader ≡ told → (c : Coming) × CanCome reader c
  go None e = (comes reader End [], record { tape = record { bytes = []; ending = End }; told = rw e tt; says = refl })
  go (Some t) e = (comes reader t.ending t.bytes, record { tape = t; told = rw e refl; says = refl })

-- a thread with calls
served-job : (book : Book) (shape : Widths) (refused : Bool) (t : ℕ) (reader : ReaderView) (c : Call) (cs : List Call) (notes : List Note) (y : JobView) → IsShape shape
    → Worked book (before shape t reader notes (c ∷ cs)) y → (refused ≡ false → y.starved ≡ false) → Served book shape refused t reader y.session.reader (c ∷ cs) notes y.notes y.replies
served-job book shape refused t reader c cs notes y shaped w whole =
    let x = before shape t reader notes (c ∷ cs) in
    let made : y.replies ≡ w.replied.0 = w.replied.1.appended in
    let stands : (stream : Coming) → coming reader ≡ Some stream → Stands book x.session (opening t stream.rest stream.mark) =
    λ stream e. record { kept = opening_stands book t shape stream.rest stream.mark shaped; told = e } in
    record {
      idle = λ none. absurd (omega (arith, ap length none));
      kept = w.faults;
      faulty = subst (All (λ r. IsFaultReply r → FaultsRose (fault_count reader) (fault_count y.session.reader))) (sym made) w.replied.1.faulty;
      grown = w.grown;
      counted = λ z. ap length made ∙ w.replied.1.counted (whole z);
      begun = λ stream e. begun-by book (opening t stream.rest stream.mark) x y y.starved (w.outcome (opening t stream.rest stream.mark) (stands stream e));
      done =
          λ z stream e.
          let f = done-by book (opening t stream.rest stream.mark) x y y.starved (whole z) (w.outcome (opening t stream.rest stream.mark) (stands stream e)) in
          (f.notes, f.replies);
      possible =
          let left = some_coming y.session.reader in
          let to = w.towards left.0 left.1 in
          let a = opening t to.expected.rest to.expected.mark in
          let outcome : MatchBool y.starved (CutShort book a x y) (FinishedTo book a x y left.0) = to.outcome a (opening_stands book t shape to.expected.rest to.expected.mark shaped) refl in (
            to.expected,
            to.can_come,
            record {
              begun = begun-to-by book a x y left.0 y.starved outcome;
              done = λ z. (let f = done-to-by book a x y left.0 y.starved (whole z) outcome in (f.notes, f.replies));
            },
          );
    }

-- a thread without calls
served-idle : (book : Book) (shape : Widths) (refused : Bool) (t : ℕ) (reader : ReaderView) (notes : List Note) → Served book shape refused t reader reader [] notes notes []
served-idle book shape refused t reader notes =
    record {
      idle = λ none. (refl, refl);
      kept = kept_same reader;
      faulty = all-none (λ (r : Reply). IsFaultReply r → FaultsRose (fault_count reader) (fault_count reader));
      grown = grown_same notes;
      counted = λ z. refl;
      begun = λ stream e. (0, omega arith, sym (append-nil notes));
      done = λ z stream e. (sym (append-nil notes), refl);
      possible =
          let c = some_coming reader in
          (c.0, c.1, record { begun = (0, omega arith, sym (append-nil notes)); done = λ z. (sym (append-nil notes), refl) });
    }

served-one : (book : Book) (shape : Widths) (refused : Bool) (t : ℕ) (reader : ReaderView) (calls : List Call) (notes : List Note) (y : JobView)
    → (0 < length calls → IsShape shape) → WorkedOrIdle book (before shape t reader notes calls) y → (refused ≡ false → y.starved ≡ false)
    → Served book shape refused t reader y.session.reader calls notes y.notes y.replies
served-one book shape refused t reader [] notes y shaped ran whole =
    subst (λ (z : JobView). Served book shape refused t reader z.session.reader [] notes z.notes z.replies) (sym ran) (served-idle book shape refused t reader notes)
served-one book shape refused t reader (c ∷ cs) notes y shaped ran whole = served-job book shape refused t reader c cs notes y (shaped (omega arith)) ran whole

-- each thread got so
pub are-served : (book : Book) (shape : Widths) (refused : Bool) (plan : List PlanLine) (readers readers_then : List ReaderView) (before_all after : List (List Note)) (replies : List (List Reply)) (works : List Work)
    → length readers ≡ 64 → length before_all ≡ 64 → length works ≡ 64 → AreDealt plan works → AreWorks shape works
    → Left book refused (befores_from 0 shape readers before_all (map calls_of works)) after readers_then replies
    → AreServed book shape refused plan readers readers_then before_all after replies
are-served book shape refused plan readers readers_then before_all after replies works rl nl wl dealt all left =
    let css = map calls_of works in
    let ns_long : length before_all ≡ length readers = nl ∙ sym rl in
    let cs_long : length css ≡ length readers = length-map works calls_of ∙ (wl ∙ sym rl) in
    let xs = befores_from 0 shape readers before_all css in
    let long : length left.afters ≡ 64 = left.ran.len ∙ (befores-length 0 shape readers before_all css ns_long cs_long ∙ rl) in
    record {
      readers_len = ap length left.back ∙ (length-map left.afters (λ (y : JobView). y.session.reader) ∙ long);
      notes_len = ap length left.told ∙ (length-map left.afters (λ (y : JobView). y.notes) ∙ long);
      replies_len = ap length left.replied ∙ (length-map left.afters (λ (y : JobView). y.replies) ∙ long);
      each =
          λ t r few.
          let calls = get_or css t [] in
          let x = before shape t (get_or readers t r) (get_or before_all t []) calls in
          let there : t < length left.afters = omega (arith, few, long) in
          let y = get_or left.afters t x in
          let is : get_or xs t x ≡ x =
          before-at 0 shape readers before_all css t x r (omega (arith, few, rl)) ns_long cs_long
          ∙ ap (λ n. before shape n (get_or readers t r) (get_or before_all t []) calls) (let q : 0 + t ≡ t = omega arith in q) in
          let ran : WorkedOrIdle book x y = subst (λ (v : JobView). WorkedOrIdle book v y) is (left.ran.at t x (omega (arith, few, long, left.ran.len))) in
          let got = served-one book shape refused t (get_or readers t r) calls (get_or before_all t []) y (shaped-where shape works all t) ran (λ z. left.whole z t x there) in
          let n : get_or after t [] ≡ y.notes = ap (λ l. get_or l t []) left.told ∙ get_or-map (λ (v : JobView). v.notes) left.afters t x [] there in
          let q : get_or replies t [] ≡ y.replies = ap (λ l. get_or l t []) left.replied ∙ get_or-map (λ (v : JobView). v.replies) left.afters t x [] there in
          let b : get_or readers_then t r ≡ y.session.reader = ap (λ l. get_or l t r) left.back ∙ get_or-map (λ (v : JobView). v.session.reader) left.afters t x r there in
          let reader = get_or readers t r in
          let told = get_or before_all t [] in
          let g0 = subst (λ v. Served book shape refused t reader y.session.reader v told y.notes y.replies) (dealt t few) got in
          let g1 = subst (λ v. Served book shape refused t reader y.session.reader (planned_at t plan) told v y.replies) (sym n) g0 in
          let g2 = subst (λ v. Served book shape refused t reader y.session.reader (planned_at t plan) told (get_or after t []) v) (sym q) g1 in
          subst (λ v. Served book shape refused t reader v (planned_at t plan) told (get_or after t []) (get_or replies t [])) (sym b) g2;
    }

-- of the same lines
pub served-as : (book : Book) (shape : Widths) (refused : Bool) (plan plan' : List PlanLine) (readers readers_then : List ReaderView) (before_all after : List (List Note)) (replies : List (List Reply)) → plan' ≡ plan
    → AreServed book shape refused plan' readers readers_then before_all after replies → AreServed book shape refused plan readers readers_then before_all after replies
served-as book shape refused plan plan' readers readers_then before_all after replies e got = subst (λ p. AreServed book shape refused p readers readers_then before_all after replies) e got

-- one line more
pub good-push : (book : Book) (shape : Widths) (plan : List PlanLine) (l : PlanLine) → AreGood book shape plan → IsGoodFor book shape l.planned → AreGood book shape (plan ++ l ∷ [])
good-push book shape plan l can good = record { each = All-push (λ (k : PlanLine). IsGoodFor book shape k.planned) plan l can.each good }

pub threads-push : (plan : List PlanLine) (l : PlanLine) → AreThreads plan → l.thread < 64 → AreThreads (plan ++ l ∷ [])
threads-push plan l can thread = record { each = All-push (λ (k : PlanLine). k.thread < 64) plan l can.each thread }
