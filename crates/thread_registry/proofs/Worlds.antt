-- What all threads got is what the world of the script says.
use Rattle.thread_registry.proofs.Words.{nat_tests, ◌≡◌, ℕ, zero, suc, ◌+◌, ◌<◌, ◌≤◌, Bool, false, List, [], ◌∷◌, All, length, map, replicate, get_or}
use Rattle.thread_registry.proofs.Words.{refl, sym, append-nil, ◌∙◌, ap, ap₂, subst, arith, Option, Some, None, Result, Ok, Err, OnOk, IfOk, inl, inr}
use Rattle.thread_registry.proofs.Words.{slice_get, is_err, get_or-map, get_or_past, length-map, get_or-map-range_with_len, cases_lt}
use Rattle.thread_registry.proofs.Words.{slice_get_within, Note, Begun, EachAdded, EachBegun, EachGrown, Coming, Dry, Book, Widths, Line, Reply}
use Rattle.thread_registry.proofs.Words.{Account, opening, notes_to, replies_to, Setting, calls_at, notes_of_thread, opening_accounts, opening_world}
use Rattle.thread_registry.proofs.Words.{Ahead, IsAhead, opens_by_thread, notes_by_thread, merges_to_world, ReaderView, coming, FaultsKept}
use Rattle.thread_registry.proofs.Words.{FaultsRose, IsFaultReply, fault_count, CanCome, kept_same, grown_same, PlanLine, ReplyLine, AreThreads}
use Rattle.thread_registry.proofs.Words.{planned_at, lines_by, AllKept, CanEachCome, IdleStay, IsPlannedAndTold, IsPlannedFrom, reply_lines}
use Rattle.thread_registry.proofs.Words.{world_told, AreServed, ServedAs}
use Rattle.thread_registry.specs.Runs as runs
use Rattle.thread_registry.proofs.Lists.{all-none}
use Rattle.thread_registry.proofs.Served.{some_coming, with_some}
use Rattle.thread_registry.proofs.Scripts.{lines-speak, lines-told, merged-same, planned-script, script-threads}

-- what a thread's reader tells
coming-at : (readers : List ReaderView) (streams : List Coming) → map (λ r. coming r) readers ≡ map (λ s. Some s) streams → (t : ℕ) (r : ReaderView) (s : Coming) → t < length readers → coming (get_or readers t r) ≡ Some (get_or streams t s)
coming-at readers streams e t r s h =
    let long : length streams ≡ length readers = omega (arith, ap length e, length-map readers (λ (v : ReaderView). coming v), length-map streams (λ (v : Coming). Some v)) in
    sym (get_or-map (λ (v : ReaderView). coming v) readers t r None h) ∙ (ap (λ l. get_or l t None) e ∙ get_or-map (λ (v : Coming). Some v) streams t s None (omega (arith, h, long)))

abbrev no_stream : Coming
no_stream = record { rest = []; mark = Dry }

-- the account with which a thread begins
abbrev opening_at : List Coming → ℕ → Account
opening_at streams t = opening t (get_or streams t no_stream).rest (get_or streams t no_stream).mark

-- the notes of a thread in the world
notes-at : (at : Setting) (script : List Line) (streams : List Coming) (t : ℕ) → t < 64
    → get_or (runs.notes_by_thread (world_told at script streams)) t [] ≡ notes_to at.book at.shape (opening_at streams t) (calls_at t script)
notes-at at script streams t h =
    get_or-map-range_with_len (λ k. notes_of_thread k (world_told at script streams)) 0 64 t t [] h (omega arith)
    ∙ notes_by_thread at (opening_world streams) script t (opening_at streams t) (opens_by_thread streams t h)

-- each thread got what it gets if these streams are to come
abbrev AllServedAs : Book → Widths → Bool → List PlanLine → List (List Note) → List (List Note) → List (List Reply) → List Coming → Type 0
AllServedAs book shape refused plan before after replies streams =
    (t : ℕ) → t < 64 → ServedAs book shape refused t (planned_at t plan) (get_or before t []) (get_or after t []) (get_or replies t []) (get_or streams t no_stream)

-- so it is if the readers tell them
told-as : (streams : List Coming) (book : Book) (shape : Widths) (plan : List PlanLine) (readers readers_then : List ReaderView) (before after : List (List Note)) (refused : Bool) (replies : List (List Reply))
    → length readers ≡ 64 → AreServed book shape refused plan readers readers_then before after replies
    → map (λ r. coming r) readers ≡ map (λ s. Some s) streams → AllServedAs book shape refused plan before after replies streams
told-as streams book shape plan readers readers_then before after refused replies rl got_all told t few =
    with_some readers (omega (arith, rl))
    (λ r.
    let got = got_all.each t r few in
    let is = coming-at readers streams told t r no_stream (omega (arith, few, rl)) in
    record { begun = got.begun (get_or streams t no_stream) is; done = λ z. got.done z (get_or streams t no_stream) is })

planned-from : (at : Setting) (script : List Line) (streams : List Coming) (book : Book) (shape : Widths) (plan : List PlanLine) (readers : List ReaderView) → IsPlannedAndTold at script streams book shape plan readers → IsPlannedFrom at script book shape plan
planned-from at script streams book shape plan readers tells = record { same_book = tells.same_book; same_shape = tells.same_shape; looked_up = tells.looked_up }

-- the notes of a thread in the world are those of its calls in the plan
given-at : (at : Setting) (script : List Line) (streams : List Coming) (book : Book) (shape : Widths) (plan : List PlanLine) (t : ℕ) → t < 64 → IsPlannedFrom at script book shape plan
    → get_or (runs.notes_by_thread (world_told at script streams)) t [] ≡ notes_to book shape (opening_at streams t) (planned_at t plan)
given-at at script streams book shape plan t few from =
    notes-at at script streams t few
    ∙ (ap₂ (λ (k : Book) (w : Widths). notes_to k w (opening_at streams t) (calls_at t script)) from.same_book from.same_shape
    ∙ ap (notes_to book shape (opening_at streams t)) (sym (planned-script at [] script plan from.looked_up.asks t)))

pub begun-as : (at : Setting) (script : List Line) (streams : List Coming) (book : Book) (shape : Widths) (plan : List PlanLine) (before after : List (List Note)) (refused : Bool) (replies : List (List Reply))
    → length before ≡ 64 → length after ≡ 64 → AllServedAs book shape refused plan before after replies streams
    → IsPlannedFrom at script book shape plan → EachBegun before (runs.notes_by_thread (world_told at script streams)) after
begun-as at script streams book shape plan before after refused replies e n got from =
    record {
      same_length = n ∙ sym e;
      begun =
          λ t h.
          let few : t < 64 = omega (arith, h, e) in
          subst (λ ns. Begun (get_or before t []) ns (get_or after t [])) (sym (given-at at script streams book shape plan t few from)) (got t few).begun;
    }

pub added-as : (at : Setting) (script : List Line) (streams : List Coming) (book : Book) (shape : Widths) (plan : List PlanLine) (before after : List (List Note)) (refused : Bool) (replies : List (List Reply))
    → length before ≡ 64 → length after ≡ 64 → AllServedAs book shape refused plan before after replies streams → refused ≡ false
    → IsPlannedFrom at script book shape plan → EachAdded before (runs.notes_by_thread (world_told at script streams)) after
added-as at script streams book shape plan before after refused replies e n got whole from = grind (arith, nat_tests, given-at)

pub begun-all : (at : Setting) (script : List Line) (streams : List Coming) (book : Book) (shape : Widths) (plan : List PlanLine) (readers readers_then : List ReaderView) (before after : List (List Note)) (refused : Bool) (replies : List (List Reply))
    → length readers ≡ 64 → length before ≡ 64 → AreServed book shape refused plan readers readers_then before after replies
    → IsPlannedAndTold at script streams book shape plan readers → EachBegun before (runs.notes_by_thread (world_told at script streams)) after
begun-all at script streams book shape plan readers readers_then before after refused replies rl e got_all tells =
    begun-as at script streams book shape plan before after refused replies e got_all.notes_len
    (told-as streams book shape plan readers readers_then before after refused replies rl got_all tells.streams_told) (planned-from at script streams book shape plan readers tells)

pub added-all : (at : Setting) (script : List Line) (streams : List Coming) (book : Book) (shape : Widths) (plan : List PlanLine) (readers readers_then : List ReaderView) (before after : List (List Note)) (refused : Bool) (replies : List (List Reply))
    → length readers ≡ 64 → length before ≡ 64 → AreServed book shape refused plan readers readers_then before after replies → refused ≡ false
    → IsPlannedAndTold at script streams book shape plan readers → EachAdded before (runs.notes_by_thread (world_told at script streams)) after
added-all at script streams book shape plan readers readers_then before after refused replies rl e got_all whole tells =
    added-as at script streams book shape plan before after refused replies e got_all.notes_len
    (told-as streams book shape plan readers readers_then before after refused replies rl got_all tells.streams_told) whole (planned-from at script streams book shape plan readers tells)

-- ---- the replies

opening-flags : (n t : ℕ) (streams : List Coming) → map (λ (a : Account). a.registered) (opening_accounts n t streams) ≡ replicate n false
opening-flags zero t streams = refl
opening-flags (suc n) t [] = ap (λ u. false ∷ u) (opening-flags n (t + 1) [])
opening-flags (suc n) t (s ∷ ss) = ap (λ u. false ∷ u) (opening-flags n (t + 1) ss)

opening-length : (n t : ℕ) (streams : List Coming) → length (opening_accounts n t streams) ≡ n
opening-length zero t streams = refl
opening-length (suc n) t [] = let h = opening-length n (t + 1) [] in omega (arith, h)
opening-length (suc n) t (s ∷ ss) = let h = opening-length n (t + 1) ss in omega (arith, h)

one-some : {X : Type 0} (x y : X) → Some x ≡ Some y → x ≡ y
one-some x y e = cc

pub lines-as : (at : Setting) (script : List Line) (streams : List Coming) (book : Book) (shape : Widths) (plan : List PlanLine) (before after : List (List Note)) (refused : Bool) (replies : List (List Reply))
    → length replies ≡ 64 → AllServedAs book shape refused plan before after replies streams → refused ≡ false → AreThreads plan
    → IsPlannedFrom at script book shape plan → lines_by (record { flags = replicate 64 false; replies = replies }) plan ≡ reply_lines plan (world_told at script streams)
lines-as at script streams book shape plan before after refused replies n got whole few from =
    let x : Ahead = record { flags = replicate 64 false; replies = replies } in
    let accounts = (opening_world streams).accounts in
    let long : length accounts ≡ 64 = opening-length 64 0 streams in
    let ahead : IsAhead at accounts script x =
    record {
      registered = sym (opening-flags 64 0 streams);
      same_length = n ∙ sym long;
      replies_each =
          λ t a is.
          let inside : t < 64 = omega (arith, slice_get_within accounts t a is, long) in
          let a_is : a ≡ opening_at streams t = one-some _ _ (sym is ∙ opens_by_thread streams t inside) in
          ((got t inside).done whole).1
          ∙ (ap (replies_to book shape (opening_at streams t)) (planned-script at [] script plan from.looked_up.asks t)
          ∙ (ap₂ (λ (k : Book) (w : Widths). replies_to k w (opening_at streams t) (calls_at t script)) (sym from.same_book) (sym from.same_shape)
          ∙ ap (λ v. replies_to at.book at.shape v (calls_at t script)) (sym a_is)));
    } in
    let small : All (λ l. l.thread < length accounts) script = subst (λ n. All (λ (l : Line). l.thread < n) script) (sym long) (script-threads at [] script plan from.looked_up.asks few.each) in
    lines-told plan x (world_told at script streams)
    (merged-same at [] script plan x from.looked_up.asks ∙ merges_to_world at (opening_world streams) script x small ahead)

pub lines-all : (at : Setting) (script : List Line) (streams : List Coming) (book : Book) (shape : Widths) (plan : List PlanLine) (readers readers_then : List ReaderView) (before after : List (List Note)) (refused : Bool) (replies : List (List Reply))
    → length readers ≡ 64 → length before ≡ 64 → AreServed book shape refused plan readers readers_then before after replies → refused ≡ false → AreThreads plan
    → IsPlannedAndTold at script streams book shape plan readers → lines_by (record { flags = replicate 64 false; replies = replies }) plan ≡ reply_lines plan (world_told at script streams)
lines-all at script streams book shape plan readers readers_then before after refused replies rl e got_all whole few tells =
    lines-as at script streams book shape plan before after refused replies got_all.replies_len
    (told-as streams book shape plan readers readers_then before after refused replies rl got_all tells.streams_told) whole few (planned-from at script streams book shape plan readers tells)

-- ---- if nothing is told

-- what stands at a place that is there
get_or-any : {X : Type 0} (xs : List X) (k : ℕ) (d e : X) → k < length xs → get_or xs k d ≡ get_or xs k e
get_or-any [] k d e h = absurd (omega (arith, h))
get_or-any (x ∷ xs) zero d e h = refl
get_or-any (x ∷ xs) (suc k) d e h = get_or-any xs k d e (omega (arith, h))

-- a list of what is there for each place
listed : (P : ℕ → Coming → Type 0) (n k : ℕ) → ((t : ℕ) → t < n → (c : Coming) × P (k + t) c) → (cs : List Coming) × (length cs ≡ n) × ((t : ℕ) → t < n → P (k + t) (get_or cs t no_stream))
listed P zero k each = ([], refl, λ t h. absurd (omega (arith, h)))
listed P (suc n) k each =
    let first = each 0 (omega arith) in
    let rest = listed P n (k + 1) (λ t h. subst (λ (j : ℕ). (c : Coming) × P j c) (let q : k + suc t ≡ k + 1 + t = omega arith in q) (each (suc t) (omega (arith, h)))) in (
      first.0 ∷ rest.0,
      ap suc rest.1,
      at first.0 first.1 rest.0 rest.2,
    ) where
      at : (c : Coming) → P (k + 0) c → (cs : List Coming) → ((t : ℕ) → t < n → P (k + 1 + t) (get_or cs t no_stream)) → (t : ℕ) → t < suc n → P (k + t) (get_or (c ∷ cs) t no_stream)
      at c p cs rest zero h = p
      at c p cs rest (suc t) h = subst (λ (j : ℕ). P j (get_or cs t no_stream)) (let q : k + 1 + t ≡ k + suc t = omega arith in q) (rest t (omega (arith, h)))

can-each-come : (readers : List ReaderView) (streams : List Coming) (r : ReaderView) → length readers ≡ 64 → length streams ≡ 64
    → ((t : ℕ) → t < 64 → CanCome (get_or readers t r) (get_or streams t no_stream)) → CanEachCome readers streams
can-each-come readers streams r rl sl each = grind (arith, nat_tests, get_or-any)

-- there are such streams, whatever is told
pub some-streams : (readers : List ReaderView) → length readers ≡ 64 → (streams : List Coming) × CanEachCome readers streams
some-streams readers rl =
    with_some readers (omega (arith, rl))
    (λ r.
    let all = listed (λ t c. CanCome (get_or readers t r) c) 64 0 (λ t h. some_coming (get_or readers (0 + t) r)) in
    (all.0, can-each-come readers all.0 r rl all.1 (λ t h. subst (λ (j : ℕ). CanCome (get_or readers j r) (get_or all.0 t no_stream)) (let q : 0 + t ≡ t = omega arith in q) (all.2 t h))))

-- there are streams that can come of the readers, with which each thread got what it gets
pub possible-streams : (book : Book) (shape : Widths) (plan : List PlanLine) (readers readers_then : List ReaderView) (before after : List (List Note)) (refused : Bool) (replies : List (List Reply))
    → length readers ≡ 64 → AreServed book shape refused plan readers readers_then before after replies
    → (streams : List Coming) × CanEachCome readers streams × AllServedAs book shape refused plan before after replies streams
possible-streams book shape plan readers readers_then before after refused replies rl got_all =
    with_some readers (omega (arith, rl))
    (λ r.
    let all = listed (λ t c. CanCome (get_or readers t r) c × ServedAs book shape refused t (planned_at t plan) (get_or before t []) (get_or after t []) (get_or replies t []) c) 64 0
    (λ t h. (let p = (got_all.each (0 + t) r (omega (arith, h))).possible in (p.0, (p.1, p.2)))) in
    let each : (t : ℕ) → t < 64 → CanCome (get_or readers t r) (get_or all.0 t no_stream) × ServedAs book shape refused t (planned_at t plan) (get_or before t []) (get_or after t []) (get_or replies t []) (get_or all.0 t no_stream) =
    λ t h. subst (λ (j : ℕ). CanCome (get_or readers j r) (get_or all.0 t no_stream) × ServedAs book shape refused j (planned_at j plan) (get_or before j []) (get_or after j []) (get_or replies j []) (get_or all.0 t no_stream)) (let q : 0 + t ≡ t = omega arith in q) (all.2 t h) in
    (all.0, can-each-come readers all.0 r rl all.1 (λ t h. (each t h).0), λ t h. (each t h).1))

-- ---- what is so whether or not anything is told

-- each thread has as many replies as calls
pub counts-all : (book : Book) (shape : Widths) (plan : List PlanLine) (readers readers_then : List ReaderView) (before after : List (List Note)) (refused : Bool) (replies : List (List Reply))
    → length readers ≡ 64 → AreServed book shape refused plan readers readers_then before after replies → refused ≡ false
    → (t : ℕ) → t < 64 → length (get_or replies t []) ≡ length (planned_at t plan)
counts-all book shape plan readers readers_then before after refused replies rl got whole t few = with_some readers (omega (arith, rl)) (λ r. (got.each t r few).counted whole)

-- no list loses notes
pub grown-all : (book : Book) (shape : Widths) (plan : List PlanLine) (readers readers_then : List ReaderView) (before after : List (List Note)) (refused : Bool) (replies : List (List Reply))
    → length readers ≡ 64 → length before ≡ 64 → AreServed book shape refused plan readers readers_then before after replies → EachGrown before after
grown-all book shape plan readers readers_then before after refused replies rl e got =
    record {
      same_length = got.notes_len ∙ sym e;
      grown = λ t h. with_some readers (omega (arith, rl)) (λ r. (got.each t r (omega (arith, h, e))).grown);
    }

same-at : {X : Type 0} (xs ys : List X) (t : ℕ) (d : X) → length xs ≡ length ys → (t < length xs → get_or xs t d ≡ get_or ys t d) → slice_get xs t ≡ slice_get ys t
same-at [] [] t d e same = refl
same-at [] (y ∷ ys) t d e same = absurd (omega (arith, e))
same-at (x ∷ xs) [] t d e same = absurd (omega (arith, e))
same-at (x ∷ xs) (y ∷ ys) zero d e same = ap (λ v. Some v) (same (omega arith))
same-at (x ∷ xs) (y ∷ ys) (suc t) d e same = same-at xs ys t d (omega (arith, e)) (λ h. same (omega (arith, h)))

-- a thread without calls is left alone
pub idle-all : (book : Book) (shape : Widths) (plan : List PlanLine) (readers readers_then : List ReaderView) (before after : List (List Note)) (refused : Bool) (replies : List (List Reply))
    → length readers ≡ 64 → length before ≡ 64 → AreServed book shape refused plan readers readers_then before after replies → IdleStay plan readers readers_then before after
idle-all book shape plan readers readers_then before after refused replies rl nl got =
    with_some readers (omega (arith, rl))
    (λ r.
    record {
      unread = λ t none. same-at readers_then readers t r (got.readers_len ∙ sym rl) (λ h. ((got.each t r (omega (arith, h, got.readers_len))).idle none).0);
      untold = λ t none. same-at after before t [] (got.notes_len ∙ sym nl) (λ h. ((got.each t r (omega (arith, h, got.notes_len))).idle none).1);
    })

abbrev counts : List ReaderView → List (Option ℕ)
counts readers = map (λ r. fault_count r) readers

-- the count of a thread's source, before and after
count-at : (readers : List ReaderView) (t : ℕ) (r : ReaderView) → t < length readers → get_or (counts readers) t None ≡ fault_count (get_or readers t r)
count-at readers t r h = get_or-map (λ (v : ReaderView). fault_count v) readers t r None h

no-count : (readers : List ReaderView) (t : ℕ) → length readers ≤ t → get_or (counts readers) t None ≡ None
no-count readers t h = get_or_past (counts readers) t None (omega (arith, h, length-map readers (λ (v : ReaderView). fault_count v)))

-- no count falls
pub kept-all : (book : Book) (shape : Widths) (plan : List PlanLine) (readers readers_then : List ReaderView) (before after : List (List Note)) (refused : Bool) (replies : List (List Reply))
    → length readers ≡ 64 → AreServed book shape refused plan readers readers_then before after replies → AllKept (counts readers) (counts readers_then)
kept-all book shape plan readers readers_then before after refused replies rl got =
    with_some readers (omega (arith, rl))
    (λ r.
    record {
      same_length = omega (arith, rl, got.readers_len, length-map readers (λ (v : ReaderView). fault_count v), length-map readers_then (λ (v : ReaderView). fault_count v));
      each =
          λ t.
          elim (cases_lt t 64) [
            | inl h ↦
                subst (λ v. FaultsKept v (get_or (counts readers_then) t None)) (sym (count-at readers t r (omega (arith, h, rl))))
                (subst (FaultsKept (fault_count (get_or readers t r))) (sym (count-at readers_then t r (omega (arith, h, got.readers_len)))) (got.each t r h).kept)
            | inr h ↦
                subst (λ v. FaultsKept v (get_or (counts readers_then) t None)) (sym (no-count readers t (omega (arith, h, rl))))
                (subst (FaultsKept None) (sym (no-count readers_then t (omega (arith, h, got.readers_len)))) tt)
          ];
    })

-- if a reply says that a source failed, its count rose
pub faulty-all : (book : Book) (shape : Widths) (plan : List PlanLine) (readers readers_then : List ReaderView) (before after : List (List Note)) (refused : Bool) (replies : List (List Reply))
    → length readers ≡ 64 → AreServed book shape refused plan readers readers_then before after replies → (lines : List ReplyLine) → lines ≡ lines_by (record { flags = replicate 64 false; replies = replies }) plan
    → All (λ l. IsFaultReply l.reply → FaultsRose (get_or (counts readers) l.thread None) (get_or (counts readers_then) l.thread None)) lines
faulty-all book shape plan readers readers_then before after refused replies rl got lines e =
    with_some readers (omega (arith, rl))
    (λ r.
    subst (All (λ (l : ReplyLine). IsFaultReply l.reply → FaultsRose (get_or (counts readers) l.thread None) (get_or (counts readers_then) l.thread None))) (sym e)
    (lines-speak (counts readers) (counts readers_then) plan (record { flags = replicate 64 false; replies = replies })
    (λ t.
    elim (cases_lt t 64) [
      | inl h ↦
          subst (λ v. All (λ z. IsFaultReply z → FaultsRose v (get_or (counts readers_then) t None)) (get_or replies t [])) (sym (count-at readers t r (omega (arith, h, rl))))
          (subst (λ v. All (λ z. IsFaultReply z → FaultsRose (fault_count (get_or readers t r)) v) (get_or replies t [])) (sym (count-at readers_then t r (omega (arith, h, got.readers_len)))) (got.each t r h).faulty)
      | inr h ↦
          subst (All (λ z. IsFaultReply z → FaultsRose (get_or (counts readers) t None) (get_or (counts readers_then) t None))) (sym (get_or_past replies t [] (omega (arith, h, got.replies_len))))
          (all-none (λ z. IsFaultReply z → FaultsRose (get_or (counts readers) t None) (get_or (counts readers_then) t None)))
    ])))

-- nothing was done
pub kept-none : (readers : List ReaderView) → AllKept (counts readers) (counts readers)
kept-none readers = grind (arith, nat_tests, kept_same)

pub begun-none : (lists given : List (List Note)) → EachBegun lists given lists
begun-none lists given = record { same_length = refl; begun = λ t h. (0, omega arith, sym (append-nil (get_or lists t []))) }

pub grown-none : (lists : List (List Note)) → EachGrown lists lists
grown-none lists = record { same_length = refl; grown = λ t h. grown_same (get_or lists t []) }

-- ---- by cases on the answer

pub on_ok : {T E G : Type 0} (r : Result T E) → (is_err r ≡ false → G) → OnOk r G
on_ok (Ok v) h = h refl
on_ok (Err e) h = tt

pub if_ok : {T E : Type 0} (r : Result T E) (P Q : T → Type 0) → IfOk r P → ((v : T) → is_err r ≡ false → P v → Q v) → IfOk r Q
if_ok (Ok v) P Q p h = h v refl p
if_ok (Err e) P Q p h = tt
