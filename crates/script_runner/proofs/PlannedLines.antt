-- The plan of a script's lines, and the native events that they mention.
use Rattle.script_runner.proofs.Words.{◌≡◌, ◌∙◌, ◌<◌, ◌≤◌, ◌+◌, ◌∷◌, ◌++◌, ℕ, Bool, true, false, List, [], length, map, refl, ap, ap₂, sym, subst}
use Rattle.script_runner.proofs.Words.{arith, append_assoc, length-append, take, drop, get_or, append-nil, map-append, take-append-drop, take_all}
use Rattle.script_runner.proofs.Words.{take_more, flat_map-append, All-push, flat_map, All, Ok, if◌then◌else◌, CatalogView, looked_up, shape_of}
use Rattle.script_runner.proofs.Words.{call_with, name_of, name_of_call, CallName, THREADS, Native, PlanLine, ReplyLine, Ask, IsGoodFor, IsPlanOf}
use Rattle.script_runner.proofs.Words.{Planned, ask_of, asks_from, planned_by, reply_lines, among, joined_by, joined-append, Written, ScriptLine}
use Rattle.script_runner.proofs.Words.{AreFirstOf, IsGoodAsk, asked_of, line_of, lines_of, mentioned_in, reply_lines_of, setting_of, Asked, Call}
use Rattle.script_runner.proofs.Words.{Line, LineTold, Setting, mentioned_after, mentions_of, mentions_of_call, firsts, others}
use Rattle.call_type.specs.declared.call.Call.{Call as CallOf}
use Rattle.papi_base.specs.declared.native.EventRef.TheVariants as event
use Rattle.call_type.specs.declared.call.Call.TheVariants as call
use Rattle.call_type.specs.declared.call.Asked.TheVariants as asked

-- ---- native events that join others

next-few : (b : Bool) (n : Native) (seen : List Native) → length (if b then seen else seen ++ n ∷ []) ≤ length seen + 1
next-few true n seen = omega arith
next-few false n seen = omega (arith, length-append seen (n ∷ []))

joined-few : (seen more : List Native) → length (joined_by seen more) ≤ length seen + length more
joined-few seen [] = omega arith
joined-few seen (n ∷ more) = omega (arith, joined-few (if among n seen then seen else seen ++ n ∷ []) more, next-few (among n seen) n seen)

next-begun : (b : Bool) (n : Native) (seen all : List Native) → AreFirstOf all (if b then seen else seen ++ n ∷ []) → AreFirstOf all seen
next-begun true n seen all h = h
next-begun false n seen all (others, e) = (n ∷ others, e ∙ append_assoc seen (n ∷ []) others)

joined-begun : (seen more : List Native) → AreFirstOf (joined_by seen more) seen
joined-begun seen [] = ([], sym (append-nil seen))
joined-begun seen (n ∷ more) = let next = if among n seen then seen else seen ++ n ∷ [] in next-begun (among n seen) n seen (joined_by next more) (joined-begun next more)

-- ---- what a line mentions

call-few : (c : Call) → length (mentions_of_call c) ≤ 1
call-few (call.Add k (Ok (event.Native n))) = omega arith
call-few (call.Remove k (Ok (event.Native n))) = omega arith
call-few (call.Overflow k (Ok (event.Native n)) t) = omega arith
call-few c = omega arith

mentions-few : (a : Asked) → length (mentions_of a) ≤ 1
mentions-few (asked.Call c) = call-few c
mentions-few (asked.CodeOf (Ok (event.Native n))) = omega arith
mentions-few a = omega arith

pub mentioned-more : (catalog : CatalogView) (done : List ScriptLine) (l : ScriptLine)
    → mentioned_in (map (line_of catalog) (done ++ l ∷ [])) ≡ joined_by (mentioned_in (map (line_of catalog) done)) (mentions_of (asked_of catalog l.call))
mentioned-more catalog done l =
    let f : Line → List Native = λ k. mentions_of k.asked in
    let lines = map (line_of catalog) done in
    let one = mentions_of (asked_of catalog l.call) in
    ap (λ ks. joined_by [] (flat_map f ks)) (map-append (line_of catalog) done (l ∷ [])) ∙ ap (joined_by []) (flat_map-append f lines (line_of catalog l ∷ []) ∙ ap (λ ns. flat_map f lines ++ ns) (append-nil one))
    ∙ joined-append [] (flat_map f lines) one

mentioned-begun : (first others : List Line) → AreFirstOf (mentioned_in (first ++ others)) (mentioned_in first)
mentioned-begun first others =
    let f : Line → List Native = λ k. mentions_of k.asked in
    subst (λ all. AreFirstOf all (mentioned_in first)) (sym (ap (joined_by []) (flat_map-append f first others) ∙ joined-append [] (flat_map f first) (flat_map f others)))
    (joined-begun (mentioned_in first) (flat_map f others))

-- the first lines mention some of the first
pub begun-at : (catalog : CatalogView) (ls : List ScriptLine) (i : ℕ) → AreFirstOf (mentioned_in (lines_of catalog ls)) (mentioned_in (map (line_of catalog) (take i ls)))
unfolding lines_of
begun-at catalog ls i =
    subst (λ ks. AreFirstOf (mentioned_in ks) (mentioned_in (map (line_of catalog) (take i ls))))
    (sym (map-append (line_of catalog) (take i ls) (drop i ls)) ∙ ap (map (line_of catalog)) (take-append-drop i ls))
    (mentioned-begun (map (line_of catalog) (take i ls)) (map (line_of catalog) (drop i ls)))

-- ---- what a line asks for

asks-append : (at : Setting) (mentioned : List Native) (ls : List Line) (l : Line)
    → asks_from at mentioned (ls ++ l ∷ [])
    ≡ asks_from at mentioned ls ++ record { thread = l.thread; planned = planned_by at (mentioned_after (joined_by mentioned (flat_map (λ k. mentions_of k.asked) ls)) l) l.asked } ∷ []
asks-append at mentioned [] l = refl
asks-append at mentioned (k ∷ ls) l =
    let next = mentioned_after mentioned k in
    ap (λ (asks : List Ask). record { thread = k.thread; planned = planned_by at next k.asked } ∷ asks) (asks-append at next ls l
    ∙ ap (λ (ns : List Native). asks_from at next ls ++ record { thread = l.thread; planned = planned_by at (mentioned_after ns l) l.asked } ∷ [])
    (sym (joined-append mentioned (mentions_of k.asked) (flat_map (λ k. mentions_of k.asked) ls))))

good-planned : (catalog : CatalogView) (at : Setting) (mentioned : List Native) (a : Asked) → IsGoodAsk catalog a → IsGoodFor catalog.book (shape_of catalog.tables) (planned_by at mentioned a)
good-planned catalog at mentioned (asked.Call c) good = good
good-planned catalog at mentioned (asked.CodeOf (Ok (event.Native n))) good = tt
good-planned catalog at mentioned a good = tt

-- ---- the name of its call

name-call : {E F : Type 0} (f : E → F) (c : CallOf E) → name_of_call (call_with f c) ≡ name_of_call c
name-call f call.Register = refl
name-call f c = refl

name-asked : (catalog : CatalogView) (w : Written) → name_of (asked_of catalog w) ≡ name_of w
name-asked catalog (asked.Call c) = name-call (looked_up catalog) c
name-asked catalog w = refl

name-planned : (at : Setting) (mentioned : List Native) (a : Asked) → name_of (planned_by at mentioned a) ≡ name_of a
name-planned at mentioned (asked.Call c) = refl
name-planned at mentioned (asked.CodeOf (Ok (event.Native n))) = refl
name-planned at mentioned a = refl

-- ---- the loop over the lines

-- a line's number, its thread and its call's name
pub record Head : Type 0 where
  pub line : ℕ
  pub thread : ℕ
  pub word : CallName

abbrev pub head_planned : PlanLine → Head
head_planned p = record { line = p.number; thread = p.thread; word = name_of p.planned }

abbrev pub head_of : ScriptLine → Head
head_of l = record { line = l.line; thread = l.thread; word = name_of l.call }

abbrev pub IsGoodLine : CatalogView → PlanLine → Type 0
IsGoodLine catalog p = IsGoodFor catalog.book (shape_of catalog.tables) p.planned

-- what a loop over the lines keeps: the lines so far are planned, and their mentions have codes
pub record IsPlanned (catalog : CatalogView) (done : List ScriptLine) (plan : List PlanLine) (codes : List Native) : Type 0 where
  pub asks : map ask_of plan ≡ asks_from (setting_of catalog) [] (map (line_of catalog) done)
  pub heads : map head_planned plan ≡ map head_of done
  pub good : All (IsGoodLine catalog) plan
  pub threads : All (λ p. p.thread < THREADS) plan
  pub mentioned : codes ≡ mentioned_in (map (line_of catalog) done)
  pub few : length codes ≤ length done

pub planned-more : (catalog : CatalogView) (done : List ScriptLine) (l : ScriptLine) (plan : List PlanLine) (asked : Asked) (planned : Planned) (codes codes' : List Native)
    → l.thread < THREADS → asked ≡ asked_of catalog l.call → IsGoodAsk catalog asked → codes' ≡ joined_by codes (mentions_of asked) → planned ≡ planned_by (setting_of catalog) codes' asked
    → IsPlanned catalog done plan codes → IsPlanned catalog (done ++ l ∷ []) (plan ++ record { number = l.line; thread = l.thread; planned = planned } ∷ []) codes'
planned-more catalog done l plan asked planned codes codes' thread is good joined looked so_far =
    let at = setting_of catalog in
    let p : PlanLine = record { number = l.line; thread = l.thread; planned = planned } in
    let lines = map (line_of catalog) done in
    let joined' : codes' ≡ joined_by (mentioned_in lines) (mentions_of (asked_of catalog l.call)) = joined ∙ ap₂ (λ ns a. joined_by ns (mentions_of a)) so_far.mentioned is in
    let looked' : planned ≡ planned_by at (joined_by (mentioned_in lines) (mentions_of (asked_of catalog l.call))) (asked_of catalog l.call) = looked ∙ ap₂ (planned_by at) joined' is in
    let named : name_of planned ≡ name_of l.call = ap name_of looked ∙ name-planned at codes' asked ∙ ap name_of is ∙ name-asked catalog l.call in record {
      asks = map-append ask_of plan (p ∷ []) ∙ ap₂ (λ (asks : List Ask) (q : Planned). asks ++ record { thread = l.thread; planned = q } ∷ []) so_far.asks looked'
          ∙ sym (asks-append at [] lines (line_of catalog l)) ∙ ap (asks_from at []) (sym (map-append (line_of catalog) done (l ∷ [])));
      heads = map-append head_planned plan (p ∷ []) ∙ ap₂ (λ (hs : List Head) (w : CallName). hs ++ record { line = l.line; thread = l.thread; word = w } ∷ []) so_far.heads named ∙ sym (map-append head_of done (l ∷ []));
      good = All-push (IsGoodLine catalog) plan p so_far.good (subst (IsGoodFor catalog.book (shape_of catalog.tables)) (sym looked) (good-planned catalog at codes' asked good));
      threads = All-push (λ q. q.thread < THREADS) plan p so_far.threads thread;
      mentioned = joined' ∙ sym (mentioned-more catalog done l);
      few = omega (arith, so_far.few, ap length joined, joined-few codes (mentions_of asked), mentions-few asked, length-append done (l ∷ []));
    }

-- ---- the lines of a script, of which this is the next

next-done : (items : List ScriptLine) (i : ℕ) (l : ScriptLine) → i < length items → l ≡ get_or items i l → take (i + 1) items ≡ take i items ++ l ∷ []
next-done items i l h e = take_more items i l h ∙ ap (λ k. take i items ++ k ∷ []) (sym e)

thread-at : (items script : List ScriptLine) (i : ℕ) (l : ScriptLine) → i < length items → l ≡ get_or items i l → items ≡ script → All (λ k. k.thread < THREADS) script → l.thread < THREADS
thread-at items script i l h e same all = subst (λ k. k.thread < THREADS) (sym e) (subst (All (λ k. k.thread < THREADS)) (sym same) all i l h)

pub planned-next : (catalog : CatalogView) (items script : List ScriptLine) (i : ℕ) (l : ScriptLine) (plan plan' : List PlanLine) (asked : Asked) (planned : Planned) (codes codes' : List Native)
    → i < length items → l ≡ get_or items i l → items ≡ script → All (λ k. k.thread < THREADS) script
    → asked ≡ asked_of catalog l.call → IsGoodAsk catalog asked → codes' ≡ joined_by codes (mentions_of asked) → planned ≡ planned_by (setting_of catalog) codes' asked
    → plan' ≡ plan ++ record { number = l.line; thread = l.thread; planned = planned } ∷ []
    → IsPlanned catalog (take i items) plan codes → IsPlanned catalog (take (i + 1) items) plan' codes'
planned-next catalog items script i l plan plan' asked planned codes codes' h e same all is good joined looked pushed so_far =
    subst (λ done. IsPlanned catalog done plan' codes') (sym (next-done items i l h e)) (subst (λ p. IsPlanned catalog (take i items ++ l ∷ []) p codes') (sym pushed)
    (planned-more catalog (take i items) l plan asked planned codes codes' (thread-at items script i l h e same all) is good joined looked so_far))

-- some of the first mentions have codes, if a line's own mention has none yet
pub begun-before : (catalog : CatalogView) (items script : List ScriptLine) (i : ℕ) (codes : List Native) → items ≡ script → codes ≡ mentioned_in (map (line_of catalog) (take i items)) → AreFirstOf (mentioned_in (lines_of catalog script)) codes
begun-before catalog items script i codes same is =
    subst (λ ls. AreFirstOf (mentioned_in (lines_of catalog ls)) codes) same (subst (AreFirstOf (mentioned_in (lines_of catalog items))) (sym is) (begun-at catalog items i))

-- ---- the whole plan

pub planned-all : (catalog : CatalogView) (items script : List ScriptLine) (i : ℕ) (plan plan' : List PlanLine) (codes : List Native) → length items ≤ i → items ≡ script → plan' ≡ plan
    → IsPlanned catalog (take i items) plan codes → IsPlanned catalog script plan' codes
planned-all catalog items script i plan plan' codes past same is so_far =
    subst (λ done. IsPlanned catalog done plan' codes) (take_all i items past ∙ same) (subst (λ p. IsPlanned catalog (take i items) p codes) (sym is) so_far)

pub plan-asks : (catalog : CatalogView) (ls : List ScriptLine) (plan : List PlanLine) (codes : List Native) → IsPlanned catalog ls plan codes → IsPlanOf (setting_of catalog) (lines_of catalog ls) plan
unfolding lines_of
plan-asks catalog ls plan codes whole = record { asks = whole.asks }

heads-each : (ls : List ScriptLine) (plan : List PlanLine) → map head_planned plan ≡ map head_of ls → (told : List LineTold) → reply_lines plan told ≡ reply_lines_of ls told
unfolding reply_lines_of
heads-each [] [] e told = refl
heads-each [] (p ∷ ps) e told = absurd (omega (arith, ap length e))
heads-each (l ∷ ls) [] e told = absurd (omega (arith, ap length e))
heads-each (l ∷ ls) (p ∷ ps) e [] = refl
heads-each (l ∷ ls) (p ∷ ps) e (x ∷ xs) =
    ap₂ (λ (h : Head) (rest : List ReplyLine). record { line = h.line; thread = h.thread; word = h.word; reply = x.reply } ∷ rest) (firsts _ _ _ _ e) (heads-each ls ps (others _ _ _ _ e) xs)

pub plan-heads : (catalog : CatalogView) (ls : List ScriptLine) (plan : List PlanLine) (codes : List Native) → IsPlanned catalog ls plan codes → (told : List LineTold) → reply_lines plan told ≡ reply_lines_of ls told
plan-heads catalog ls plan codes whole = heads-each ls plan whole.heads

pub plan-codes : (catalog : CatalogView) (ls : List ScriptLine) (plan : List PlanLine) (codes : List Native) → IsPlanned catalog ls plan codes → codes ≡ mentioned_in (lines_of catalog ls)
unfolding lines_of
plan-codes catalog ls plan codes whole = whole.mentioned

pub begun-none : (natives codes : List Native) → codes ≡ [] → AreFirstOf natives codes
begun-none natives codes e = (natives, ap (λ ns. ns ++ natives) (sym e))

pub all-begun : (natives codes : List Native) → codes ≡ natives → AreFirstOf natives codes
all-begun natives codes e = ([], sym e ∙ sym (append-nil codes))
