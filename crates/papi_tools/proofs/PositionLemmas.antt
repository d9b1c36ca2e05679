-- What was read at the lines of a region script is what the positions of the threads' streams give.
use Rattle.papi_tools.proofs.Words.{◌≡◌, ◌∙◌, ◌<◌, ◌≤◌, ◌++◌, ◌∷◌, ℕ, true, false, List, [], All, length, map, Option, None, Some, Result, Ok, Err}
use Rattle.papi_tools.proofs.Words.{refl, sym, ap, ap₂, arith, subst, is_ok, Code, EventRef, given_set, taken_unless, with_named, with_text}
use Rattle.papi_tools.proofs.Words.{with_texts, CatalogView, looked_up, add_refusal, AtRest, new_set, with_event, AreBegun, LooksUp, ScriptIsLookedUp}
use Rattle.papi_tools.proofs.Words.{AllFit, SpansByPosition, region_spans, spans_from, ScriptLine, asked_of, line_of, lines_of, reply_lines_of}
use Rattle.papi_tools.proofs.Words.{setting_of, Asked, LineTold, Setting, World, opening_world, told, turn_of, world_after_line, GivenRegions}
use Rattle.papi_tools.proofs.Words.{calls_of, events_named, named_by, readings_in, values_in, ran_replies}
use Rattle.tool_output.specs.Choosing as Choosing
use Rattle.event_sets.specs.declared.refusal.Refusal.{Refusal}
use Rattle.call_laws.specs.Readings.{TakesAll, readings_told, script_of}
use Rattle.region_report.specs.CallLines.{asked, numbered}
use Rattle.call_type.specs.declared.call.Call.TheVariants as call
use Rattle.call_type.specs.declared.call.Asked.TheVariants as line

-- ---- the events

ends_refused : (catalog : CatalogView) (r : Choosing.RefusedText) (texts : List (List ℕ)) → with_texts catalog (Err r) texts ≡ Err r
unfolding with_texts
ends_refused catalog r [] = refl
ends_refused catalog r (text ∷ texts) = ends_refused catalog r texts

one_text : (catalog : CatalogView) (given : Choosing.GivenSet) (text : List ℕ) (texts : List (List ℕ)) → with_texts catalog given (text ∷ texts) ≡ with_texts catalog (with_text catalog given text) texts
unfolding with_texts
one_text catalog given text texts = refl

-- an event is added to the set
abbrev added : Result EventRef Code → Asked
added e = line.Call (call.Add 0 e)

-- the texts name events, which a set takes one after another
record AreTaken (catalog : CatalogView) (s : AtRest) (texts : List (List ℕ)) : Type 0 where
  takes : TakesAll catalog.book s (events_named catalog texts)
  named : map (λ text. added (looked_up catalog text)) texts ≡ map (λ e. added (Ok e)) (events_named catalog texts)
  long : length (events_named catalog texts) ≡ length texts

one_named : (catalog : CatalogView) (text : List ℕ) (texts : List (List ℕ)) (e : EventRef) → looked_up catalog text ≡ Ok e → events_named catalog (text ∷ texts) ≡ e ∷ events_named catalog texts
one_named catalog text texts e is = ap (λ r. named_by r ++ events_named catalog texts) is

taken_more : (catalog : CatalogView) (s : AtRest) (text : List ℕ) (texts : List (List ℕ)) (e : EventRef) → looked_up catalog text ≡ Ok e → add_refusal catalog.book e s ≡ None → AreTaken catalog (with_event catalog.book e s) texts →
    AreTaken catalog s (text ∷ texts)
taken_more catalog s text texts e is none more = record {
  takes = subst (TakesAll catalog.book s) (sym (one_named catalog text texts e is)) (none, more.takes);
  named = ap₂ (λ r rs. added r ∷ rs) is more.named ∙ ap (map (λ e. added (Ok e))) (sym (one_named catalog text texts e is));
  long = let same = ap (λ (es : List EventRef). length es) (one_named catalog text texts e is) in omega (arith, same, more.long);
}

not_refused : (catalog : CatalogView) (r : Choosing.RefusedText) (texts : List (List ℕ)) → is_ok (with_texts catalog (Err r) texts) ≡ true → ⊥
not_refused catalog r texts h = let e : false ≡ true = ap is_ok (sym (ends_refused catalog r texts)) ∙ h in absurd cc

are_taken : (catalog : CatalogView) (s : AtRest) (texts : List (List ℕ)) → is_ok (with_texts catalog (Ok s) texts) ≡ true → AreTaken catalog s texts
are_taken catalog s [] h = record { takes = tt; named = refl; long = refl }
are_taken catalog s (text ∷ texts) h = by_name (looked_up catalog text) refl (rw (one_text catalog (Ok s) text texts) at h) (λ e. are_taken catalog (with_event catalog.book e s) texts)
  where
    by_refusal : (e : EventRef) (refusal : Option Refusal) → looked_up catalog text ≡ Ok e → add_refusal catalog.book e s ≡ refusal →
        is_ok (with_texts catalog (taken_unless refusal text (with_event catalog.book e s)) texts) ≡ true →
        (is_ok (with_texts catalog (Ok (with_event catalog.book e s)) texts) ≡ true → AreTaken catalog (with_event catalog.book e s) texts) → AreTaken catalog s (text ∷ texts)
    by_refusal e None is none k next = taken_more catalog s text texts e is none (next k)
    by_refusal e (Some refusal) is some k next = absurd (not_refused catalog (record { text = text; refusal = refusal }) texts k)

    by_name : (r : Result EventRef Code) → looked_up catalog text ≡ r → is_ok (with_texts catalog (with_named catalog text s r) texts) ≡ true →
        ((e : EventRef) → is_ok (with_texts catalog (Ok (with_event catalog.book e s)) texts) ≡ true → AreTaken catalog (with_event catalog.book e s) texts) → AreTaken catalog s (text ∷ texts)
    by_name (Ok e) is k next = by_refusal e (add_refusal catalog.book e s) is refl k (next e)
    by_name (Err code) is k next = absurd (not_refused catalog _ texts k)

-- the calls of the script, looked up
looks_up : (catalog : CatalogView) (s : AtRest) (texts : List (List ℕ)) → AreTaken catalog s texts → LooksUp (asked_of catalog) texts (events_named catalog texts)
looks_up catalog s texts t = record { create = refl; add = t.named; start = refl; read = refl; run = λ n. refl }

-- ---- what was read

one_reply : (l : ScriptLine) (ls : List ScriptLine) (x : LineTold) (xs : List LineTold) → readings_in (reply_lines_of (l ∷ ls) (x ∷ xs)) ≡ values_in x.reply.body ++ readings_in (reply_lines_of ls xs)
unfolding reply_lines_of
one_reply l ls x xs = refl

no_reply : (xs : List LineTold) → readings_in (reply_lines_of [] xs) ≡ []
unfolding reply_lines_of
no_reply xs = refl

same_readings : (at : Setting) (catalog : CatalogView) (w : World) (ls : List ScriptLine) → readings_in (reply_lines_of ls (told at w (map (line_of catalog) ls))) ≡ readings_told (told at w (map (line_of catalog) ls))
same_readings at catalog w [] = no_reply []
same_readings at catalog w (l ∷ ls) =
    let here = line_of catalog l in
    one_reply l ls _ (told at (world_after_line at w here) (map (line_of catalog) ls))
    ∙ ap (λ rs. values_in (turn_of at w here).reply.body ++ rs) (same_readings at catalog (world_after_line at w here) ls)

-- the readings of a run are those of the script with the events
readings_of_run : ScriptIsLookedUp → (texts : List (List ℕ)) (given : GivenRegions) (events : List EventRef) → LooksUp (asked_of given.catalog) texts events →
    readings_in (ran_replies (calls_of texts given)) ≡ readings_told (told (setting_of given.catalog) (opening_world given.streams) (script_of given.script events))
unfolding ran_replies lines_of
readings_of_run law texts given events looks =
    same_readings (setting_of given.catalog) given.catalog (opening_world given.streams) (numbered 1 (asked given.script texts))
    ∙ ap (λ ls. readings_told (told (setting_of given.catalog) (opening_world given.streams) ls)) (law (asked_of given.catalog) given.script texts events looks)

-- what was read shows what regions count by positions
pub by_position : ScriptIsLookedUp → SpansByPosition → (texts : List (List ℕ)) (given : GivenRegions) → All (λ l. l.thread < 64) given.script → AreBegun given.script → 1 ≤ length texts →
    is_ok (given_set given.catalog texts) ≡ true → AllFit (readings_in (ran_replies (calls_of texts given))) →
    spans_from (readings_in (ran_replies (calls_of texts given))) 0 given.script ≡ region_spans given.catalog.book given.streams (events_named given.catalog texts) given.script
by_position script_law span_law texts given threads begun some taken fit =
    let t = are_taken given.catalog new_set texts taken in
    let same = readings_of_run script_law texts given (events_named given.catalog texts) (looks_up given.catalog new_set texts t) in
    rw same (span_law (setting_of given.catalog) given.streams given.script (events_named given.catalog texts) threads begun (omega (arith, t.long, some)) t.takes (rw same at fit))
