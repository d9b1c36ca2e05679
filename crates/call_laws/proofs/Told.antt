-- What is told of lines and then of further ones, and of lines whose replies show no values.
use Rattle.call_laws.proofs.Words.{◌≡◌, ℕ, Bool, true, false, List, [], ◌∷◌, ◌++◌, map, refl, sym, ◌∙◌, ap, ap₂, append_assoc, Option, Some, None, Ok}
use Rattle.call_laws.proofs.Words.{⊤, if◌then◌else◌, flat_map, EventRef, Book, Widths, Refusal, has_lines, RegionLine, Call, Plain, Line, Account}
use Rattle.call_laws.proofs.Words.{StepOutcome, account_refusal, performed, step, unless, Setting, World, account_at, told, turn_of, world_after}
use Rattle.call_laws.proofs.Words.{world_after_line, line_of, opening_calls, opening_lines, readings_told, values_in}
use Rattle.call_type.specs.declared.call.Call.TheVariants as call

pub told_append : (at : Setting) (w : World) (xs ys : List Line)
    → readings_told (told at w (xs ++ ys)) ≡ readings_told (told at w xs) ++ readings_told (told at (world_after at w xs) ys)
told_append at w [] ys = refl
told_append at w (x ∷ xs) ys =
    ap (λ rs. values_in (turn_of at w x).reply.body ++ rs) (told_append at (world_after_line at w x) xs ys)
    ∙ sym (append_assoc (values_in (turn_of at w x).reply.body) _ _)

-- ---- calls whose replies show no values

abbrev IsQuiet : Call → Type 0
IsQuiet call.Create = ⊤
IsQuiet (call.Add k e) = ⊤
IsQuiet (call.Start k) = ⊤
IsQuiet other = ⊥

abbrev AreQuiet : List Call → Type 0
AreQuiet [] = ⊤
AreQuiet (c ∷ cs) = IsQuiet c × AreQuiet cs

quiet_unless : (o : Option Refusal) (a : Account) (made : StepOutcome) → values_in made.reply.body ≡ [] → values_in (unless o a made).reply.body ≡ []
quiet_unless None a made e = e
quiet_unless (Some (Plain c)) a made e = refl
quiet_unless o a made e = refl

no_values : (book : Book) (shape : Widths) (a : Account) (c : Call) → IsQuiet c → values_in (step book shape a c).reply.body ≡ []
no_values book shape a call.Create h = quiet_unless (account_refusal book shape a call.Create) a (performed book shape a call.Create) refl
no_values book shape a (call.Add k e) h = quiet_unless (account_refusal book shape a (call.Add k e)) a (performed book shape a (call.Add k e)) refl
no_values book shape a (call.Start k) h = quiet_unless (account_refusal book shape a (call.Start k)) a (performed book shape a (call.Start k)) refl
no_values book shape a other h = absurd h

quiet_lines : (at : Setting) (w : World) (t : ℕ) (cs : List Call) → AreQuiet cs → readings_told (told at w (map (line_of t) cs)) ≡ []
quiet_lines at w t [] h = refl
quiet_lines at w t (c ∷ cs) h =
    ap₂ (λ xs ys. xs ++ ys) (no_values at.book at.shape (account_at w.accounts t) c h.0) (quiet_lines at (world_after_line at w (line_of t c)) t cs h.1)

adds_quiet : (events : List EventRef) → AreQuiet (map (λ e. call.Add 0 (Ok e)) events ++ call.Start 0 ∷ [])
adds_quiet [] = (tt, tt)
adds_quiet (e ∷ events) = (tt, adds_quiet events)

quiet_opening : (at : Setting) (w : World) (t : ℕ) (events : List EventRef) (b : Bool)
    → readings_told (told at w (if b then map (line_of t) (opening_calls events) else [])) ≡ []
quiet_opening at w t events true = quiet_lines at w t (opening_calls events) (tt, adds_quiet events)
quiet_opening at w t events false = refl

-- no thread's opening shows values
pub quiet_openings : (at : Setting) (w : World) (lines : List RegionLine) (events : List EventRef) (ts : List ℕ)
    → readings_told (told at w (flat_map (opening_lines lines events) ts)) ≡ []
quiet_openings at w lines events [] = refl
quiet_openings at w lines events (t ∷ ts) =
    told_append at w (opening_lines lines events t) (flat_map (opening_lines lines events) ts)
    ∙ ap₂ (λ xs ys. xs ++ ys) (quiet_opening at w t events (has_lines lines t))
    (quiet_openings at (world_after at w (opening_lines lines events t)) lines events ts)
