use Rattle.user_events.proofs.Words.{◌≡◌, ◌∙◌, true, List, map, sym, ap, subst, err_from_is_err_and, fields_of, is_given, not_given, Text, text_at}
use Rattle.user_events.proofs.Words.{derivation_of, Judges, event_judged, event_view, names_of, is_event_name, is_too_many, put_event, UserEvent}
use Rattle.user_events.proofs.TakingRow.{bad-name, event-refused, event-taken, name-printable, over-taken}
use Rattle.user_events.proofs.reading.take_event.Goals as goal
use Rattle.user_events.proofs.reading.take_event.Goals.{After-is_too_many}

name : (c : After-is_too_many) → is_event_name (text_at (fields_of c.args.row.now) 1) ≡ true
name c = ap is_event_name (sym c.text_at-name.ensures) ∙ sym c.is_event_name.ensures ∙ c.if-not-is_event_name.false

is : (c : After-is_too_many) → c.in-Some.name.now ≡ text_at (fields_of c.args.row.now) 1
is c = (is_given _ c.text_at-name.result.now c.in-Some.name.now c.in-Some.ensures).1 ∙ c.text_at-name.ensures

-- whether the event would be one too many
many : (c : After-is_too_many) → is_too_many (names_of (map event_view c.args.events.now.items)) (text_at (fields_of c.args.row.now) 1) ≡ c.is_too_many.result
many c = ap (is_too_many (names_of (map event_view c.args.events.now.items))) (sym (is c))
    ∙ ap (λ (xs : List UserEvent). is_too_many (names_of (map event_view xs)) c.in-Some.name.now) (sym c.as_slice.ensures.value) ∙ sym c.is_too_many.ensures

pub returns-then-not-is_event_name : goal.returns-then-not-is_event_name
returns-then-not-is_event_name c =
    bad-name (fields_of c.args.row.now) c.args.holds (names_of (map event_view c.args.events.now.items)) c.if-not-holds.false
    (ap is_event_name (sym c.text_at-name.ensures) ∙ sym c.is_event_name.ensures ∙ c.if-not-is_event_name.true)

pub returns-in_default : goal.returns-in_default
returns-in_default c =
    cc (not_given _ c.text_at-name.result.now c.in_default.ensures, name-printable c.text_at-name.result.now (sym c.is_event_name.ensures ∙ c.if-not-is_event_name.false))

pub returns-then-is_too_many : goal.returns-then-is_too_many
returns-then-is_too_many c =
    let w = (goal.at.returns-then-is_too_many c).After-is_too_many in
    over-taken (fields_of c.args.row.now) c.args.holds (map event_view c.args.events.now.items) c.judge-judged.result c.over_limit.result c.if-not-holds.false (name w) (many w ∙ c.if-is_too_many.true)
    c.judge-judged.ensures c.over_limit.ensures

pub returns-in_err-judged : goal.returns-in_err-judged
returns-in_err-judged c =
    let w = (goal.at.returns-in_err-judged c).After-is_too_many in
    let p = err_from_is_err_and c.from_residual.result c.from_residual.ensures.1 in
    let refused = subst (Judges (event_judged (derivation_of (fields_of c.args.row.now)))) c.in_err-judged.was c.judge-judged.ensures in
    rw (p.1, p.2) (event-refused (fields_of c.args.row.now) c.args.holds (map event_view c.args.events.now.items) c.in_err-judged.field-0.0 c.if-not-holds.false (name w) (many w ∙ c.if-is_too_many.false) refused)

pub returns : goal.returns
returns c =
    let w = (goal.at.returns c).After-is_too_many in
    let items = c.args.events.now.items in
    let entry = subst (Judges (event_judged (derivation_of (fields_of c.args.row.now)))) c.in_ok-judged.was c.judge-judged.ensures in
    event-taken (fields_of c.args.row.now) c.args.holds (map event_view items) (map event_view c.put_event.new.events.items) c.in_ok-judged.field-0 c.if-not-holds.false (name w)
    (many w ∙ c.if-is_too_many.false) entry (c.in_ok-put_event.ensures ∙ ap (λ (n : Text). put_event (map event_view items) n c.in_ok-judged.field-0) (is w))
