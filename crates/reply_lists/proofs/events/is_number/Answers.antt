use Rattle.std.proofs.Common.{rules, ◌≡◌, ◌<◌, ◌∙◌, Some, ap, get_or, length, refl, sym}
use Rattle.std.proofs.lemmas.Option.{slice_get_read}
use Rattle.postfix_rules.proofs.AllFields.{events_same}
use Rattle.postfix_rules.proofs.Equal.{event_is}
use Rattle.reply_lists.proofs.events.is_number.Goals as goal

pub returns-in-Some : goal.returns-in-Some
returns-in-Some c =
    λ same.
    let inside : c.args.number < length c.args.known.now = search rules in
    let there : c.in-Some.found.now ≡ get_or c.args.known.now c.args.number c.in-Some.found.now = search rules in
    slice_get_read c.args.known.now _ c.args.number c.in-Some.found.now refl inside there
    ∙ ap Some (event_is c.in-Some.found.now c.args.event (sym (events_same c.in-Some.found.now c.args.event) ∙ (sym c.eq.ensures ∙ same)))
