use Rattle.papi_tools.proofs.Words.{◌≡◌, ◌∙◌, Err, Ok, ap, refl, rules, all_taken, chooser_text, GivenRegions, ran_replies, Memory}
use Rattle.papi_tools.proofs.RegionLemmas.{are_calls, are_events, begun_of, counted_told, nothing_counted, out_of_memory, refused_said, script_is, starved}
use Rattle.papi_tools.proofs.RunLemmas.{run_shows}
use Rattle.papi_tools.proofs.region_counts.count.Goals as goal

pub calls_of-requires : goal.calls_of-requires
calls_of-requires g c = are_events _ _ c.as_slice-events.ensures.texts c.as_slice-events.ensures.events

pub returns-then-not-choice-clause-counted : goal.returns-then-not-choice-clause-counted
returns-then-not-choice-clause-counted g c =
    let texts = c.as_slice-events.ensures.texts in
    nothing_counted c.args.catalog.now c.args.regions.now c.args.readers.now c.args.words.now.events (Ok c.text.result) c.requires.readers (λ given is.
    refused_said c.args.catalog.now c.args.words.now.events given _ c.in_ok-choice.choice.all_taken c.text.result c.in_ok-choice.choice.text is
    (c.in_ok-choice.ensures.taken ∙ ap (all_taken c.args.catalog.now) texts) c.if-not-choice.true (c.in_ok-choice.ensures.text ∙ ap (chooser_text c.args.catalog.now _) texts) c.text.ensures.said)

pub returns-in-Ok-clause-counted : goal.returns-in-Ok-clause-counted
returns-in-Ok-clause-counted g c =
    let texts = c.as_slice-events.ensures.texts in
    let script = script_is c.args.regions.now _ c.args.words.now.events _ texts c.in_ok-script.ensures.told in
    let said = rw texts at c.said_of.ensures.said in
    let (run, can, ran) = c.in-Ok.ensures.possible in
    let given : GivenRegions = record { catalog = c.args.catalog.now; script = c.args.regions.now; streams = run.streams } in
    let same = are_calls c.args.catalog.now c.args.regions.now _ c.args.readers.now.items c.args.words.now.events run can script in (
      given,
      record { catalog_is = refl; script_is = refl; can_come = can.can_come },
      counted_told c.script_law.ensures c.span_law.ensures c.args.catalog.now c.args.regions.now c.args.words.now.events given c.in_ok-choice.choice.all_taken _ _ c.said_of.result refl refl
          c.lines-lines.ensures.kept (begun_of c.begun_law.ensures c.args.regions.now c.requires.read) c.as_slice-events.ensures.events.some (c.in_ok-choice.ensures.taken ∙ ap (all_taken c.args.catalog.now) texts) c.if-not-choice.false
          (ran.replies ∙ ap ran_replies same) c.in-Ok.ensures.marks c.said_of.ensures.fit said,
    )

pub returns-in-Ok-clause-shows : goal.returns-in-Ok-clause-shows
returns-in-Ok-clause-shows g c before after rose =
    run_shows (Unit {0}) _ _ _ before after c.said_of.result c.said_of.ensures.said c.in-Ok.ensures.marks (λ some. rose (c.in-Ok.ensures.faulty some))

pub returns-in_err-choice-clause-counted : goal.returns-in_err-choice-clause-counted
returns-in_err-choice-clause-counted g c = starved c.args.catalog.now c.args.regions.now c.args.readers.now c.args.words.now.events c.from_residual.result c.requires.readers (search rules)

pub returns-in_err-script-clause-counted : goal.returns-in_err-script-clause-counted
returns-in_err-script-clause-counted g c =
    let same : c.from_residual-in_err-script.result ≡ Err c.in_err-script.field-0.0 = search rules in
    rw same (nothing_counted c.args.catalog.now c.args.regions.now c.args.readers.now c.args.words.now.events (Err c.in_err-script.field-0.0) c.requires.readers
    (λ given is. out_of_memory c.in_err-script.field-0.0 _ _ c.in_err-script.ensures.told))

pub returns-in_err-new-clause-counted : goal.returns-in_err-new-clause-counted
returns-in_err-new-clause-counted g c = starved c.args.catalog.now c.args.regions.now c.args.readers.now c.args.words.now.events c.from_residual-in_err-new.result c.requires.readers (search rules)

pub returns-in_err-push-clause-counted : goal.returns-in_err-push-clause-counted
returns-in_err-push-clause-counted g c = starved c.args.catalog.now c.args.regions.now c.args.readers.now c.args.words.now.events c.from_residual-in_err-push.result c.requires.readers (search rules)

pub returns-clause-counted : goal.returns-clause-counted
returns-clause-counted g c = starved c.args.catalog.now c.args.regions.now c.args.readers.now c.args.words.now.events (Err Memory) c.requires.readers refl
