use Rattle.papi_tools.proofs.Words.{arith, refl, rules, GivenRun, ran_notes}
use Rattle.papi_tools.proofs.RunLemmas.{counted, faulty, nothing_ran, planned_from, replied, sources_kept, tells}
use Rattle.papi_tools.proofs.TellingLemmas.{none_begun}
use Rattle.papi_tools.proofs.script_run.run_script.Goals as goal

pub returns-in_err-noted-clause-told : goal.returns-in_err-noted-clause-told
returns-in_err-noted-clause-told g c given is = record { replies = search rules; notes = search rules; begun = none_begun _ (ran_notes given) }

pub returns-in_err-plan-clause-told : goal.returns-in_err-plan-clause-told
returns-in_err-plan-clause-told g c given is = record { replies = search rules; notes = search rules; begun = none_begun _ (ran_notes given) }

pub returns-in_err-lines-clause-told : goal.returns-in_err-lines-clause-told
unfolding ran_notes
returns-in_err-lines-clause-told g c given is =
    let told = tells c.args.catalog.now c.args.script.now given _ _ _ _ is c.book.ensures.book c.shape-shape.ensures.shape c.in_ok-plan.ensures.plan in
    record { replies = search rules; notes = search rules; begun = c.in_err-lines.ensures.begun _ _ _ told }

pub returns-in_err-lines-clause-sources : goal.returns-in_err-lines-clause-sources
returns-in_err-lines-clause-sources g c = sources_kept _ _ c.in_err-lines.ensures.readers

pub returns-clause-told : goal.returns-clause-told
unfolding ran_notes
returns-clause-told g c given is =
    let told = tells c.args.catalog.now c.args.script.now given _ _ _ _ is c.book.ensures.book c.shape-shape.ensures.shape c.in_ok-plan.ensures.plan in
    record {
      replies = replied given c.args.script.now _ _ is.script_is (c.in_ok-lines.ensures.replies _ _ _ told) c.in_ok-plan.ensures.heads;
      notes = c.in_ok-lines.ensures.notes _ _ _ told;
      begun = c.in_ok-lines.ensures.begun _ _ _ told;
    }

pub returns-clause-noted : goal.returns-clause-noted
returns-clause-noted g c = counted _ c.args.handlers.now.items _ c.in_ok-noted.ensures

pub returns-clause-sources : goal.returns-clause-sources
returns-clause-sources g c = sources_kept _ _ c.in_ok-lines.ensures.readers

pub returns-clause-faulty : goal.returns-clause-faulty
returns-clause-faulty g c = λ some. faulty _ _ _ c.in_ok-lines.ensures.faulty some

pub returns-in_err-noted-clause-possible : goal.returns-in_err-noted-clause-possible
returns-in_err-noted-clause-possible g c =
    let (given, can) = nothing_ran c.args.catalog.now c.args.script.now c.args.readers.now.items (omega (arith, c.requires.readers, c.args.readers.now.ok.0)) in
    (given, can, record { replies = search rules; notes = search rules; begun = none_begun _ (ran_notes given) })

pub returns-in_err-plan-clause-possible : goal.returns-in_err-plan-clause-possible
returns-in_err-plan-clause-possible g c =
    let (given, can) = nothing_ran c.args.catalog.now c.args.script.now c.args.readers.now.items (omega (arith, c.requires.readers, c.args.readers.now.ok.0)) in
    (given, can, record { replies = search rules; notes = search rules; begun = none_begun _ (ran_notes given) })

pub returns-in_err-lines-clause-possible : goal.returns-in_err-lines-clause-possible
unfolding ran_notes
returns-in_err-lines-clause-possible g c =
    let (streams, can, ran) = c.in_err-lines.ensures.possible in
    let (replies, notes, begun) = ran _ _ (planned_from c.args.catalog.now c.args.script.now _ _ _ c.book.ensures.book c.shape-shape.ensures.shape c.in_ok-plan.ensures.plan) in (
      record { catalog = c.args.catalog.now; script = c.args.script.now; streams = streams },
      record { catalog_is = refl; script_is = refl; can_come = can },
      record { replies = search rules; notes = search rules; begun = begun },
    )

pub returns-clause-possible : goal.returns-clause-possible
unfolding ran_notes
returns-clause-possible g c =
    let (streams, can, ran) = c.in_ok-lines.ensures.possible in
    let given : GivenRun = record { catalog = c.args.catalog.now; script = c.args.script.now; streams = streams } in
    let (replies, notes, begun) = ran _ _ (planned_from c.args.catalog.now c.args.script.now _ _ _ c.book.ensures.book c.shape-shape.ensures.shape c.in_ok-plan.ensures.plan) in (
      given,
      record { catalog_is = refl; script_is = refl; can_come = can },
      record { replies = replied given c.args.script.now _ _ refl replies c.in_ok-plan.ensures.heads; notes = notes; begun = begun },
    )
