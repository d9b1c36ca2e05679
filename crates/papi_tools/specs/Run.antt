-- What `papi_run` comes to: the replies to its script's lines, the marks that its runs met, and the notes of each thread,
-- which follow the replies if `--notes` asks for them.
use Rattle.std.specs.Prelude.{◌++◌, Bool, true, false, List, [], Result, Ok, Option}
use Rattle.std.specs.List.{flat_map}
use Rattle.overflow_dispatch.specs.declared.handler.Note.{Note}
use Rattle.session_model.specs.declared.reply.Ended.{Ended}
use Rattle.component_table.specs.Catalogs.{CatalogView}
use Rattle.thread_registry.specs.Marks.{marks_in}
use Rattle.thread_registry.specs.declared.runner.result.ReplyLine.{ReplyLine}
use Rattle.script_runner.specs.Replies.{notes_text, replies_text}
use Rattle.tool_words.specs.declared.run.RunWords.{RunWords}
use Rattle.papi_tools.specs.Marks.{marked_said}
use Rattle.papi_tools.specs.Running.{GivenRun, given_of, ran_notes, ran_replies}
use Rattle.papi_tools.specs.Contents.{after_tables, catalog_under, script_under}
use Rattle.papi_tools.specs.Openings.{Openings, Verdict, and_then}
use Rattle.papi_tools.specs.declared.refusal.Refusal.{Refusal}
use Rattle.papi_tools.specs.declared.said.Said.{Said}

-- what is said of a run: the text of its replies and of the notes that are shown, and the lines of the marks that it met
abbrev pub run_said : CatalogView → List ReplyLine → List (Option Ended) → List Note → Said
run_said catalog lines marks shown = marked_said marks (replies_text catalog lines ++ notes_text shown)

-- the notes that are shown: all of them thread by thread, if they are wanted
abbrev pub shown_notes : Bool → List (List Note) → List Note
shown_notes false notes = []
shown_notes true notes = flat_map (λ ns. ns) notes

-- what a run comes to, with the notes shown if they are wanted
unfoldable pub ran_verdict : Bool → GivenRun → Verdict
ran_verdict wanted given = record {
  said = run_said given.catalog (ran_replies given) (marks_in (ran_replies given)) (shown_notes wanted (ran_notes given));
  notes = ran_notes given;
}

-- what comes of this catalog: the script, then the streams, then the run
abbrev pub ran_of : RunWords → CatalogView → Openings → Result Verdict Refusal
ran_of words catalog openings = and_then (given_of catalog (λ o. script_under o words.script) words.streams openings) (λ given. Ok (ran_verdict words.notes given))

-- the tables, then the script, then the streams in their order, and then the run
unfoldable pub run_verdict : Openings → RunWords → Result Verdict Refusal
run_verdict openings words =
    and_then (catalog_under openings words.unit words.presets) (λ catalog. ran_of words catalog (after_tables words.presets openings))
