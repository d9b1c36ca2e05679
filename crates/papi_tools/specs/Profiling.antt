-- What `papi_profil` comes to: where in a program the thresholds of an event were passed, after PAPI_profil(3).
use Rattle.std.specs.Prelude.{◌&&◌, ◌==◌, ℕ, Bool, List, [], filter, map, slice_index_or, Result, Ok, Option}
use Rattle.overflow_dispatch.specs.declared.handler.Note.{Note}
use Rattle.session_model.specs.declared.reply.Ended.{Ended}
use Rattle.component_table.specs.Catalogs.{CatalogView}
use Rattle.thread_registry.specs.Marks.{marks_in}
use Rattle.profil_hist.specs.Profiles.{profile_text}
use Rattle.profil_hist.specs.Ranges.{RangeText}
use Rattle.tool_words.specs.declared.profil.ProfilWords.{ProfilWords}
use Rattle.papi_tools.specs.Contents.{after_tables, catalog_under, map_under, script_under}
use Rattle.papi_tools.specs.Marks.{marked_said}
use Rattle.papi_tools.specs.Running.{GivenRun, given_of, ran_notes, ran_replies}
use Rattle.papi_tools.specs.Openings.{Openings, Verdict, and_then, opened}
use Rattle.papi_tools.specs.declared.refusal.Refusal.{Refusal}
use Rattle.papi_tools.specs.declared.said.Said.{Said}

-- whether a note is of the event of this index in this set
abbrev pub is_counted : ℕ → ℕ → Note → Bool
is_counted set index note = (note.set == set) && (note.index == index)

-- the program counters of the notes of this event
abbrev pub counted_in : ℕ → ℕ → List Note → List ℕ
counted_in set index notes = map (λ note. note.pc) (filter (is_counted set index) notes)

-- what is said of a run with these marks: the histogram of these program counters, and the lines of the marks
abbrev pub profile_said : List RangeText → List (Option Ended) → List ℕ → Said
profile_said ranges marks pcs = marked_said marks (profile_text ranges pcs)

-- the program counters of the asked event, out of the notes that the handler of the asked thread was told
abbrev pub counted_of : ProfilWords → GivenRun → List ℕ
counted_of words given = counted_in words.set words.index (slice_index_or (ran_notes given) words.thread [])

-- what a profile over this map comes to: the histogram of those program counters, and the notes of each thread
unfoldable pub profiled_verdict : ProfilWords → List RangeText → GivenRun → Verdict
profiled_verdict words ranges given = record {
  said = profile_said ranges (marks_in (ran_replies given)) (counted_of words given);
  notes = ran_notes given;
}

-- what comes of this catalog and this map: the script, then the streams, then the run
abbrev pub profiled_over : ProfilWords → CatalogView → List RangeText → Openings → Result Verdict Refusal
profiled_over words catalog ranges openings =
    and_then (given_of catalog (λ o. script_under o words.script) words.streams openings) (λ given. Ok (profiled_verdict words ranges given))

-- what comes of this catalog: the map, then the script, then the streams, then the run
abbrev pub profiled_of : ProfilWords → CatalogView → Openings → Result Verdict Refusal
profiled_of words catalog openings = and_then (map_under openings words.map) (λ ranges. profiled_over words catalog ranges (opened openings))

-- the tables, then the map, then the script, then the streams in their order, and then the run
unfoldable pub profil_verdict : Openings → ProfilWords → Result Verdict Refusal
profil_verdict openings words =
    and_then (catalog_under openings words.unit words.presets) (λ catalog. profiled_of words catalog (after_tables words.presets openings))
