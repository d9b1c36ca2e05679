-- Nothing is said on standard error exactly if a tool ends with its own status: tool by tool.
use Rattle.papi_tools.proofs.Words.{◌≡◌, ◌≢◌, ◌≤◌, ◌+◌, ℕ, Bool, true, false, List, [], ◌∷◌, IfOk, Option, Some, None, Result, Ok, Err, refl, sym}
use Rattle.papi_tools.proofs.Words.{subst, arith, if◌then◌else◌, list_any, CatalogView, Ended, Bad, Fault, Going, marks_in, given_set, form}
use Rattle.papi_tools.proofs.Words.{AvailWords, ChooserWords, Command}
use Rattle.papi_tools.proofs.Words.{DecodeWords, EncodeWords, NativeAvailWords, ProfilWords, RegionsWords}
use Rattle.papi_tools.proofs.Words.{RunWords, SoakWords, IsOwn, StatusIsOwn, choice_said, after_tables, catalog_under, map_under, regions_under}
use Rattle.papi_tools.proofs.Words.{script_under, unit_under, decoded_in, decoded_said, decoded_with, shown_in, encoded_said, is_bad, is_fault}
use Rattle.papi_tools.proofs.Words.{mark_lines, marked_said, natives_said, Openings, Verdict, and_then, file_bytes, opened, quiet, presets_said}
use Rattle.papi_tools.proofs.Words.{profiled_of, profiled_over, profiled_verdict, GivenRegions, calls_of, counted_of, regions_said, said_with, ran_of}
use Rattle.papi_tools.proofs.Words.{ran_verdict, given_of, ran_replies, Says, soak_given, soaked, status_of, text_said, ended, refused_said, verdict}
use Rattle.papi_tools.proofs.Words.{verdict_for, TABLE_BYTES, Refusal, BadWords, CannotRead, Faulty, NoSuchFile, TooLarge, Said, Status}
use Rattle.tool_output.specs.Choosing as Choosing
-- tools/make_tools: begin uses
use Rattle.tool_words.specs.declared.command.Command.TheVariants.{Run, Profil, Regions, Avail, NativeAvail, EventChooser, Decode, Encode, Soak}
use Rattle.papi_tools.specs.Choosing.{chooser_verdict}
use Rattle.papi_tools.specs.Decoding.{decode_verdict}
use Rattle.papi_tools.specs.Encoding.{encode_verdict}
use Rattle.papi_tools.specs.NativeListing.{native_avail_verdict}
use Rattle.papi_tools.specs.PresetListing.{avail_verdict}
use Rattle.papi_tools.specs.Profiling.{profil_verdict}
use Rattle.papi_tools.specs.RegionCounts.{regions_verdict}
use Rattle.papi_tools.specs.Run.{run_verdict}
use Rattle.papi_tools.specs.Soaking.{soak_verdict}
-- tools/make_tools: end uses
use Rattle.papi_tools.specs.declared.status.Outcome.TheVariants as outcome
use Rattle.papi_tools.specs.declared.status.Status.TheVariants as status

-- ---- what is said

-- nothing is on standard error exactly if the outcome is the tool's own
record IsOwnSaid (said : Said) : Type 0 where
  own : said.err ≡ [] → IsOwn (status_of said.outcome)
  quiet : IsOwn (status_of said.outcome) → said.err ≡ []

of_text : (is_yes : Bool) (text : List ℕ) → IsOwnSaid (text_said is_yes text)
of_text true text = record { own = λ e. omega arith; quiet = λ h. refl }
of_text false text = record { own = λ e. omega arith; quiet = λ h. refl }

-- a refusal has a line
of_refusal : (refusal : Refusal) → IsOwnSaid (refused_said refusal)
of_refusal (CannotRead name) = record { own = λ e. cc e; quiet = λ h. absurd (omega (arith, h)) }
of_refusal BadWords = record { own = λ e. cc e; quiet = λ h. absurd (omega (arith, h)) }
of_refusal (NoSuchFile name) = record { own = λ e. cc e; quiet = λ h. absurd (omega (arith, h)) }
of_refusal (TooLarge name) = record { own = λ e. cc e; quiet = λ h. absurd (omega (arith, h)) }
of_refusal (Faulty name number cause) = record { own = λ e. cc e; quiet = λ h. absurd (omega (arith, h)) }

-- ---- marks

-- no mark has a line
abbrev AreUnmarked : List (Option Ended) → Type 0
AreUnmarked marks = (list_any is_fault marks ≡ false) × (list_any is_bad marks ≡ false)

unmarked : (t : ℕ) (marks : List (Option Ended)) → mark_lines t marks ≡ [] → AreUnmarked marks
unmarked t [] e = (refl, refl)
unmarked t (Some (Bad line cause) ∷ marks) e = cc e
unmarked t (Some Fault ∷ marks) e = cc e
unmarked t (Some Going ∷ marks) e = unmarked (t + 1) marks e
unmarked t (None ∷ marks) e = unmarked (t + 1) marks e

no_lines : (t : ℕ) (marks : List (Option Ended)) → AreUnmarked marks → mark_lines t marks ≡ []
no_lines t [] h = refl
no_lines t (Some (Bad line cause) ∷ marks) h = let e : true ≡ false = h.1 in cc e
no_lines t (Some Fault ∷ marks) h = let e : true ≡ false = h.0 in cc e
no_lines t (Some Going ∷ marks) h = no_lines (t + 1) marks h
no_lines t (None ∷ marks) h = no_lines (t + 1) marks h

own_marks : (fault bad : Bool) → IsOwn (status_of (if fault then outcome.ReadFault else if bad then outcome.Refused else outcome.Whole)) → (fault ≡ false) × (bad ≡ false)
own_marks true bad h = absurd (omega (arith, h))
own_marks false true h = absurd (omega (arith, h))
own_marks false false h = (refl, refl)

of_marks : (marks : List (Option Ended)) (text : List ℕ) → IsOwnSaid (marked_said marks text)
of_marks marks text = record {
  own = λ e. let none = unmarked 0 marks e in rw (none.0, none.1) (let own : 0 ≤ 1 = omega arith in own);
  quiet = λ h. no_lines 0 marks (own_marks (list_any is_fault marks) (list_any is_bad marks) h);
}

-- ---- the steps of a tool

-- a value that comes of two steps, if what comes of each value of the first is so
each_given : {A B : Type 0} (Is : B → Type 0) (one : Result A Refusal) (next : A → Result B Refusal) → ((x : A) → IfOk (next x) Is) → IfOk (and_then one next) Is
each_given Is (Ok x) next h = h x
each_given Is (Err refusal) next h = tt

-- what a tool comes to
abbrev Comes : Verdict → Type 0
Comes v = IsOwnSaid v.said

of_quiet : (result : Result Said Refusal) → IfOk result IsOwnSaid → IfOk (quiet result) Comes
of_quiet (Ok said) h = h
of_quiet (Err refusal) h = tt

-- ---- the tools

of_run : (openings : Openings) (words : RunWords) → IfOk (run_verdict openings words) Comes
unfolding run_verdict ran_verdict
of_run openings words =
    let later = after_tables words.presets openings in
    each_given Comes (catalog_under openings words.unit words.presets) (λ catalog. ran_of words catalog later)
    (λ catalog. each_given Comes (given_of catalog (λ o. script_under o words.script) words.streams later) (λ given. Ok (ran_verdict words.notes given))
    (λ given. of_marks (marks_in (ran_replies given)) _))

of_profil : (openings : Openings) (words : ProfilWords) → IfOk (profil_verdict openings words) Comes
unfolding profil_verdict profiled_verdict
of_profil openings words =
    let later = after_tables words.presets openings in
    each_given Comes (catalog_under openings words.unit words.presets) (λ catalog. profiled_of words catalog later)
    (λ catalog. each_given Comes (map_under later words.map) (λ ranges. profiled_over words catalog ranges (opened later))
    (λ ranges. each_given Comes (given_of catalog (λ o. script_under o words.script) words.streams (opened later)) (λ given. Ok (profiled_verdict words ranges given))
    (λ given. of_marks (marks_in (ran_replies given)) _)))

regions_own : (events : List (List ℕ)) (given : GivenRegions) (set : Choosing.GivenSet) → IsOwnSaid (said_with events given set)
regions_own events given (Ok set) = of_marks (marks_in (ran_replies (calls_of events given))) _
regions_own events given (Err refused) = of_text false _

of_regions : (openings : Openings) (words : RegionsWords) → IfOk (regions_verdict openings words) IsOwnSaid
unfolding regions_verdict regions_said
of_regions openings words =
    let later = after_tables words.presets openings in
    each_given IsOwnSaid (catalog_under openings words.unit words.presets) (λ catalog. counted_of words catalog later)
    (λ catalog. each_given IsOwnSaid (given_of catalog (λ o. regions_under o words.script) words.streams later) (λ given. Ok (regions_said words.events given))
    (λ given. regions_own words.events given (given_set given.catalog words.events)))

of_soak : (words : SoakWords) → IfOk (soak_verdict words) Comes
unfolding soak_verdict soaked
of_soak words = each_given Comes (soak_given words.rounds) (λ given. Ok (soaked given)) (λ given. of_text true _)

presets_own : (catalog : CatalogView) (available : Bool) (event : Option (List ℕ)) → IsOwnSaid (presets_said catalog available event)
presets_own catalog available None = of_text true _
presets_own catalog available (Some name) = of_text _ _

of_avail : (openings : Openings) (words : AvailWords) → IfOk (avail_verdict openings words) IsOwnSaid
unfolding avail_verdict
of_avail openings words =
    each_given IsOwnSaid (catalog_under openings words.unit (Some words.presets)) (λ catalog. Ok (presets_said catalog words.available words.event))
    (λ catalog. presets_own catalog words.available words.event)

of_native_avail : (openings : Openings) (words : NativeAvailWords) → IfOk (native_avail_verdict openings words) IsOwnSaid
unfolding native_avail_verdict
of_native_avail openings words = each_given IsOwnSaid (unit_under openings words.unit) (λ tables. Ok (natives_said tables words words.event)) (λ tables. go tables words.event) where
  go : (tables : _) (event : Option (List ℕ)) → IsOwnSaid (natives_said tables words event)
  go tables None = of_text true _
  go tables (Some name) = of_text _ _

of_decode : (openings : Openings) (words : DecodeWords) → IfOk (decode_verdict openings words) IsOwnSaid
unfolding decode_verdict
of_decode openings words =
    each_given IsOwnSaid (unit_under openings words.unit) (λ tables. decoded_with words tables (opened openings))
    (λ tables. each_given IsOwnSaid (file_bytes TABLE_BYTES (opened openings) words.presets.file) (decoded_in words tables)
    (λ bytes. each_given IsOwnSaid (shown_in words tables bytes) (λ presets. Ok (decoded_said presets)) (λ presets. of_text true _)))

of_chooser : (openings : Openings) (words : ChooserWords) → IfOk (chooser_verdict openings words) IsOwnSaid
unfolding chooser_verdict
of_chooser openings words =
    each_given IsOwnSaid (catalog_under openings words.unit words.presets) (λ catalog. Ok (choice_said catalog words.kind words.events)) (λ catalog. of_text _ _)

of_encode : (openings : Openings) (words : EncodeWords) → IfOk (encode_verdict openings words) IsOwnSaid
unfolding encode_verdict encoded_said
of_encode openings words = each_given IsOwnSaid (unit_under openings words.unit) (λ tables. Ok (encoded_said tables words.names)) (λ tables. of_text _ _)

-- ---- a call

-- tools/make_tools: begin rows
of_command : (openings : Openings) (command : Option Command) → IfOk (verdict_for openings command) Comes
of_command openings None = tt
of_command openings (Some (Run words)) = of_run openings words
of_command openings (Some (Profil words)) = of_profil openings words
of_command openings (Some (Regions words)) = of_quiet (regions_verdict openings words) (of_regions openings words)
of_command openings (Some (Avail words)) = of_quiet (avail_verdict openings words) (of_avail openings words)
of_command openings (Some (NativeAvail words)) = of_quiet (native_avail_verdict openings words) (of_native_avail openings words)
of_command openings (Some (EventChooser words)) = of_quiet (chooser_verdict openings words) (of_chooser openings words)
of_command openings (Some (Decode words)) = of_quiet (decode_verdict openings words) (of_decode openings words)
of_command openings (Some (Encode words)) = of_quiet (encode_verdict openings words) (of_encode openings words)
of_command openings (Some (Soak words)) = of_soak words

-- tools/make_tools: end rows

of_result : (result : Result Verdict Refusal) → IfOk result Comes → IsOwnSaid (ended result).said
of_result (Ok v) h = h
of_result (Err refusal) h = of_refusal refusal

-- by what a call with this status wrote
own_by : (s : Status) (said : Said) (out out' err err' : Option (List ℕ)) → Says s said out out' err err' → IsOwnSaid said → said.err ≡ []
    → s ≢ status.Memory → s ≢ status.WriteFault → IsOwn s
own_by status.Memory said out out' err err' says h e m w = absurd (m refl)
own_by status.WriteFault said out out' err err' says h e m w = absurd (w refl)
own_by other said out out' err err' says h e m w = subst IsOwn (sym says.0) (h.own e)

quiet_by : (s : Status) (said : Said) (out out' err err' : Option (List ℕ)) → Says s said out out' err err' → IsOwnSaid said → IsOwn s → said.err ≡ []
quiet_by status.Memory said out out' err err' says h own = absurd (omega (arith, own))
quiet_by status.WriteFault said out out' err err' says h own = absurd (omega (arith, own))
quiet_by other said out out' err err' says h own = h.quiet (subst IsOwn says.0 own)

pub status_is_own : StatusIsOwn
status_is_own openings words s files files' out out' err err' done =
    let said : Said = (verdict words openings).said in
    let h : IsOwnSaid said = of_result (verdict_for openings (form words)) (of_command openings (form words)) in
    record {
      own = own_by s said out.taken out'.taken err.taken err'.taken done.says h;
      quiet = quiet_by s said out.taken out'.taken err.taken err'.taken done.says h;
    }
