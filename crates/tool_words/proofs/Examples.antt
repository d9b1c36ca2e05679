-- What written out words ask for.
use Rattle.tool_words.proofs.Words.{◌≡◌, ℕ, zero, suc, Bool, true, false, List, [], ◌∷◌, Option, Some, None, refl, codes, map, Text, clap_on_literals}
use Rattle.tool_words.proofs.Words.{Avail, Decode, Encode, EventChooser, NativeAvail, Profil, Regions, Run, Soak, EventKind, Native, Preset, rule}
use Rattle.tool_words.proofs.Words.{avail_form, chooser_form, encode_form, form, PresetWords, decode_form, native_avail_form, is_cpu, profil_form}
use Rattle.tool_words.proofs.Words.{parts_of, regions_form, run_form, script_words_in, soak_form, read_by}
use Rattle.tool_words.specs.declared.command.Command.{Command}

unfoldable on_words : Unit {0}
unfolding clap_on_literals read_by rule is_cpu script_words_in run_form encode_form decode_form avail_form native_avail_form chooser_form soak_form profil_form regions_form parts_of
on_words = tt

-- what each list of words asks for; none if it is refused
abbrev answers : List (List Text × Option Command) → Type 0
answers rows = map (λ (r : List Text × Option Command). form r.0) rows ≡ map (λ (r : List Text × Option Command). r.1) rows

-- the words of a tool on the lab unit
abbrev on_lab : Text → List Text → List Text
on_lab tool words = tool ∷ codes "-U" ∷ codes "lab.unit" ∷ words

abbrev lab_run : Text → List Text → Command
lab_run unit streams = Run (record { unit = unit; presets = None; workers = 1; notes = false; script = codes "s"; streams = streams })

abbrev lab_presets : Text → Option PresetWords
lab_presets cpu = Some (record { file = codes "p"; cpu = cpu })

-- the words of one run with these between the unit and the script
abbrev run_with : List Text → List Text
run_with [] = codes "s" ∷ []
run_with (w ∷ ws) = w ∷ run_with ws

abbrev run_words : List Text → List Text
run_words more = on_lab (codes "papi_run") (run_with more)

abbrev asked_run : Option PresetWords → Bool → Option Command
asked_run presets notes = Some (Run (record { unit = codes "lab.unit"; presets = presets; workers = 1; notes = notes; script = codes "s"; streams = [] }))

abbrev on_workers : ℕ → Option Command
on_workers workers = Some (Run (record { unit = codes "lab.unit"; presets = None; workers = workers; notes = false; script = codes "s"; streams = [] }))

-- n streams
abbrev streams : ℕ → List Text
streams zero = []
streams (suc n) = codes "t" ∷ streams n

abbrev streams_run : ℕ → List Text
streams_run n = on_lab (codes "papi_run") (codes "s" ∷ streams n)

run : answers (
    (codes "papi_run" ∷ codes "-U" ∷ codes "lab.unit" ∷ codes "s" ∷ [], Some (lab_run (codes "lab.unit") []))
    ∷ (codes "papi_run" ∷ codes "s" ∷ codes "-Ulab.unit" ∷ codes "t0" ∷ [], Some (lab_run (codes "lab.unit") (codes "t0" ∷ [])))
    ∷ (codes "papi_run" ∷ codes "-U=-x" ∷ codes "s" ∷ codes "--" ∷ codes "--notes" ∷ [], Some (lab_run (codes "-x") (codes "--notes" ∷ [])))
    ∷ (codes "papi_run" ∷ codes "s" ∷ codes "t0" ∷ codes "-U" ∷ codes "lab.unit" ∷ codes "t1" ∷ codes "t0" ∷ [], Some (lab_run (codes "lab.unit") (codes "t0" ∷ codes "t1" ∷ codes "t0" ∷ [])))
    ∷ (codes "papi_run" ∷ [], None)
    ∷ (codes "papi_run" ∷ codes "-U" ∷ codes "lab.unit" ∷ codes "-U" ∷ codes "lab.unit" ∷ codes "s" ∷ [], None)
    ∷ (codes "papi_run" ∷ codes "-U" ∷ codes "lab.unit" ∷ codes "-a" ∷ codes "s" ∷ [], None)
    ∷ (codes "papi_run" ∷ codes "--help" ∷ [], None)
    ∷ (run_words (codes "-Pp" ∷ codes "--notes" ∷ codes "-C" ∷ codes "lab 2" ∷ []), asked_run (lab_presets (codes "lab 2")) true)
    ∷ (run_words [], asked_run None false)
    ∷ (run_words (codes "-C" ∷ codes "lab2" ∷ []), None)
    ∷ (run_words (codes "-P" ∷ codes "p" ∷ []), None)
    ∷ (run_words (codes "-P" ∷ codes "p" ∷ codes "-C" ∷ codes "a,b" ∷ []), None)
    ∷ (run_words (codes "-P" ∷ codes "p" ∷ codes "-C" ∷ codes "lab2 " ∷ []), None)
    ∷ (run_words (codes "--notes" ∷ codes "--notes" ∷ []), None)
    ∷ (run_words (codes "--workers" ∷ codes "1" ∷ []), on_workers 1)
    ∷ (run_words (codes "--workers=64" ∷ []), on_workers 64)
    ∷ (run_words (codes "--workers" ∷ codes "02" ∷ []), on_workers 2)
    ∷ (run_words (codes "--workers" ∷ codes "+2" ∷ []), on_workers 2)
    ∷ (run_words (codes "--workers" ∷ codes "0" ∷ []), None)
    ∷ (run_words (codes "--workers" ∷ codes "65" ∷ []), None)
    ∷ (run_words (codes "--workers" ∷ codes "two" ∷ []), None)
    ∷ (run_words (codes "--workers=" ∷ []), None)
    ∷ (run_words (codes "--workers=2" ∷ codes "--workers=2" ∷ []), None)
    ∷ (streams_run 64, Some (lab_run (codes "lab.unit") (streams 64)))
    ∷ (streams_run 65, None)
    ∷ [])
unfolding on_words
run = refl

-- ---- `papi_decode`

abbrev lab_decode : Bool → Option Command
lab_decode available = Some (Decode (record { unit = codes "lab.unit"; presets = record { file = codes "p"; cpu = codes "lab2" }; available = available }))

decode : answers (
    (codes "papi_decode" ∷ codes "-U" ∷ codes "lab.unit" ∷ codes "-P" ∷ codes "p" ∷ codes "-C" ∷ codes "lab2" ∷ [], lab_decode false)
    ∷ (codes "papi_decode" ∷ codes "-a" ∷ codes "-Clab2" ∷ codes "-U=lab.unit" ∷ codes "-Pp" ∷ [], lab_decode true)
    ∷ (codes "papi_decode" ∷ codes "-U" ∷ codes "lab.unit" ∷ codes "-P" ∷ codes "p" ∷ [], None)
    ∷ (codes "papi_decode" ∷ codes "-U" ∷ codes "lab.unit" ∷ codes "-P" ∷ codes "p" ∷ codes "-C" ∷ codes "lab2" ∷ codes "s" ∷ [], None)
    ∷ [])
unfolding on_words
decode = refl

-- ---- `papi_encode`

abbrev lab_encode : List Text → Command
lab_encode names = Encode (record { unit = codes "lab.unit"; names = names })

encode : answers (
    (codes "papi_encode" ∷ codes "-U" ∷ codes "lab.unit" ∷ codes "cpu:::MEM:c=2" ∷ codes "NOPE" ∷ [], Some (lab_encode (codes "cpu:::MEM:c=2" ∷ codes "NOPE" ∷ [])))
    ∷ (codes "papi_encode" ∷ codes "MEM" ∷ codes "-U=lab.unit" ∷ codes "NOPE" ∷ codes "--" ∷ codes "-x" ∷ [], Some (lab_encode (codes "MEM" ∷ codes "NOPE" ∷ codes "-x" ∷ [])))
    ∷ (codes "papi_encode" ∷ codes "-U" ∷ codes "lab.unit" ∷ [], None)
    ∷ (codes "papi_encode" ∷ codes "MEM" ∷ [], None)
    ∷ (codes "papi_encode" ∷ codes "-U" ∷ codes "lab.unit" ∷ codes "-a" ∷ codes "MEM" ∷ [], None)
    ∷ [])
unfolding on_words
encode = refl

-- ---- `papi_avail`

abbrev lab_avail : Bool → Option Text → Option Command
lab_avail available event =
    Some (Avail (record { unit = codes "lab.unit"; presets = record { file = codes "p"; cpu = codes "lab2" }; available = available; event = event }))

avail : answers (
    (codes "papi_avail" ∷ codes "-a" ∷ codes "-Ulab.unit" ∷ codes "-Pp" ∷ codes "-e" ∷ codes "PAPI_TOT_CYC" ∷ codes "-Clab2" ∷ [], lab_avail true (Some (codes "PAPI_TOT_CYC")))
    ∷ (codes "papi_avail" ∷ codes "-U" ∷ codes "lab.unit" ∷ codes "-P" ∷ codes "p" ∷ codes "-C" ∷ codes "lab2" ∷ [], lab_avail false None)
    ∷ (codes "papi_avail" ∷ codes "-U" ∷ codes "lab.unit" ∷ codes "-a" ∷ [], None)
    ∷ (codes "papi_avail" ∷ codes "--help" ∷ [], None)
    ∷ [])
unfolding on_words
avail = refl

-- ---- `papi_native_avail`

abbrev lab_natives : Option Text → Option Text → Option Text → Bool → Option Command
lab_natives event included excluded umasks =
    Some (NativeAvail (record { unit = codes "lab.unit"; event = event; included = included; excluded = excluded; umasks = umasks }))

natives : answers (
    (codes "papi_native_avail" ∷ codes "-U" ∷ codes "lab.unit" ∷ [], lab_natives None None None true)
    ∷ (codes "papi_native_avail" ∷ codes "-x" ∷ codes "INST" ∷ codes "--noumasks" ∷ codes "-U" ∷ codes "lab.unit" ∷ codes "-i=BR" ∷ [], lab_natives None (Some (codes "BR")) (Some (codes "INST")) false)
    ∷ (codes "papi_native_avail" ∷ codes "-U" ∷ codes "lab.unit" ∷ codes "-e" ∷ codes "MEM:LOADS" ∷ [], lab_natives (Some (codes "MEM:LOADS")) None None true)
    ∷ (codes "papi_native_avail" ∷ codes "-U" ∷ codes "lab.unit" ∷ codes "-C" ∷ codes "lab2" ∷ [], None)
    ∷ [])
unfolding on_words
natives = refl

-- ---- `papi_event_chooser`

abbrev lab_chooser : Option PresetWords → EventKind → List Text → Option Command
lab_chooser presets kind events = Some (EventChooser (record { unit = codes "lab.unit"; presets = presets; kind = kind; events = events }))

chooser : answers (
    (on_lab (codes "papi_event_chooser") (codes "NATIVE" ∷ codes "BR_INST" ∷ codes "REF" ∷ []), lab_chooser None Native (codes "BR_INST" ∷ codes "REF" ∷ []))
    ∷ (on_lab (codes "papi_event_chooser") (codes "PRESET" ∷ codes "-Clab2" ∷ codes "MEM" ∷ codes "-P" ∷ codes "p" ∷ codes "--" ∷ codes "-x" ∷ []), lab_chooser (lab_presets (codes "lab2")) Preset (codes "MEM" ∷ codes "-x" ∷ []))
    ∷ (on_lab (codes "papi_event_chooser") (codes "native" ∷ codes "BR_INST" ∷ []), None)
    ∷ (on_lab (codes "papi_event_chooser") (codes "NATIVE" ∷ []), None)
    ∷ (on_lab (codes "papi_event_chooser") (codes "-P" ∷ codes "p" ∷ codes "PRESET" ∷ codes "MEM" ∷ []), None)
    ∷ (on_lab (codes "papi_event_chooser") (codes "NATIVE" ∷ streams 32), lab_chooser None Native (streams 32))
    ∷ (on_lab (codes "papi_event_chooser") (codes "NATIVE" ∷ streams 33), None)
    ∷ [])
unfolding on_words
chooser = refl

-- ---- `papi_soak`

abbrev soak_of : ℕ → ℕ → Option Command
soak_of rounds workers = Some (Soak (record { rounds = rounds; workers = workers }))

soak : answers (
    (codes "papi_soak" ∷ codes "1" ∷ [], soak_of 1 1)
    ∷ (codes "papi_soak" ∷ codes "1000" ∷ codes "--workers" ∷ codes "64" ∷ [], soak_of 1000 64)
    ∷ (codes "papi_soak" ∷ codes "0" ∷ [], None)
    ∷ (codes "papi_soak" ∷ codes "1001" ∷ [], None)
    ∷ (codes "papi_soak" ∷ codes "1" ∷ codes "2" ∷ [], None)
    ∷ [])
unfolding on_words
soak = refl

-- ---- `papi_profil`

abbrev lab_profil : ℕ → ℕ → ℕ → List Text → Option Command
lab_profil thread set index streams = Some (Profil (record {
  unit = codes "lab.unit";
  map = codes "m";
  presets = None;
  thread = thread;
  set = set;
  index = index;
  workers = 1;
  script = codes "s";
  streams = streams;
}))

profil : answers (
    (on_lab (codes "papi_profil") (codes "-M" ∷ codes "m" ∷ codes "s" ∷ codes "t0" ∷ []), lab_profil 0 0 0 (codes "t0" ∷ []))
    ∷ (on_lab (codes "papi_profil") (codes "s" ∷ codes "--thread=63" ∷ codes "--set" ∷ codes "63" ∷ codes "-Mm" ∷ codes "--index" ∷ codes "31" ∷ []), lab_profil 63 63 31 [])
    ∷ (on_lab (codes "papi_profil") (codes "s" ∷ []), None)
    ∷ (on_lab (codes "papi_profil") (codes "-Mm" ∷ codes "--thread=64" ∷ codes "s" ∷ []), None)
    ∷ (on_lab (codes "papi_profil") (codes "-Mm" ∷ codes "--index=32" ∷ codes "s" ∷ []), None)
    ∷ [])
unfolding on_words
profil = refl

-- ---- `papi_regions`

abbrev lab_regions : List Text → List Text → Option Command
lab_regions events streams =
    Some (Regions (record { unit = codes "lab.unit"; presets = None; events = events; workers = 1; script = codes "s"; streams = streams }))

regions : answers (
    (on_lab (codes "papi_regions") (codes "--events" ∷ codes "INST_RETIRED,lab::CYCLES" ∷ codes "s" ∷ codes "t0" ∷ []), lab_regions (codes "INST_RETIRED" ∷ codes "lab::CYCLES" ∷ []) (codes "t0" ∷ []))
    ∷ (on_lab (codes "papi_regions") (codes "s" ∷ []), None)
    ∷ (on_lab (codes "papi_regions") (codes "--events=" ∷ codes "s" ∷ []), None)
    ∷ (on_lab (codes "papi_regions") (codes "--events=A,,B" ∷ codes "s" ∷ []), None)
    ∷ (on_lab (codes "papi_regions") (codes "--events=A," ∷ codes "s" ∷ []), None)
    ∷ (on_lab (codes "papi_regions") (codes "--events" ∷ codes "A, B" ∷ codes "s" ∷ []), None)
    ∷ (on_lab (codes "papi_regions") (codes "--events=a,b,c,d,e,f,g,h,i,j,k,l,m,n,o,p,q,r,s,t,u,v,w,x,y,z,A,B,C,D,E,F,G" ∷ codes "s" ∷ []), None)
    ∷ [])
unfolding on_words
regions = refl

-- ---- no tool

no_tool : answers (
    (codes "papi_cost" ∷ codes "-U" ∷ codes "lab.unit" ∷ codes "s" ∷ [], None)
    ∷ ([], None)
    ∷ [])
unfolding on_words
no_tool = refl
