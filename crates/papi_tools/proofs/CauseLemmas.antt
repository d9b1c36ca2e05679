-- How the status of a call has come about, by the call's contract.
use Rattle.papi_tools.proofs.Words.{◌≡◌, ◌≢◌, ◌<◌, ◌⊎◌, ℕ, List, Option, refl, arith, inl, inr, Rose, next_count, form, CausesAreShown, SaysNo, Shows}
use Rattle.papi_tools.proofs.Words.{HasSinkCause, IsJudged, Says, SaysAll, status_of, verdict, Said, Outcome, Status}
use Rattle.papi_tools.specs.declared.status.Outcome.TheVariants as outcome
use Rattle.papi_tools.specs.declared.status.Status.TheVariants as status

-- a no may be said, and a failed read shows in the counts
may_by : (MaySayNo : Type 0) (before after : ℕ) (o : Outcome) → status.No ≡ status_of o → Shows MaySayNo before after o → MaySayNo
may_by MaySayNo before after outcome.No e h = h
may_by MaySayNo before after other e h = cc

rose_by : (MaySayNo : Type 0) (before after : ℕ) (o : Outcome) → status.ReadFault ≡ status_of o → Shows MaySayNo before after o → Rose before after
rose_by MaySayNo before after outcome.ReadFault e h = h
rose_by MaySayNo before after other e h = cc

stay : (out out' err err' : ℕ) → out' ≡ out → err' ≡ err → (out < out') ⊎ (err < err') → ⊥
stay out out' err err' o e (inl r) = omega arith
stay out out' err err' o e (inr r) = omega arith

rises_by : (s : Status) (out out' err err' : ℕ) → HasSinkCause s out out' err err' → (out < out') ⊎ (err < err') → s ≡ status.WriteFault
rises_by status.WriteFault out out' err err' h r = refl
rises_by other out out' err err' h r = absurd (stay out out' err err' h.0 h.1 r)

-- a count that is the next one rose
next_rose : (old new : ℕ) → new ≡ next_count old → Rose old new
next_rose old new e = grind arith

neither : (out out' err err' : ℕ) → ¬ (Rose out out') → ¬ (Rose err err') → HasSinkCause status.WriteFault out out' err err' → ⊥
neither out out' err err' no_o no_e (inl h) = no_o (next_rose out out' h.0)
neither out out' err err' no_o no_e (inr h) = no_e (next_rose err err' h.1)

judged : (s : Status) (f f' out out' err err' : ℕ) → (s ≡ status.ReadFault → Rose f f') → HasSinkCause s out out' err err' → ¬ (Rose f f') → ¬ (Rose out out') → ¬ (Rose err err') → IsJudged s
judged status.ReadFault f f' out out' err err' r h no_f no_o no_e = absurd (no_f (r refl))
judged status.WriteFault f f' out out' err err' r h no_f no_o no_e = absurd (neither out out' err err' no_o no_e h)
judged other f f' out out' err err' r h no_f no_o no_e = tt

all_said : (s : Status) (said : Said) (o o' e e' : Option (List ℕ)) (f f' g g' : ℕ) → Says s said o o' e e' → HasSinkCause s f f' g g' → ¬ (Rose f f') → ¬ (Rose g g') → SaysAll s said o o' e e'
all_said status.Memory said o o' e e' f f' g g' h c no_o no_e = inr refl
all_said status.WriteFault said o o' e e' f f' g g' h c no_o no_e = absurd (neither f f' g g' no_o no_e c)
all_said other said o o' e e' f f' g g' h c no_o no_e = inl h

-- a no and a failed read, by what is shown of a status that is not out of memory
no_by : (MaySayNo : Type 0) (s : Status) (said : Said) (out out' err err' : Option (List ℕ)) (f f' : ℕ) → Says s said out out' err err'
    → (s ≢ status.Memory → Shows MaySayNo f f' said.outcome) → s ≡ status.No → MaySayNo
no_by MaySayNo status.No said out out' err err' f f' says shows e = may_by MaySayNo f f' said.outcome says.0 (shows (λ m. cc m))
no_by MaySayNo other said out out' err err' f f' says shows e = cc

read_fault_by : (MaySayNo : Type 0) (s : Status) (said : Said) (out out' err err' : Option (List ℕ)) (f f' : ℕ) → Says s said out out' err err'
    → (s ≢ status.Memory → Shows MaySayNo f f' said.outcome) → s ≡ status.ReadFault → Rose f f'
read_fault_by MaySayNo status.ReadFault said out out' err err' f f' says shows e = rose_by MaySayNo f f' said.outcome says.0 (shows (λ m. cc m))
read_fault_by MaySayNo other said out out' err err' f f' says shows e = cc

pub causes_are_shown : CausesAreShown
causes_are_shown openings words s files files' out out' err err' done =
    let said : Said = (verdict words openings).said in
    let read_fault : s ≡ status.ReadFault → Rose files.faults files'.faults =
    read_fault_by (SaysNo (form words)) s said out.taken out'.taken err.taken err'.taken files.faults files'.faults done.says done.shows in
    record {
      no = no_by (SaysNo (form words)) s said out.taken out'.taken err.taken err'.taken files.faults files'.faults done.says done.shows;
      read_fault = read_fault;
      rises = rises_by s out.faults out'.faults err.faults err'.faults done.sinks;
      complete = judged s files.faults files'.faults out.faults out'.faults err.faults err'.faults read_fault done.sinks;
      whole = all_said s said out.taken out'.taken err.taken err'.taken out.faults out'.faults err.faults err'.faults done.says done.sinks;
    }
