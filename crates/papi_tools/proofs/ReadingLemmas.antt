-- What was read whole is a tape that the file can have.
use Rattle.papi_tools.proofs.Words.{◌≡◌, ◌<◌, ◌≤◌, ◌+◌, ℕ, List, [], length, replicate, Option, Some, None, IfSome, Result, Ok, Err, Vec, Global}
use Rattle.papi_tools.proofs.Words.{refl, sym, ap, ◌∙◌, arith, subst, le-ltb, lt-ltb, length-replicate, Tape, Held, AnswersWhole, WholeFault, Answers}
use Rattle.papi_tools.proofs.Words.{CanGive, Is, Leads, bytes_of, bytes_until, file_bytes, opened, tape_under, CannotRead, TooLarge, Stop}
use Rattle.papi_base.specs.declared.outside.Ending.TheVariants.{End, Fault}
use Rattle.papi_base.specs.declared.whole.WholeFault.TheVariants as whole
use Rattle.papi_tools.specs.declared.refusal.Stop.TheVariants as stop
use Rattle.papi_tools.proofs.FindingLemmas.{leads_on, plain}

-- some tape that can be this one gives this answer
abbrev pub CanAnswer : Option Tape → ℕ → List ℕ → Result (List ℕ) Stop → Type 0
CanAnswer told limit name answer = (tape : Tape) × CanGive told tape × Answers answer (bytes_of limit name tape)

fits : (limit : ℕ) (name : List ℕ) (t : Tape) → length t.bytes ≤ limit → bytes_of limit name t ≡ bytes_until name t.bytes t.ending
fits limit name t small = rw (le-ltb limit (length t.bytes) small) refl

exceeds : (limit : ℕ) (name : List ℕ) (t : Tape) → limit < length t.bytes → bytes_of limit name t ≡ Err (TooLarge name)
exceeds limit name t large = rw (lt-ltb limit (length t.bytes) large) refl

ends_well : (limit : ℕ) (name bytes : List ℕ) (t : Tape) → bytes ≡ t.bytes → t.ending ≡ End → length t.bytes ≤ limit → bytes_of limit name t ≡ Ok bytes
ends_well limit name bytes t is end small = fits limit name t small ∙ ap (λ e. bytes_until name t.bytes e) end ∙ ap Ok (sym is)

fails : (limit : ℕ) (name : List ℕ) (t : Tape) → t.ending ≡ Fault → length t.bytes ≤ limit → bytes_of limit name t ≡ Err (CannotRead name)
fails limit name t end small = fits limit name t small ∙ ap (λ e. bytes_until name t.bytes e) end

pub whole_tape : (told : Option Tape) (limit : ℕ) (name bytes : List ℕ) → IfSome told (λ t. (bytes ≡ t.bytes) × (t.ending ≡ End) × (length t.bytes ≤ limit)) → length bytes ≤ limit → CanAnswer told limit name (Ok bytes)
whole_tape None limit name bytes is small = let t : Tape = record { bytes = bytes; ending = End } in (t, tt, ends_well limit name bytes t refl refl small)
whole_tape (Some t) limit name bytes is small = (t, refl, ends_well limit name bytes t is.0 is.1 is.2)

large : (told : Option Tape) (limit : ℕ) (name copy : List ℕ) → copy ≡ name → IfSome told (λ t. limit < length t.bytes) → CanAnswer told limit name (Err (stop.Refused (TooLarge copy)))
large None limit name copy same is =
    let t : Tape = record { bytes = replicate (limit + 1) 0; ending = End } in
    (t, tt, rw same (exceeds limit name t (rw length-replicate (omega arith))))
large (Some t) limit name copy same is = (t, refl, rw same (exceeds limit name t is))

faulty : (told : Option Tape) (limit : ℕ) (name copy : List ℕ) → copy ≡ name → IfSome told (λ t. (length t.bytes ≤ limit) × (t.ending ≡ Fault)) → CanAnswer told limit name (Err (stop.Refused (CannotRead copy)))
faulty None limit name copy same is = let t : Tape = record { bytes = []; ending = Fault } in (t, tt, rw same (fails limit name t refl (omega arith)))
faulty (Some t) limit name copy same is = (t, refl, rw same (fails limit name t is.1 is.0))

pub large_tape : (told : Option Tape) (limit : ℕ) (name copy : List ℕ) (answer : Result (Vec ℕ Global) WholeFault) → copy ≡ name → answer ≡ Err whole.TooLarge →
    IfSome told (λ t. AnswersWhole answer limit t) → CanAnswer told limit name (Err (stop.Refused (TooLarge copy)))
large_tape told limit name copy answer same e h =
    large told limit name copy same (subst (λ (r : Result (Vec ℕ Global) WholeFault). IfSome told (λ t. AnswersWhole r limit t)) e h)

pub faulty_tape : (told : Option Tape) (limit : ℕ) (name copy : List ℕ) (answer : Result (Vec ℕ Global) WholeFault) → copy ≡ name → answer ≡ Err whole.Failed →
    IfSome told (λ t. AnswersWhole answer limit t) → CanAnswer told limit name (Err (stop.Refused (CannotRead copy)))
faulty_tape told limit name copy answer same e h =
    faulty told limit name copy same (subst (λ (r : Result (Vec ℕ Global) WholeFault). IfSome told (λ t. AnswersWhole r limit t)) e h)

-- a file that is open is read whole
pub read_on : {S : Type 0} (told : S → Option Tape) (source : S) (limit : ℕ) (name : List ℕ) (answer : Result (List ℕ) Stop) (before mid after : Option Held) →
    Leads (λ s t. CanGive (told s) t) (Ok source) (λ o. tape_under o name) opened before mid → after ≡ mid → CanAnswer (told source) limit name answer → Leads Is answer (λ o. file_bytes limit o name) opened before after
unfolding file_bytes
read_on told source limit name answer before mid after opens same (tape, can, gives) =
    leads_on (λ s t. CanGive (told s) t) Is source tape answer (λ o. tape_under o name) (λ t o. bytes_of limit name t) opened (λ o. o) before mid after opens can (plain answer (bytes_of limit name tape) mid after same gives)
