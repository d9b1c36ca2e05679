-- Steps that open files, one after the other: what their openings can have found.
use Rattle.papi_tools.proofs.Words.{◌≡◌, ℕ, true, false, List, [], Option, Some, None, IfSome, IsSome, Result, Ok, Err, refl, sym, ap, ◌∙◌, subst}
use Rattle.papi_tools.proofs.Words.{option_map, OpenFail, Absent, Answers, ByName, CanGive, CanOpen, Ends, Failing, First, ForSome, Is, Leads, Open}
use Rattle.papi_tools.proofs.Words.{Openings, Stops, and_then, found, opened, tape_under, Refusal, NoSuchFile, CannotRead, Stop}
use Rattle.papi_base.specs.Outside as Outside
use Rattle.papi_base.specs.Outside.{AnswersOpening, Tape, Held, fails_next, tape_of}
use Rattle.papi_base.specs.declared.outside.OpenFail.TheVariants as open_fail
use Rattle.papi_tools.specs.declared.refusal.Stop.TheVariants as stop

-- something that the openings of files can find
pub some_openings : (held : Option Held) → (openings : Openings) × CanOpen held openings
some_openings None = (ByName (record { tapes = []; refused = [] }), tt)
some_openings (Some held) = (ByName held, refl)

-- ---- one opening

pub opens : (before after : Option Held) (name : List ℕ) (told : Option Tape) → IfSome before (λ h. (fails_next h ≡ false) × IsSome told × (told ≡ tape_of h.tapes name)) → after ≡ option_map Outside.opened before →
    (tape : Tape) → CanGive told tape → (later : Openings) → CanOpen after later → ForSome before (λ openings. (tape_under openings name ≡ Ok tape) × (opened openings ≡ later))
opens None after name told is e tape gives later can = (First (Open tape) later, tt, (refl, refl))
opens (Some held) after name None is e tape gives later can = let no : false ≡ true = is.1 in absurd cc
opens (Some held) after name (Some t) is e tape gives later can =
    let all : found name (tape_of held.tapes name) ≡ Ok tape = ap (found name) (sym is.2) ∙ ap Ok gives in
    let there : tape_under (ByName held) name ≡ Ok tape = rw is.0 all in
    (ByName held, refl, (there, sym (rw e at can)))

none_there : (before : Option Held) (name : List ℕ) → IfSome before (λ h. (fails_next h ≡ false) × (tape_of h.tapes name ≡ None)) → ForSome before (λ openings. tape_under openings name ≡ Err (NoSuchFile name))
none_there None name is = (First Absent (ByName (record { tapes = []; refused = [] })), tt, refl)
none_there (Some held) name is = (ByName held, refl, rw (is.0, is.1) refl)

fails_there : (before : Option Held) (name : List ℕ) → IfSome before (λ h. fails_next h ≡ true) → ForSome before (λ openings. tape_under openings name ≡ Err (CannotRead name))
fails_there None name is = (First Failing (ByName (record { tapes = []; refused = [] })), tt, refl)
fails_there (Some held) name is = (ByName held, refl, rw is refl)

pub opens_none : {S : Type 0} (tape : S → Option Tape) (answer : Result S OpenFail) (before : Option Held) (name copy : List ℕ) → answer ≡ Err open_fail.Absent → copy ≡ name →
    IfSome before (λ h. AnswersOpening tape answer h name) → ForSome before (λ openings. tape_under openings name ≡ Err (NoSuchFile copy))
opens_none {S} tape answer before name copy e same h =
    rw same (none_there before name (subst (λ (r : Result S OpenFail). IfSome before (λ x. AnswersOpening tape r x name)) e h))

pub opening_fails : {S : Type 0} (tape : S → Option Tape) (answer : Result S OpenFail) (before : Option Held) (name copy : List ℕ) → answer ≡ Err open_fail.Failed → copy ≡ name →
    IfSome before (λ h. AnswersOpening tape answer h name) → ForSome before (λ openings. tape_under openings name ≡ Err (CannotRead copy))
opening_fails {S} tape answer before name copy e same h =
    rw same (fails_there before name (subst (λ (r : Result S OpenFail). IfSome before (λ x. AnswersOpening tape r x name)) e h))

-- ---- one step after the other

-- a step that opens nothing
pub plain : {A : Type 0} (answer : Result A Stop) (expected : Result A Refusal) (held after : Option Held) → after ≡ held → Answers answer expected → Leads Is answer (λ openings. expected) (λ openings. openings) held after
plain (Ok value) expected held after e h = λ x same later can. (later, rw e at can, (h ∙ ap Ok same, refl))
plain (Err (stop.Refused refusal)) expected held after e h = let some = some_openings held in (some.0, some.1, h)
plain (Err stop.Memory) expected held after e h = tt

-- a step that failed is the last one
pub failed : {B D : Type 0} (s : Stop) (gives : Openings → Result B Refusal) (next : Openings → B → Result D Refusal) (before : Option Held) → Stops s gives before → Stops s (λ o. and_then (gives o) (next o)) before
failed (stop.Refused refusal) gives next before one =
    let (o, can, gave) = one in
    (o, can, rw gave refl)
failed stop.Memory gives next before one = tt

-- a step that gave a value, and one that failed
pub failed_after : {A B D : Type 0} (CanBe : A → B → Type 0) (value : A) (expected : B) (s : Stop) (gives : Openings → Result B Refusal) (next : B → Openings → Result D Refusal) (rest : Openings → Openings)
    (before mid : Option Held) → Leads CanBe (Ok value) gives rest before mid → CanBe value expected → Stops s (next expected) mid → Stops s (λ o. and_then (gives o) (λ b. next b (rest o))) before
failed_after CanBe value expected (stop.Refused refusal) gives next rest before mid one can two =
    let (m, m_can, m_gives) = two in
    let (o, o_can, (o_gives, o_rest)) = one expected can m m_can in
    (o, o_can, rw (o_gives, o_rest) m_gives)
failed_after CanBe value expected stop.Memory gives next rest before mid one can two = tt

-- a step that gave a value, and the next one
pub leads_on : {A B C D : Type 0} (CanBe : A → B → Type 0) (CanBe' : C → D → Type 0) (value : A) (expected : B) (answer : Result C Stop) (gives : Openings → Result B Refusal) (next : B → Openings → Result D Refusal)
    (rest rest' : Openings → Openings) (before mid after : Option Held) → Leads CanBe (Ok value) gives rest before mid → CanBe value expected → Leads CanBe' answer (next expected) rest' mid after →
    Leads CanBe' answer (λ o. and_then (gives o) (λ b. next b (rest o))) (λ o. rest' (rest o)) before after
leads_on CanBe CanBe' value expected (Ok v) gives next rest rest' before mid after one can two = λ e is later told.
    let (m, m_can, (m_gives, m_rest)) = two e is later told in
    let (o, o_can, (o_gives, o_rest)) = one expected can m m_can in
    (o, o_can, (rw (o_gives, o_rest) m_gives, ap rest' o_rest ∙ m_rest))
leads_on CanBe CanBe' value expected (Err s) gives next rest rest' before mid after one can two = failed_after CanBe value expected s gives next rest before mid one can two

-- a step that gave a value, and the last one
pub ends_after : {A B C D : Type 0} (CanBe : A → B → Type 0) (CanBe' : C → D → Type 0) (value : A) (expected : B) (answer : Result C Stop) (gives : Openings → Result B Refusal) (next : B → Openings → Result D Refusal)
    (rest : Openings → Openings) (before mid : Option Held) → Leads CanBe (Ok value) gives rest before mid → CanBe value expected → Ends CanBe' answer (next expected) mid →
    Ends CanBe' answer (λ o. and_then (gives o) (λ b. next b (rest o))) before
ends_after CanBe CanBe' value expected (Ok v) gives next rest before mid one can two = λ e is.
    let (m, m_can, m_gives) = two e is in
    let (o, o_can, (o_gives, o_rest)) = one expected can m m_can in
    (o, o_can, rw (o_gives, o_rest) m_gives)
ends_after CanBe CanBe' value expected (Err s) gives next rest before mid one can two = failed_after CanBe value expected s gives next rest before mid one can two

-- what the last step gave is part of what is expected
pub ends_with : {A B C D : Type 0} (CanBe : A → B → Type 0) (CanBe' : C → D → Type 0) (value : A) (whole : C) (gives : Openings → Result B Refusal) (build : B → D) (before : Option Held) →
    Ends CanBe (Ok value) gives before → ((e : D) → CanBe' whole e → (b : B) × CanBe value b × (build b ≡ e)) → Ends CanBe' (Ok whole) (λ o. and_then (gives o) (λ b. Ok (build b))) before
ends_with CanBe CanBe' value whole gives build before last part = λ e is.
    let (b, can, same) = part e is in
    let (o, o_can, gave) = last b can in
    (o, o_can, rw gave (ap Ok same))

-- ---- what a tool answers

-- what is so of what comes after a step that gave a value
pub so_after : {A B : Type 0} (P : Result B Refusal → Type 0) (value : A) (gives : Openings → Result A Refusal) (next : A → Openings → Result B Refusal) (rest : Openings → Openings) (before mid : Option Held) →
    Leads Is (Ok value) gives rest before mid → ForSome mid (λ o. P (next value o)) → ForSome before (λ o. P (and_then (gives o) (λ v. next v (rest o))))
so_after P value gives next rest before mid one two =
    let (m, m_can, so) = two in
    let (o, o_can, (gave, goes)) = one value refl m m_can in
    (o, o_can, rw (gave, goes) so)

-- what is so of all that the last step that opens files can have given
pub so_at_end : {I X B : Type 0} (P : Result B Refusal → Type 0) (CanBe : I → X → Type 0) (input : I) (gives : Openings → Result X Refusal) (build : X → B) (held : Option Held) → Ends CanBe (Ok input) gives held →
    ((x : X) × CanBe input x × P (Ok (build x))) → ForSome held (λ o. P (and_then (gives o) (λ x. Ok (build x))))
so_at_end P CanBe input gives build held ends some =
    let (x, can, so) = some in
    let (o, o_can, gave) = ends x can in
    (o, o_can, rw gave so)

-- what it says of what the steps gave
pub answered : {A C : Type 0} (value : A) (answer : Result C Stop) (gives : Openings → Result A Refusal) (next : A → Result C Refusal) (rest : Openings → Openings) (before after : Option Held) →
    Leads Is (Ok value) gives rest before after → Answers answer (next value) → ForSome before (λ o. Answers answer (and_then (gives o) next))
answered value answer gives next rest before after one h =
    let (later, can) = some_openings after in
    so_after (Answers answer) value gives (λ v o. next v) rest before after one (later, can, h)

-- a step that failed ends it
pub refused : {C : Type 0} (s : Stop) (gives : Openings → Result C Refusal) (before : Option Held) → Stops s gives before → ForSome before (λ o. Answers (Err s) (gives o))
refused (stop.Refused refusal) gives before one = one
refused stop.Memory gives before one =
    let (o, can) = some_openings before in
    (o, can, tt)

-- also the first of several steps
pub refused_first : {A C : Type 0} (answer : Result C Stop) (s : Stop) (gives : Openings → Result A Refusal) (next : Openings → A → Result C Refusal) (before : Option Held) → answer ≡ Err s →
    Stops s gives before → ForSome before (λ o. Answers answer (and_then (gives o) (next o)))
refused_first answer s gives next before same one = rw same (refused s (λ o. and_then (gives o) (next o)) before (failed s gives next before one))
