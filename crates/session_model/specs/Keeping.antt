-- What calls keep.
use Rattle.std.specs.Prelude.{◌≡◌, ℕ, ◌++◌, List, length}
use Rattle.papi_base.specs.declared.occurrence.Occ.{Occ}
use Rattle.papi_base.specs.Streams.{Mark}
use Rattle.postfix_rules.specs.Presets.{Book}
use Rattle.event_sets.specs.AtRest.{Widths}
use Rattle.postfix_rules.specs.Fitting.{BookFits}
use Rattle.session_model.specs.CallTypes.{Call}
use Rattle.session_model.specs.Account.{Account, opening}
use Rattle.session_model.specs.Bounds.{AllValued, AllWithin, AreApart, Rises}
use Rattle.session_model.specs.Conditions.{AllAgree, IsGood}
use Rattle.session_model.specs.Fitness.{AreFit, IsShape}
use Rattle.session_model.specs.Faces.{faces_of}
use Rattle.session_model.specs.Step.{step}

-- the sets of an opening account agree with each book: it has none
abbrev pub OpeningAgrees : Type 0
OpeningAgrees = (book : Book) (thread : ℕ) (rest : List Occ) (mark : Mark) → AllAgree book (faces_of (opening thread rest mark).sets)

-- each good call keeps the agreement of the sets with the book
abbrev pub AgreementStays : Type 0
AgreementStays = (book : Book) (shape : Widths) (a : Account) (call : Call)
    → IsGood book shape call → AllAgree book (faces_of a.sets)
    → AllAgree book (faces_of (step book shape a call).account.sets)

-- the window of each set of an opening account lies in the past: it has no sets
abbrev pub OpeningWithin : Type 0
OpeningWithin = (thread : ℕ) (rest : List Occ) (mark : Mark) → AllWithin 0 (opening thread rest mark).sets

-- each window lies in the past
abbrev pub WithinStays : Type 0
WithinStays = (book : Book) (shape : Widths) (a : Account) (call : Call) → AllWithin (length a.past) a.sets
    → AllWithin (length (step book shape a call).account.past) (step book shape a call).account.sets

-- the stamps of the past rise if those of all occurrences did, and those of all occurrences go on to do so
abbrev pub RiseStays : Type 0
RiseStays = (book : Book) (shape : Widths) (a : Account) (call : Call) → Rises 0 (a.past ++ a.rest)
    → Rises 0 (step book shape a call).account.past × Rises 0 ((step book shape a call).account.past ++ (step book shape a call).account.rest)

-- in an opening account no two sets run on one component: it has no sets
abbrev pub OpeningApart : Type 0
OpeningApart = (thread : ℕ) (rest : List Occ) (mark : Mark) → AreApart (faces_of (opening thread rest mark).sets)

-- of each component at most one set runs
abbrev pub ApartStays : Type 0
ApartStays = (book : Book) (shape : Widths) (a : Account) (call : Call)
    → AreApart (faces_of a.sets) → AreApart (faces_of (step book shape a call).account.sets)

-- the places of a thread's sets
abbrev pub PlacesStay : Type 0
PlacesStay = (book : Book) (shape : Widths) (a : Account) (call : Call) → length (step book shape a call).account.sets ≡ length a.sets

-- in an opening account each set has a caller's value for each event: it has no sets
abbrev pub OpeningValued : Type 0
OpeningValued = (thread : ℕ) (rest : List Occ) (mark : Mark) → AllValued (opening thread rest mark).sets

-- the caller's values of each set are one for each event
abbrev pub ValuesStay : Type 0
ValuesStay = (book : Book) (shape : Widths) (a : Account) (call : Call) → AllValued a.sets → AllValued (step book shape a call).account.sets

-- the sets of an opening account fit each book and each shape: it has none
abbrev pub OpeningFits : Type 0
OpeningFits = (book : Book) (shape : Widths) (thread : ℕ) (rest : List Occ) (mark : Mark) → AreFit book shape (opening thread rest mark).sets

-- each set goes on to fit the book and the shape
abbrev pub FitStays : Type 0
FitStays = (book : Book) (shape : Widths) (a : Account) (call : Call)
    → IsShape shape → BookFits shape book → IsGood book shape call
    → AreFit book shape a.sets → AreFit book shape (step book shape a call).account.sets
