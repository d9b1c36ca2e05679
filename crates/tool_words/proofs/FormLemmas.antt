-- How what words ask for follows from their matches, for any command.
use Rattle.tool_words.proofs.Words.{◌≡◌, ◌⊎◌, inl, inr, Bool, true, false, List, [], ◌∷◌, Option, None, Result, Err, refl, subst, IsAmong, Kinds, App}
use Rattle.tool_words.proofs.Words.{Row, Text, fault_of, is_simple, is_simple_and_free, matches_of, ErrorKind, WordsFault, BadWords, Memory, Answers}
use Rattle.tool_words.proofs.Words.{AreMatches, HasSomeKind, ToolForm, app_by, fault_by, read_by, unless_refused}
use Rattle.std.specs.Prelude.{◌&&◌}
use Rattle.clap.specs.declared.error.kind.ErrorKind.TheVariants as kind

-- a kind of refusal is among those that there are
pub some_kind : (k : ErrorKind) (kinds : Kinds) → IsAmong k kinds → HasSomeKind kinds
some_kind k [] h = absurd h
some_kind k (x ∷ xs) h = tt

-- words that `clap` refuses, or at which memory ran out
pub refused : (app : App) (words : List Text) (k : ErrorKind) → (k ≡ kind.OutOfMemory) ⊎ IsAmong k (fault_of app words)
    → AreMatches (Err (fault_by k)) app words
refused app words k (inl e) = rw e tt
refused app words k (inr h) = by (fault_by k)
  where
    by : (fault : WordsFault) → AreMatches (Err fault) app words
    by BadWords = some_kind k (fault_of app words) h
    by Memory = tt

-- what refused words ask for
pub nothing_asked : {A : Type 0} (kinds : Kinds) (given : Option A) → HasSomeKind kinds → unless_refused kinds given ≡ None
nothing_asked [] given h = absurd h
nothing_asked (k ∷ ks) given h = refl

-- a fault of the matches is the answer
pub answers_fault : {A : Type 0} (form : ToolForm A) (own : App) (words : List Text) (fault : WordsFault) → own ≡ app_by form
    → AreMatches (Err fault) own words → Answers (Err fault) (read_by form words)
unfolding read_by
answers_fault form own words BadWords e h =
    nothing_asked (fault_of (app_by form) words) (form.asked (matches_of (app_by form) words)) (subst (λ (a : App). HasSomeKind (fault_of a words)) e h)
answers_fault form own words Memory e h = tt

-- what the matches ask for is the answer
pub answers_matches : {A : Type 0} (form : ToolForm A) (own : App) (words : List Text) (rows : List Row) (answer : Result A WordsFault) → own ≡ app_by form
    → (fault_of own words ≡ []) × (rows ≡ matches_of own words) → Answers answer (form.asked rows) → Answers answer (read_by form words)
unfolding read_by
answers_matches form own words rows answer e h a =
    let fine : fault_of (app_by form) words ≡ [] = subst (λ (a : App). fault_of a words ≡ []) e h.0 in
    let same : rows ≡ matches_of (app_by form) words = subst (λ (a : App). rows ≡ matches_of a words) e h.1 in
    rw fine (subst (λ (r : List Row). Answers answer (form.asked r)) same a)

-- a command whose faults are known is one whose matches are
pub simple_too : (app : App) → is_simple_and_free app ≡ true → is_simple app ≡ true
simple_too app h = go (is_simple app) _ h
  where
    go : (simple free : Bool) → simple && free ≡ true → simple ≡ true
    go true free h = refl
    go false free h = cc
