-- What a set's values are, over any list of calls: PAPI_read(3), PAPI_stop(3), PAPI_accum(3).
use Rattle.std.specs.Prelude.{ℕ, ◌≡◌, ◌+ℤ◌, ℤ, pos, true, if◌then◌else◌, List, [], ◌∷◌, ◌++◌, length, map, replicate}
use Rattle.papi_base.specs.declared.occurrence.Occ.{Occ}
use Rattle.postfix_rules.specs.Presets.{Book}
use Rattle.postfix_rules.specs.Values.{wrapped}
use Rattle.session_model.specs.CallTypes.{Call}
use Rattle.call_type.specs.declared.call.Call.TheVariants as call
use Rattle.session_model.specs.declared.reply.Body.TheVariants as body
use Rattle.session_model.specs.Replies.{done}
use Rattle.call_laws.specs.History.{CallReply, OccAfter, Thread, answered, is_ok, newly_taken, reply_after}
use Rattle.call_laws.specs.Measures.{values_over}
use Rattle.call_laws.specs.SetCalls.{accumulates, clears, set_now, runs_now, zeroes}

-- the window of a set: the occurrences that were taken while it ran, since the last call that zeroes
abbrev pub window : List Occ → ℕ → List CallReply → List OccAfter
window stream k [] = []
window stream k (x ∷ earlier) =
    if zeroes k x then []
    else window stream k earlier ++ (if runs_now k earlier then newly_taken stream x earlier else [])

-- the values of the set of this number
abbrev pub values_now : Book → List Occ → ℕ → List CallReply → List ℤ
values_now book stream k earlier = values_over book (set_now book k earlier) (window stream k earlier)

-- if the call is carried out, it replies with these values of the set
abbrev pub Shows : (ℕ → Call) → (Book → List Occ → ℕ → List CallReply → List ℤ) → Type 0
Shows c values = (t : Thread) (calls : List Call) (k : ℕ)
    → is_ok (reply_after t calls (c k)).code ≡ true
    → reply_after t calls (c k) ≡ done (body.Values (values t.book t.stream k (answered t calls)))

-- `read` shows the values over the window
abbrev pub ReadShows : Type 0
ReadShows = Shows call.Read values_now

-- and so does `stop`
abbrev pub StopShows : Type 0
StopShows = Shows call.Stop values_now

-- ---- the caller's values

-- the values at each `accum` of the set, the latest first, since the set was made, was given or lost an event, or was emptied
abbrev pub added : Book → List Occ → ℕ → List CallReply → List (List ℤ)
added book stream k [] = []
added book stream k (x ∷ earlier) =
    if clears k x then []
    else (if accumulates k x then values_now book stream k earlier ∷ [] else []) ++ added book stream k earlier

-- two rows of numbers, added column by column
abbrev pub plus : List ℤ → List ℤ → List ℤ
plus [] ys = []
plus (x ∷ xs) [] = []
plus (x ∷ xs) (y ∷ ys) = (x +ℤ y) ∷ plus xs ys

-- the sum of each of n columns
abbrev pub column_sums : ℕ → List (List ℤ) → List ℤ
column_sums n [] = replicate n (pos 0)
column_sums n (row ∷ rows) = plus row (column_sums n rows)

-- the sums of n columns, wrapped to signed 64 bits
abbrev pub wrapped_sums : ℕ → List (List ℤ) → List ℤ
wrapped_sums n rows = map wrapped (column_sums n rows)

-- the caller's values with those of the set added: the wrapped sums of the values at each `accum` and now
abbrev pub sums_now : Book → List Occ → ℕ → List CallReply → List ℤ
sums_now book stream k earlier =
    wrapped_sums (length (set_now book k earlier).events) (values_now book stream k earlier ∷ added book stream k earlier)

-- `accum` shows the caller's values with those of the set added
abbrev pub AccumShows : Type 0
AccumShows = Shows call.Accum sums_now
