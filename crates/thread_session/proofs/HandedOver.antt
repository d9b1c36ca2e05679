-- Occurrences handed over as numbers, one after another.
use Rattle.thread_session.proofs.Words.{◌≡◌, ℕ, zero, suc, ◌+◌, ◌/◌, ◌%◌, ◌<◌, ◌≤◌, ◌⊎◌, inl, inr, List, [], ◌∷◌, ◌++◌, length, min, min-eq_left, min-eq_right, refl, ap, ap₂}
use Rattle.thread_session.proofs.Words.{sym, subst, ◌∙◌, arith, append-nil, append_assoc, Occ, Dry, Note, Book, Account, StepOutcome, CoreView, CoreStands, AgreesWith}
use Rattle.thread_session.proofs.Words.{leb, nat_lt, nat_le, ltb-true, Bool, true, false, ◌&&◌, if◌then◌else◌, Some, None, map, Run, step, expecting, ReaderView, IsReady}
use Rattle.thread_session.proofs.Words.{LAST_STAMP, MOST_OCCURRENCES, next_stamp, note, notes_at, consumed}
use Rattle.thread_session.proofs.Words.{SessionView, Happening, Happens, largest_ones, last_one, occurrence, occurrences, run_over, time_after}
use Rattle.std.proofs.lemmas.Bool.Decides.{leb_tells}
use Rattle.session_model.specs.declared.reply.Ended.TheVariants as ended
use Rattle.thread_session.proofs.Endings.{core_at}
use Rattle.thread_session.proofs.Outcomes.{ran_to, whole}
use Rattle.thread_session.proofs.Runs.{HasTaken, taken_more}

-- one more of the largest amount
one_larger : (what : Happening) (n stamp : ℕ) → largest_ones what (suc n) stamp ≡ largest_ones what n stamp ++ occurrence what 255 (stamp + n) ∷ []
unfolding largest_ones
one_larger what zero stamp = ap (λ (t : ℕ). occurrence what 255 t ∷ []) (let e : stamp ≡ stamp + 0 = omega arith in e)
one_larger what (suc n) stamp =
    ap (λ (os : List Occ). occurrence what 255 stamp ∷ os)
    (one_larger what n (stamp + 1) ∙ ap (λ (t : ℕ). largest_ones what n (stamp + 1) ++ occurrence what 255 t ∷ []) (let e : stamp + 1 + n ≡ stamp + suc n = omega arith in e))

-- an amount by how often the largest one goes into it, and what is left then
in_parts : (what : Happening) (amount n left stamp : ℕ) → amount / 255 ≡ n → amount % 255 ≡ left → occurrences what amount stamp ≡ largest_ones what n stamp ++ last_one what left (stamp + n)
in_parts what amount n left stamp d m = ap₂ (λ (x y : ℕ). largest_ones what x stamp ++ last_one what y (stamp + x)) d m

one_last : (what : Happening) (left stamp : ℕ) → 0 < left → last_one what left stamp ≡ occurrence what left stamp ∷ []
one_last what zero stamp some = absurd (omega (arith, some))
one_last what (suc left) stamp some = refl

-- after occurrences of the largest amount one more comes
pub occurrences_more : (what : Happening) (went left stamp : ℕ) → 0 < left → went % 255 ≡ 0
    → occurrences what (went + min left 255) stamp ≡ occurrences what went stamp ++ occurrence what (min left 255) (stamp + went / 255) ∷ []
occurrences_more what went left stamp some even = go (leb_tells 255 left) where
  before : occurrences what went stamp ≡ largest_ones what (went / 255) stamp
  before = in_parts what went (went / 255) 0 stamp refl even ∙ append-nil (largest_ones what (went / 255) stamp)

  by : (amount : ℕ) → min left 255 ≡ amount → occurrences what (went + amount) stamp ≡ largest_ones what (went / 255) stamp ++ occurrence what amount (stamp + went / 255) ∷ []
      → occurrences what (went + min left 255) stamp ≡ occurrences what went stamp ++ occurrence what (min left 255) (stamp + went / 255) ∷ []
  by amount is e = subst (λ (x : ℕ). occurrences what (went + x) stamp ≡ occurrences what went stamp ++ occurrence what x (stamp + went / 255) ∷ []) (sym is)
      (e ∙ ap (λ (os : List Occ). os ++ occurrence what amount (stamp + went / 255) ∷ []) (sym before))

  go : ((leb 255 left ≡ true) × (255 ≤ left)) ⊎ ((leb 255 left ≡ false) × (left < 255))
      → occurrences what (went + min left 255) stamp ≡ occurrences what went stamp ++ occurrence what (min left 255) (stamp + went / 255) ∷ []
  go (inl (told, most)) = by 255 (min-eq_right most)
      (in_parts what (went + 255) (suc (went / 255)) 0 stamp (omega (arith, even)) (omega (arith, even)) ∙ append-nil (largest_ones what (suc (went / 255)) stamp) ∙ one_larger what (went / 255) stamp)
  go (inr (told, fewer)) = by left (min-eq_left (omega (arith, fewer)))
      (in_parts what (went + left) (went / 255) left stamp (omega (arith, even, fewer)) (omega (arith, even, fewer))
      ∙ ap (λ (os : List Occ). largest_ones what (went / 255) stamp ++ os) (one_last what left (stamp + went / 255) some))

-- the next occurrence is of what is left, or of the largest amount
pub of_what_is_left : (left m : ℕ) → m ≡ min left 255 → (m ≤ left) × (m < left → m ≡ 255)
of_what_is_left left m is = go (leb_tells 255 left) where
  go : ((leb 255 left ≡ true) × (255 ≤ left)) ⊎ ((leb 255 left ≡ false) × (left < 255)) → (m ≤ left) × (m < left → m ≡ 255)
  go (inl (told, most)) = let e = is ∙ min-eq_right most in (omega (arith, e, most), λ less. e)
  go (inr (told, fewer)) = let e = is ∙ min-eq_left (omega (arith, fewer)) in (omega (arith, e), λ less. absurd (omega (arith, e, less)))

stamp_told : (few soon : Bool) (t stamp : ℕ) → Some stamp ≡ (if few && soon then Some t else None) → (few ≡ true) × (stamp ≡ t)
stamp_told true true t stamp e = (refl, cc)
stamp_told true false t stamp e = absurd cc
stamp_told false soon t stamp e = absurd cc

-- there is a stamp for one more
pub stamp_is : (core : CoreView) (stamp : ℕ) → Some stamp ≡ next_stamp core → (core.taken < MOST_OCCURRENCES) × (stamp ≡ time_after core.last)
stamp_is core stamp e =
    let told = stamp_told (nat_lt core.taken MOST_OCCURRENCES) (nat_le (time_after core.last) LAST_STAMP) (time_after core.last) stamp e in
    (ltb-true core.taken MOST_OCCURRENCES told.0, told.1)

-- nothing has happened yet
taken_none : (book : Book) (core : CoreView) (what : Happening) → AgreesWith book core → HasTaken book core core (occurrences what 0 (time_after core.last)) [] []
unfolding largest_ones
taken_none book core what agrees = record {
  shape = refl;
  agrees = agrees;
  stands = λ a h. subst (λ (past : List Occ). CoreStands book core (record a { past = past })) (sym (append-nil a.past)) h;
  notes = λ a h. refl;
}

pub taken_first : {book : Book} {old : SessionView} {core : CoreView} {reader : ReaderView} (what : Happening) → record { core = core; reader = reader } ≡ old → IsReady book old
    → HasTaken book old.core core (occurrences what 0 (time_after old.core.last)) [] []
taken_first {book} {old} {core} {reader} what is ready =
    subst (λ (v : SessionView). AgreesWith book v.core → HasTaken book v.core core (occurrences what 0 (time_after v.core.last)) [] []) is (taken_none book core what) ready.agrees

-- one occurrence more
pub taken_next : {book : Book} {old core core_then : CoreView} {before after after_then : List Note} {thread left m stamp : ℕ} {o : Occ} (what : Happening) (went set : ℕ) (passed : List ℕ)
    → o ≡ occurrence what (min left 255) stamp → m ≡ o.amount → 0 < left → went % 255 ≡ 0 → stamp ≡ time_after core.last → time_after core.last ≡ time_after old.last + went / 255
    → thread ≡ old.thread → after_then ≡ after ++ map (note thread set o) passed
    → core_then.shape ≡ core.shape → ((b : Book) → AgreesWith b core → AgreesWith b core_then)
    → ((b : Book) (a : Account) → CoreStands b core a → CoreStands b core_then (consumed a o))
    → ((b : Book) (a : Account) → CoreStands b core a → notes_at b a.thread a.past o 0 a.sets ≡ map (note a.thread set o) passed)
    → HasTaken book old core (occurrences what went (time_after old.last)) before after
    → HasTaken book old core_then (occurrences what (went + m) (time_after old.last)) before after_then
taken_next {book} {old} {core} {core_then} {before} {after} {after_then} {thread} {left} {m} {stamp} {o} what went set passed is amount some even now time same delivered shape agrees stands notes t =
    subst (λ (os : List Occ). HasTaken book old core_then os before after_then) (sym more) (taken_more set passed same delivered shape agrees stands notes t) where
      much : m ≡ min left 255
      much = amount ∙ ap (λ (x : Occ). x.amount) is

      here : o ≡ occurrence what (min left 255) (time_after old.last + went / 255)
      here = is ∙ ap (occurrence what (min left 255)) (now ∙ time)

      more : occurrences what (went + m) (time_after old.last) ≡ occurrences what went (time_after old.last) ++ o ∷ []
      more = ap (λ (x : ℕ). occurrences what (went + x) (time_after old.last)) much ∙ occurrences_more what went left (time_after old.last) some even
          ∙ ap (λ (x : Occ). occurrences what went (time_after old.last) ++ x ∷ []) (sym here)

-- what a core took is what a run over it does
pub happened : (book : Book) (old : SessionView) (core : CoreView) (reader : ReaderView) (what : Happening) (amount : ℕ) (notes : List Note) → reader ≡ old.reader → HasTaken book old.core core (occurrences what amount (time_after old.core.last)) [] notes
    → Happens book old (record { core = core; reader = reader }) what amount notes
happened book old core reader what amount notes still t = record {
  core = λ a h. subst (λ (x : StepOutcome). CoreStands book core x.account) (sym (is a)) (core_at book core _ [] Dry (t.stands a h));
  notes = λ a h. t.notes a h ∙ ap (λ (x : StepOutcome). x.notes) (sym (is a));
  reader = still;
  shape = t.shape;
} where
  os : List Occ
  os = occurrences what amount (time_after old.core.last)

  is : (a : Account) → run_over book old os a ≡ ran_to book a os [] Dry ended.Going
  is a = ap (λ (rest : List Occ). step book old.core.shape (expecting (record { rest = rest; mark = Dry }) a) (Run (length os))) (sym (append-nil os)) ∙ whole book old.core.shape a (length os) os [] Dry refl

-- nothing has happened
pub happened_not : (book : Book) (old : SessionView) (what : Happening) → IsReady book old → Happens book old old what 0 []
happened_not book old what ready = happened book old old.core old.reader what 0 [] refl (taken_none book old.core what ready.agrees)
