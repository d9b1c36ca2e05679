-- What holds of a core for which there is an account, and what a core is after an occurrence.
use Rattle.thread_core.proofs.Words.{LAST_STAMP, MOST_OCCURRENCES, NUMBER_BITS, Turns, List, Occ, Kept, Native, ℕ, length, ◌≡◌, turned, [], refl, ◌∷◌}
use Rattle.thread_core.proofs.Words.{arith, ap, suc, ◌≤◌, Rises, All, ◌<◌, ◌^◌, weighed, weight_in_turn, Book, Widths, IsFit, true, IsCountable, Some}
use Rattle.thread_core.proofs.Words.{slot_of, Option, sym, None, subst, IsTurn, Counting, ⊤, set_natives, numbers_of, RotationView, turns_of, ◌∙◌}
use Rattle.thread_core.proofs.Words.{CoreView, AgreesWith, owner_from, map, option_map, face_of_slot, length-map, slice_get_within, Account, faces_of}
use Rattle.thread_core.proofs.Words.{UnitView, Slot, units_of, slots_of, CountedAll, ◌+◌, counted_all, time_after, CoreStands, consumed, last_after}
use Rattle.thread_core.proofs.Words.{ap₂, ◌++◌, notes_at, note, set, All-nil, All-cons, AreCountable, length-append, last_after-append, rises-push}
use Rattle.thread_core.proofs.Words.{within_more}
use Rattle.thread_core.proofs.Weighing.{weighed-le, turn_small}
use Rattle.thread_slots.specs.declared.slot.Counting.TheVariants as counting
use Rattle.thread_core.proofs.Squares.{numbers-length, kept_as, kept_cases}
use Rattle.thread_core.proofs.Owners.{length-units, Runs, runs_by}
use Rattle.thread_core.proofs.Looking.{under}
use Rattle.thread_core.proofs.Following.{faces_stand}
use Rattle.thread_core.proofs.Occurring.{all_follow}

pub length-turned : (t : Turns) (past : List Occ) (s : Kept) (ns : List Native) (gs : List ℕ) → length gs ≡ length ns → length (turned t past s ns gs) ≡ length ns
length-turned t past s [] gs e = refl
length-turned t past s (n ∷ ns) [] e = absurd (omega arith)
length-turned t past s (n ∷ ns) (g ∷ gs) e = ap suc (length-turned t past s ns gs (omega arith))

turned-room : (t : Turns) (past : List Occ) (s : Kept) (ns : List Native) (gs : List ℕ) → length past ≤ MOST_OCCURRENCES → Rises 0 past → All (λ t. t < 2 ^ NUMBER_BITS) (turned t past s ns gs)
turned-room t past s [] gs few r = All-nil (λ t. t < 2 ^ NUMBER_BITS)
turned-room t past s (n ∷ ns) [] few r = All-nil (λ t. t < 2 ^ NUMBER_BITS)
turned-room t past s (n ∷ ns) (g ∷ gs) few r =
    All-cons (λ t. t < 2 ^ NUMBER_BITS) (weighed (weight_in_turn t g n s.set.domain) past s) (turned t past s ns gs)
    (let most = weighed-le (weight_in_turn t g n s.set.domain) past s (turn_small t g n s.set.domain) r in omega arith) (turned-room t past s ns gs few r)

-- what holds of natives that take turns, by how their set counts
pub by_turns : (P : RotationView → ℕ → List ℕ → Type 0) (r q : RotationView) (begun time : ℕ) (kept counts : List ℕ)
    → counting.InTurns r begun kept ≡ counting.InTurns q time counts → P r begun kept → P q time counts
by_turns P r q begun time kept counts same holds = subst of same holds where
  of : Counting → Type 0
  of (counting.Stopped ks) = ⊤
  of (counting.OnUnit pins armed places) = ⊤
  of (counting.InTurns x now ks) = P x now ks

-- a set of a core can be counted
slot_countable : (book : Book) (shape : Widths) (past : List Occ) → length past ≤ MOST_OCCURRENCES → Rises 0 past → (s : Kept) → IsCountable (slot_of book shape past s)
slot_countable book shape past few rises = kept_cases _
    (λ s. record { turning = λ r begun kept e. cc })
    (λ s. record { turning = λ r begun kept e. cc })
    (λ s slice.
    let t = kept_as s true (Some slice) in
    let ns = set_natives book t.set in
    let gs = numbers_of book t.set in
    let u = turns_of slice gs past t in
    let one = numbers-length book t.set in
    record {
      turning = λ r begun kept e. by_turns (λ x now ks. IsTurn ns x ks) _ r _ begun _ kept e (record {
        room = turned-room u past t ns gs few rises;
        same_length = length-turned u past t ns gs one;
        grouped = one;
      });
    })

pub past_short : (book : Book) (core : CoreView) (h : AgreesWith book core) → length h.account.past ≤ MOST_OCCURRENCES
past_short book core h = let t = h.stands.taken in let l = h.stands.in_limits in omega arith

-- the set that runs on the occurrence's component can be counted
pub countable : (book : Book) (core : CoreView) (comp k : ℕ) → AgreesWith book core
    → owner_from comp 0 (map (option_map face_of_slot) core.slots) ≡ Some k → AreCountable core.units core.slots comp k
countable book core comp k h e = record {
  has_unit = rw (h.stands.units, length-units book a.past a.sets 0 core.shape) (fit.has_component comp r.component);
  has_place = rw (h.stands.slots, length-map a.sets (option_map (slot_of book core.shape a.past))) (slice_get_within a.sets k (Some r.set) r.at);
  countable = λ slot here.
      let u = under book core h.account k slot h.stands here in
      subst IsCountable u.is (slot_countable book core.shape h.account.past (past_short book core h) h.stands.rises u.set);
} where
  a : Account
  a = h.account

  owns : owner_from comp 0 (faces_of h.account.sets) ≡ Some k
  owns = sym (ap (owner_from comp 0) (faces_stand book core h.account h.stands)) ∙ e

  r : Runs h.account.sets comp k
  r = runs_by h.account.sets comp k owns

  fit : IsFit book core.shape r.set.set
  fit = h.stands.fit.fit k r.set r.at

-- the core after an occurrence
abbrev pub after_taking : CoreView → Occ → CountedAll → CoreView
after_taking core o c = record core { slots = c.slots; units = c.units; taken = core.taken + 1; last = Some o }

pub taken_stands : (book : Book) (core : CoreView) (a : Account) (o : Occ) (c : CountedAll) → c ≡ counted_all core.last o core.units core.slots → o.amount ≤ 255 → time_after core.last ≤ o.stamp → core.taken < MOST_OCCURRENCES → CoreStands book core a → CoreStands book (after_taking core o c) (consumed a o)
taken_stands book core a o c is small rises few h =
    let f = all_follow book core.shape a.past o a.sets h.shape h.fit h.within h.apart small in
    let same : c ≡ counted_all (last_after None a.past) o (units_of book core.shape a.past a.sets) (slots_of book core.shape a.past a.sets) =
    is ∙ ap (λ b. counted_all b o core.units core.slots) h.last ∙ ap₂ (counted_all (last_after None a.past) o) h.units h.slots in
    let longer : length (a.past ++ o ∷ []) ≡ length a.past + 1 = length-append a.past (o ∷ []) in
    let time : time_after (last_after None a.past) ≤ o.stamp = rw (← h.last) rises in
    record {
      thread = h.thread;
      registered = h.registered;
      slots = ap (λ (x : CountedAll). x.slots) same ∙ f.slots;
      units = ap (λ (x : CountedAll). x.units) same ∙ f.units;
      taken = omega (arith, h.taken);
      last = sym (last_after-append None a.past o);
      places = h.places;
      rises = rises-push None a.past o h.rises time small;
      within = within_more (length a.past) (length (a.past ++ o ∷ [])) a.sets (omega arith) h.within;
      apart = h.apart;
      fit = h.fit;
      shape = h.shape;
      in_limits = omega arith;
    }

pub taken_notes : (book : Book) (core : CoreView) (a : Account) (o : Occ) (c : CountedAll) → c ≡ counted_all core.last o core.units core.slots → o.amount ≤ 255 → CoreStands book core a → notes_at book a.thread a.past o 0 a.sets ≡ map (note a.thread c.set o) c.passed
taken_notes book core a o c is small h =
    let f = all_follow book core.shape a.past o a.sets h.shape h.fit h.within h.apart small in
    let same : c ≡ counted_all (last_after None a.past) o (units_of book core.shape a.past a.sets) (slots_of book core.shape a.past a.sets) =
    is ∙ ap (λ b. counted_all b o core.units core.slots) h.last ∙ ap₂ (counted_all (last_after None a.past) o) h.units h.slots in
    f.notes a.thread ∙ ap (λ (x : CountedAll). map (note a.thread x.set o) x.passed) (sym same)

pub taken_agrees : (book : Book) (core : CoreView) (o : Occ) (c : CountedAll) → c ≡ counted_all core.last o core.units core.slots → o.amount ≤ 255 → time_after core.last ≤ o.stamp → o.stamp ≤ LAST_STAMP → core.taken < MOST_OCCURRENCES → AgreesWith book core → AgreesWith book (after_taking core o c)
taken_agrees book core o c is small rises stamp few h = record {
  fits = h.fits;
  account = consumed h.account o;
  stands = taken_stands book core h.account o c is small rises few h.stands;
  in_time = omega arith;
}

-- what the code computed, part by part
pub counted_is : (before last : Option Occ) (o : Occ) (units new_units : List UnitView) (slots new_slots : List (Option Slot)) (set : ℕ) (passed : List ℕ) → before ≡ last
    → new_units ≡ (counted_all before o units slots).units → new_slots ≡ (counted_all before o units slots).slots → set ≡ (counted_all before o units slots).set → passed ≡ (counted_all before o units slots).passed
    → record { units = new_units; slots = new_slots; set = set; passed = passed } ≡ counted_all last o units slots
counted_is before last o units new_units slots new_slots set passed same u s n p =
    (λ i. record { units = u i; slots = s i; set = n i; passed = p i }) ∙ ap (λ b. counted_all b o units slots) same
