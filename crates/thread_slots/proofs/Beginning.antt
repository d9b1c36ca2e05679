-- What the loops that start a set do, one item more.
use Rattle.thread_slots.proofs.Words.{◌≡◌, ℕ, zero, suc, ◌+◌, ◌≤◌, ◌⊎◌, inl, inr, false, ◌&&◌, List, [], ◌∷◌, ◌++◌, length, get_or, set, take, drop}
use Rattle.thread_slots.proofs.Words.{replicate, refl, ap, ap₂, sym, ◌∙◌, arith, Option, Some, None, slice_get, length-append, ◌==◌, nat_lt}
use Rattle.thread_slots.proofs.Words.{option_map_or, position_or_len, cond-true, cond-false, eq-eqb, ne_eqb, lt-ltb, slice_get-get_or}
use Rattle.thread_slots.proofs.Words.{slice_get_within, number_at, Native, EventRef, Domain, Register, IsThreshold, Book, lead, same_native}
use Rattle.thread_slots.proofs.Words.{counters_for, AtRest, Widths, leads, set_natives, widths_at, IsFit, threshold_among, Pin, place_of_lead}
use Rattle.thread_slots.proofs.Words.{programs, ◌-◌, ◌<◌, true, and_from, and_left, and_right, take-append_seam, drop-replicate, get_or-replicate}
use Rattle.thread_slots.proofs.Words.{length-replicate, begun, begun_is, held_have_natives, IsHeld, is_bad_slice, armed_event, armed_from, IsArmable}
use Rattle.thread_slots.proofs.Lists.{all_at, drop_at}
use Rattle.thread_slots.proofs.Placing.{ArePlaced, above, get_position, lead_among, placed}

pub threshold_hit : (book : Book) (n : Native) (es : List EventRef) (ts : List ℕ) (i t : ℕ) (e : EventRef) → slice_get es i ≡ Some e → slice_get ts i ≡ Some t → (t ≡ 0 → ⊥) → leads book n e ≡ true
    → threshold_among book n (drop i es) (drop i ts) ≡ threshold_among book n es ts → t ≡ threshold_among book n es ts
threshold_hit book n es ts i t e f g some led h =
    let test = and_from (nat_lt 0 t) (leads book n e) (lt-ltb 0 t (omega arith)) led in
    sym (cond-true (nat_lt 0 t && leads book n e) t (threshold_among book n (drop (i + 1) es) (drop (i + 1) ts)) test) ∙ sym (ap₂ (threshold_among book n) (drop_at es i e f) (drop_at ts i t g)) ∙ h

pub threshold_miss : (book : Book) (n : Native) (es : List EventRef) (ts : List ℕ) (i t : ℕ) (e : EventRef) → slice_get es i ≡ Some e → slice_get ts i ≡ Some t → (t ≡ 0) ⊎ (leads book n e ≡ false)
    → threshold_among book n (drop i es) (drop i ts) ≡ threshold_among book n es ts → threshold_among book n (drop (i + 1) es) (drop (i + 1) ts) ≡ threshold_among book n es ts
threshold_miss book n es ts i t e f g isnt h =
    let test : (nat_lt 0 t && leads book n e) ≡ false = elim isnt [
      | inl none ↦ and_left (nat_lt 0 t) (leads book n e) (rw none refl)
      | inr other ↦ and_right (nat_lt 0 t) (leads book n e) other
    ] in
    sym (cond-false (nat_lt 0 t && leads book n e) t (threshold_among book n (drop (i + 1) es) (drop (i + 1) ts)) test) ∙ sym (ap₂ (threshold_among book n) (drop_at es i e f) (drop_at ts i t g)) ∙ h

pub programs_more : (ws : List ℕ) (d : Domain) (pins : List Pin) (rs all : List (Option Register)) (i : ℕ) (p : Pin) → slice_get pins i ≡ Some p → 16 ≤ get_or ws p.counter 0 → IsThreshold (get_or ws p.counter 0) p.threshold
    → programs ws d (λ n. 0) (drop i pins) rs ≡ all → programs ws d (λ n. 0) (drop (i + 1) pins) (set rs p.counter (Some (begun (get_or ws p.counter 0) p.native d p.threshold))) ≡ all
programs_more ws d pins rs all i p e low fits h =
    ap (λ r. programs ws d (λ n. 0) (drop (i + 1) pins) (set rs p.counter (Some r))) (begun_is (get_or ws p.counter 0) p.native d p.threshold low fits)
    ∙ sym (ap (λ ps. programs ws d (λ n. 0) ps rs) (drop_at pins i p e)) ∙ h

-- the counters that are watched, of the events before an index, and none from there on
length-armed_from : (book : Book) (ns : List Native) (cs : List ℕ) (es : List EventRef) (ts : List ℕ) → length ts ≡ length es → length (armed_from book ns cs es ts) ≡ length es
length-armed_from book ns cs [] ts e = refl
length-armed_from book ns cs (x ∷ es) [] e = absurd (omega arith)
length-armed_from book ns cs (x ∷ es) (t ∷ ts) e = ap suc (length-armed_from book ns cs es ts (omega arith))

abbrev pub all_armed : Book → List Native → List ℕ → List EventRef → List ℕ → List (Option ℕ)
all_armed book ns cs es ts = armed_from book ns cs es ts ++ replicate (32 - length es) None

abbrev pub none_armed : List (Option ℕ)
none_armed = replicate 32 None

pub length-all_armed : (book : Book) (ns : List Native) (cs : List ℕ) (es : List EventRef) (ts : List ℕ) → length ts ≡ length es → length es ≤ 32 → length (all_armed book ns cs es ts) ≡ length none_armed
length-all_armed book ns cs es ts one few =
    let none : Option ℕ = None in
    omega (arith, length-append (armed_from book ns cs es ts) (replicate (32 - length es) None), length-armed_from book ns cs es ts one, length-replicate (32 - length es) none, length-replicate 32 none)

pub armed_whole : (book : Book) (ns : List Native) (cs : List ℕ) (es : List EventRef) (ts : List ℕ) (i : ℕ) → length ts ≡ length es → i ≡ length es → take i (all_armed book ns cs es ts) ++ drop i none_armed ≡ all_armed book ns cs es ts
armed_whole book ns cs es ts i one end =
    let all = armed_from book ns cs es ts in
    let none : Option ℕ = None in
    ap₂ ◌++◌ (ap (λ (k : ℕ). take k (all ++ replicate (32 - length es) None)) (end ∙ sym (length-armed_from book ns cs es ts one)) ∙ take-append_seam all (replicate (32 - length es) None))
    (drop-replicate i 32 none ∙ ap (λ (k : ℕ). replicate (32 - k) none) end)

pub none_at : (i : ℕ) → i < 32 → slice_get none_armed i ≡ Some None
none_at i below = let none : Option ℕ = None in slice_get-get_or (replicate 32 none) i none (omega (arith, length-replicate 32 none)) ∙ ap Some (get_or-replicate 32 i none none below)

armed-at : (book : Book) (ns : List Native) (cs : List ℕ) (es : List EventRef) (ts : List ℕ) (rest : List (Option ℕ)) (i t : ℕ) (e : EventRef) → slice_get es i ≡ Some e → slice_get ts i ≡ Some t → slice_get (armed_from book ns cs es ts ++ rest) i ≡ Some (armed_event book ns cs e t)
armed-at book ns cs [] ts rest i t e f g = cc
armed-at book ns cs (x ∷ es) [] rest i t e f g = cc
armed-at book ns cs (x ∷ es) (u ∷ ts) rest zero t e f g = let same : x ≡ e = cc in let other : u ≡ t = cc in ap Some (ap₂ (armed_event book ns cs) same other)
armed-at book ns cs (x ∷ es) (u ∷ ts) rest (suc i) t e f g = armed-at book ns cs es ts rest i t e f g

pub armed-some : (book : Book) (ns : List Native) (cs : List ℕ) (es : List EventRef) (ts : List ℕ) (i t : ℕ) (e : EventRef) → slice_get es i ≡ Some e → slice_get ts i ≡ Some t → (t ≡ 0 → ⊥)
    → slice_get (all_armed book ns cs es ts) i ≡ Some (Some (get_or cs (place_of_lead book ns e) 0))
armed-some book ns cs es ts i t e f g some = armed-at book ns cs es ts (replicate (32 - length es) None) i t e f g ∙ ap Some (cond-false (t == 0) None (Some (get_or cs (place_of_lead book ns e) 0)) (ne_eqb t 0 some))

pub armed-none : (book : Book) (ns : List Native) (cs : List ℕ) (es : List EventRef) (ts : List ℕ) (i t : ℕ) (e : EventRef) → slice_get es i ≡ Some e → slice_get ts i ≡ Some t → t ≡ 0 → slice_get (all_armed book ns cs es ts) i ≡ Some None
armed-none book ns cs es ts i t e f g none = armed-at book ns cs es ts (replicate (32 - length es) None) i t e f g ∙ ap Some (cond-true (t == 0) None (Some (get_or cs (place_of_lead book ns e) 0)) (eq-eqb t 0 none))

-- each event with a threshold is on the counter of its first native
pub armable : (book : Book) (shape : Widths) (s : AtRest) → IsFit book shape s → s.slice ≡ None → IsArmable book (set_natives book s) (counters_for (set_natives book s)) s.events s.thresholds
armable book shape s fit plain = record {
  few_events = fit.sound.few_events;
  one_each = fit.sound.one_threshold_each;
  exist = λ k t e f g. below k e f;
  small = λ k t e f g.
      let few = fit.sound.few_counters in
      let at = number_at cs (place_of_lead book ns e) (below k e f) in
      let lt = h.exist (place_of_lead book ns e) (get_or cs (place_of_lead book ns e) 0) at in
      omega arith;
} where
  ns : List Native
  ns = set_natives book s

  cs : List ℕ
  cs = counters_for (set_natives book s)

  h : ArePlaced (widths_at shape s.component) ns cs
  h = placed book shape s fit plain

  led : (k : ℕ) (e : EventRef) → slice_get s.events k ≡ Some e → (n : Native) × (lead book e ≡ Some n)
  led k e f = held_have_natives book e (all_at (IsHeld book) s.events k e fit.agrees.held f)

  stands : (k : ℕ) (e : EventRef) (n : Native) → slice_get s.events k ≡ Some e → lead book e ≡ Some n → slice_get ns (place_of_lead book ns e) ≡ Some n
  stands k e n f l = ap (slice_get ns) (ap (λ o. option_map_or (λ m. position_or_len (same_native m) ns) o (length ns)) l) ∙ get_position n ns (lead_among book s k e n f l)

  below : (k : ℕ) (e : EventRef) → slice_get s.events k ≡ Some e → place_of_lead book ns e < length cs
  below k e f =
      let n = led k e f in
      let lt = slice_get_within ns (place_of_lead book ns e) n.0 (stands k e n.0 f n.1) in
      let one = h.one_each in
      omega arith

-- an event's threshold that is not 0
pub at_threshold : (es : List EventRef) (ts : List ℕ) (i t : ℕ) → length ts ≡ length es → i < length es → t ≡ get_or ts i 0 → (t ≡ 0 → ⊥) → (m : ℕ) × (slice_get ts i ≡ Some (suc m))
at_threshold es ts i t one below is some = let m = above t (omega arith) in (m.0, number_at ts i (omega arith) ∙ ap Some (sym is ∙ m.1))

-- a good slice is not 0
pub slice_some : (slice : ℕ) → is_bad_slice slice ≡ false → 0 < slice
slice_some zero h = cc
slice_some (suc n) h = omega arith
