-- The natives of a fit set have counters of their own, and its thresholds fit them.
use Rattle.thread_slots.proofs.Words.{◌≡◌, ℕ, zero, suc, ◌+◌, ◌≤◌, ◌⊎◌, inl, inr, Bool, false, ◌&&◌, List, [], ◌∷◌, length, get_or, refl, ap, sym}
use Rattle.thread_slots.proofs.Words.{subst, ◌∙◌, arith, Option, Some, None, slice_get, nat_lt, unwrap_or, option_map_or, position_or_len, cond-true}
use Rattle.thread_slots.proofs.Words.{cond-false, lt-ltb, slice_get_within, get_or_from_slice_get, Native, EventRef, IsThreshold, Book, lead}
use Rattle.thread_slots.proofs.Words.{same_native, counters_for, AtRest, Widths, set_natives, widths_at, leads, threshold_among, Pin, pins_from}
use Rattle.thread_slots.proofs.Words.{ArePinned, IsFit, ◌<◌, ◌^◌, true, ◌||◌, is_some, cases_Bool, ltb-true, and_parts, length-map, pow_mono}
use Rattle.thread_slots.proofs.Words.{IsAssignment, Has, assigns, least, is_assignable, AreMasks, masks_of, lists_each, lists_some, has_below}
use Rattle.thread_slots.proofs.Words.{natives_of_event, among, native_is, native_self, each_is_among, is_among, none_twice, least_width, pins_of}
use Rattle.thread_slots.proofs.Lists.{all_at, get_at, get-map_some}

-- each of the natives is on a counter of its own that exists
pub record ArePlaced (widths : List ℕ) (natives : List Native) (counters : List ℕ) : Type 0 where
  pub one_each : length counters ≡ length natives
  pub exist : (i c : ℕ) → slice_get counters i ≡ Some c → c < length widths
  pub apart : (i j c : ℕ) → slice_get counters i ≡ Some c → slice_get counters j ≡ Some c → i ≡ j

least_is : (masks : List ℕ) → is_assignable masks ≡ true → least masks ≡ Some (unwrap_or (least masks) [])
least_is masks h = go (least masks) refl where
  go : (o : Option (List ℕ)) → least masks ≡ o → least masks ≡ Some (unwrap_or (least masks) [])
  go None e = let none : is_some (least masks) ≡ false = rw e refl in cc
  go (Some cs) e = e ∙ ap Some (sym (ap (λ o. unwrap_or o []) e))

assigned_of : (masks : List ℕ) → AreMasks masks → is_assignable masks ≡ true → IsAssignment masks (unwrap_or (least masks) [])
assigned_of masks small h =
    let e = least_is masks h in
    (lists_each masks (unwrap_or (least masks) []) small).0 (0, slice_get_within (assigns masks) 0 _ e, get_or_from_slice_get (assigns masks) 0 _ _ e)

-- a native of the set is allowed counters of its component alone
pub mask_below : (book : Book) (shape : Widths) (s : AtRest) (i : ℕ) (n : Native) → IsFit book shape s → slice_get (set_natives book s) i ≡ Some n → n.allowed < 2 ^ length (widths_at shape s.component)
mask_below book shape s i n fit e = all_at (λ (x : Native). x.allowed < 2 ^ length (widths_at shape s.component)) (set_natives book s) i n fit.sound.in_range e

pub masks_small : (book : Book) (shape : Widths) (s : AtRest) → IsFit book shape s → AreMasks (masks_of (set_natives book s))
masks_small book shape s fit = λ i below.
    let ns = set_natives book s in
    let n = get_at ns i (omega (arith, length-map ns (λ (x : Native). x.allowed))) in
    let mask = get_or_from_slice_get (masks_of ns) i n.0.allowed 0 (get-map_some (λ (x : Native). x.allowed) ns i n.0 n.1) in
    let low = mask_below book shape s i n.0 fit n.1 in
    let few = fit.sound.few_counters in
    let most : 2 ^ length (widths_at shape s.component) ≤ 2 ^ 32 = pow_mono few in
    omega arith

pub placed : (book : Book) (shape : Widths) (s : AtRest) → IsFit book shape s → s.slice ≡ None → ArePlaced (widths_at shape s.component) (set_natives book s) (counters_for (set_natives book s))
placed book shape s fit plain =
    let ns = set_natives book s in
    let cs = counters_for ns in
    let small = masks_small book shape s fit in
    let a = assigned_of (masks_of ns) small ((lists_some (masks_of ns) small).1 (fit.sound.assignable plain)) in
    let one : length cs ≡ length ns = a.one_each ∙ length-map ns (λ (x : Native). x.allowed) in
    let inside : (i c : ℕ) → slice_get cs i ≡ Some c → i < length (masks_of ns) = λ i c e. let b = slice_get_within cs i c e in omega (arith, a.one_each) in
    record {
      one_each = one;
      exist = λ i c e.
          let b = slice_get_within cs i c e in
          let n = get_at ns i (omega arith) in
          let mask = get_or_from_slice_get (masks_of ns) i n.0.allowed 0 (get-map_some (λ (x : Native). x.allowed) ns i n.0 n.1) in
          let counter = get_or_from_slice_get cs i c 0 e in
          let has : Has n.0.allowed c = subst (λ (m : ℕ). Has m c) mask (subst (λ (k : ℕ). Has (get_or (masks_of ns) i 0) k) counter (a.is_allowed i (inside i c e))) in
          has_below (length (widths_at shape s.component)) n.0.allowed c (mask_below book shape s i n.0 fit n.1) has;
      apart = λ i j c e f. a.distinct i j (inside i c e) (inside j c f) (get_or_from_slice_get cs i c 0 e ∙ sym (get_or_from_slice_get cs j c 0 f));
    }

-- the pin at a place
pub get-pins_from : (book : Book) (s : AtRest) (ns : List Native) (cs : List ℕ) (k : ℕ) (n : Native) (c : ℕ) → slice_get ns k ≡ Some n → slice_get cs k ≡ Some c
    → slice_get (pins_from book s ns cs) k ≡ Some (record { native = n; counter = c; threshold = threshold_among book n s.events s.thresholds })
get-pins_from book s [] cs k n c e f = cc
get-pins_from book s (m ∷ ns) [] k n c e f = cc
get-pins_from book s (m ∷ ns) (b ∷ cs) zero n c e f =
    let same : m ≡ n = cc in let counter : b ≡ c = cc in
    ap (λ (x : Native). Some (record { native = x; counter = b; threshold = threshold_among book x s.events s.thresholds })) same ∙ ap (λ (x : ℕ). Some (record { native = n; counter = x; threshold = threshold_among book n s.events s.thresholds })) counter
get-pins_from book s (m ∷ ns) (b ∷ cs) (suc k) n c e f = get-pins_from book s ns cs k n c e f

-- a pin is made of what has its place
pub record Made (book : Book) (s : AtRest) (ns : List Native) (cs : List ℕ) (k : ℕ) (p : Pin) : Type 0 where
  pub native : slice_get ns k ≡ Some p.native
  pub counter : slice_get cs k ≡ Some p.counter
  pub threshold : p.threshold ≡ threshold_among book p.native s.events s.thresholds

pub pin_made : (book : Book) (s : AtRest) (ns : List Native) (cs : List ℕ) (k : ℕ) (p : Pin) → slice_get (pins_from book s ns cs) k ≡ Some p → Made book s ns cs k p
pin_made book s [] cs k p e = cc
pin_made book s (n ∷ ns) [] k p e = cc
pin_made book s (n ∷ ns) (c ∷ cs) zero p e =
    let q : Pin = record { native = n; counter = c; threshold = threshold_among book n s.events s.thresholds } in
    let same : q ≡ p = cc in
    subst (λ (x : Pin). Made book s (n ∷ ns) (c ∷ cs) 0 x) same (record { native = refl; counter = refl; threshold = refl })
pin_made book s (n ∷ ns) (c ∷ cs) (suc k) p e = let h = pin_made book s ns cs k p e in record { native = h.native; counter = h.counter; threshold = h.threshold }

-- the event whose threshold a native has
pub record Found (book : Book) (n : Native) (events : List EventRef) (thresholds : List ℕ) : Type 0 where
  pub index : ℕ
  pub event : EventRef
  pub more : ℕ
  pub is : slice_get events index ≡ Some event
  pub at : slice_get thresholds index ≡ Some (suc more)
  pub leading : lead book event ≡ Some n
  pub threshold : threshold_among book n events thresholds ≡ suc more

leads_is : (book : Book) (n : Native) (e : EventRef) → leads book n e ≡ true → lead book e ≡ Some n
leads_is book n e h = go (lead book e) refl where
  go : (o : Option Native) → lead book e ≡ o → lead book e ≡ Some n
  go None q = let f : leads book n e ≡ false = ap (λ o. option_map_or (same_native n) o false) q in cc
  go (Some m) q = let f : same_native n m ≡ true = sym (ap (λ o. option_map_or (same_native n) o false) q) ∙ h in q ∙ ap Some (sym (native_is n m f))

is_leads : (book : Book) (n : Native) (e : EventRef) → lead book e ≡ Some n → leads book n e ≡ true
is_leads book n e h = ap (λ o. option_map_or (same_native n) o false) h ∙ native_self n

pub above : (n : ℕ) → 0 < n → (m : ℕ) × (n ≡ suc m)
above zero h = absurd (omega arith)
above (suc m) h = (m, refl)

found_here : (book : Book) (n : Native) (e : EventRef) (es : List EventRef) (t : ℕ) (ts : List ℕ) → (nat_lt 0 t && leads book n e) ≡ true → Found book n (e ∷ es) (t ∷ ts)
found_here book n e es t ts h =
    let parts = and_parts (nat_lt 0 t) (leads book n e) h in
    let m = above t (ltb-true 0 t parts.0) in
    record { index = 0; event = e; more = m.0; is = refl; at = ap Some m.1; leading = leads_is book n e parts.1; threshold = cond-true (nat_lt 0 t && leads book n e) t (threshold_among book n es ts) h ∙ m.1 }

found_later : (book : Book) (n : Native) (e : EventRef) (es : List EventRef) (t : ℕ) (ts : List ℕ) → (nat_lt 0 t && leads book n e) ≡ false → Found book n es ts → Found book n (e ∷ es) (t ∷ ts)
found_later book n e es t ts h f = record { index = suc f.index; event = f.event; more = f.more; is = f.is; at = f.at; leading = f.leading; threshold = cond-false (nat_lt 0 t && leads book n e) t (threshold_among book n es ts) h ∙ f.threshold }

pub threshold_cases : (book : Book) (n : Native) (es : List EventRef) (ts : List ℕ) → (threshold_among book n es ts ≡ 0) ⊎ Found book n es ts
threshold_cases book n [] ts = inl refl
threshold_cases book n (e ∷ es) [] = inl refl
threshold_cases book n (e ∷ es) (t ∷ ts) = go (cases_Bool (nat_lt 0 t && leads book n e)) (threshold_cases book n es ts) where
  go : ((nat_lt 0 t && leads book n e) ≡ true) ⊎ ((nat_lt 0 t && leads book n e) ≡ false) → (threshold_among book n es ts ≡ 0) ⊎ Found book n es ts → (threshold_among book n (e ∷ es) (t ∷ ts) ≡ 0) ⊎ Found book n (e ∷ es) (t ∷ ts)
  go (inl h) later = inr (found_here book n e es t ts h)
  go (inr h) (inl none) = inl (cond-false (nat_lt 0 t && leads book n e) t (threshold_among book n es ts) h ∙ none)
  go (inr h) (inr f) = inr (found_later book n e es t ts h f)

-- an event with a threshold is found for its first native
threshold_found : (book : Book) (n : Native) (es : List EventRef) (ts : List ℕ) (j : ℕ) (e : EventRef) (t : ℕ) → slice_get es j ≡ Some e → slice_get ts j ≡ Some (suc t) → lead book e ≡ Some n → Found book n es ts
threshold_found book n [] ts j e t f g led = cc
threshold_found book n (x ∷ es) [] j e t f g led = cc
threshold_found book n (x ∷ es) (u ∷ ts) zero e t f g led =
    let same : x ≡ e = cc in let big : u ≡ suc t = cc in
    found_here book n x es u ts (ap (λ (b : Bool). b && leads book n x) (lt-ltb 0 u (omega arith)) ∙ is_leads book n x (ap (lead book) same ∙ led))
threshold_found book n (x ∷ es) (u ∷ ts) (suc j) e t f g led = go (cases_Bool (nat_lt 0 u && leads book n x)) (threshold_found book n es ts j e t f g led) where
  go : ((nat_lt 0 u && leads book n x) ≡ true) ⊎ ((nat_lt 0 u && leads book n x) ≡ false) → Found book n es ts → Found book n (x ∷ es) (u ∷ ts)
  go (inl h) later = found_here book n x es u ts h
  go (inr h) later = found_later book n x es u ts h later

-- no two events have thresholds on one native, so the event's is the native's
pub threshold_is : (book : Book) (shape : Widths) (s : AtRest) (j : ℕ) (e : EventRef) (t : ℕ) (n : Native) → IsFit book shape s → slice_get s.events j ≡ Some e → slice_get s.thresholds j ≡ Some (suc t) → lead book e ≡ Some n
    → threshold_among book n s.events s.thresholds ≡ suc t
threshold_is book shape s j e t n fit is at led =
    let f = threshold_found book n s.events s.thresholds j e t is at led in
    let same : f.index ≡ j = fit.agrees.apart f.index j f.more t f.event e n f.at at f.is is f.leading led in
    let one : Some (suc f.more) ≡ Some (suc t) = sym f.at ∙ ap (slice_get s.thresholds) same ∙ at in
    f.threshold ∙ (let m : suc f.more ≡ suc t = cc in m)

-- a threshold that fits the least width fits each
least_le : (ws : List ℕ) (c : ℕ) → c < length ws → least_width ws ≤ get_or ws c 0
least_le [] c h = absurd (omega arith)
least_le (w ∷ []) zero h = omega arith
least_le (w ∷ []) (suc c) h = absurd (omega arith)
least_le (w ∷ v ∷ ws) zero h = omega arith
least_le (w ∷ v ∷ ws) (suc c) h = let rest = least_le (v ∷ ws) c (omega arith) in omega arith

pub pinned : (book : Book) (shape : Widths) (s : AtRest) → IsFit book shape s → s.slice ≡ None → ArePinned (widths_at shape s.component) (pins_of book s)
pinned book shape s fit plain = record {
  exist = λ k p e. h.exist k p.counter (made k p e).counter;
  fit = λ k p e. fits p (h.exist k p.counter (made k p e).counter) (made k p e).threshold (threshold_cases book p.native s.events s.thresholds);
  apart = λ j k p q e f same. h.apart j k p.counter (made j p e).counter (subst (λ (c : ℕ). slice_get (counters_for (set_natives book s)) k ≡ Some c) (sym same) (made k q f).counter);
} where
  h : ArePlaced (widths_at shape s.component) (set_natives book s) (counters_for (set_natives book s))
  h = placed book shape s fit plain

  made : (k : ℕ) (p : Pin) → slice_get (pins_of book s) k ≡ Some p → Made book s (set_natives book s) (counters_for (set_natives book s)) k p
  made k p e = pin_made book s (set_natives book s) (counters_for (set_natives book s)) k p e

  fits : (p : Pin) → p.counter < length (widths_at shape s.component) → p.threshold ≡ threshold_among book p.native s.events s.thresholds → (threshold_among book p.native s.events s.thresholds ≡ 0) ⊎ Found book p.native s.events s.thresholds
      → IsThreshold (get_or (widths_at shape s.component) p.counter 0) p.threshold
  fits p below is (inl none) = inl (is ∙ none)
  fits p below is (inr f) =
      let low = least_le (widths_at shape s.component) p.counter below in
      let most : 2 ^ least_width (widths_at shape s.component) ≤ 2 ^ get_or (widths_at shape s.component) p.counter 0 = pow_mono low in
      let t = is ∙ f.threshold in
      elim (all_at (λ t. (t ≡ 0) ⊎ ((256 ≤ t) × (t < 2 ^ least_width (widths_at shape s.component)))) s.thresholds f.index (suc f.more) fit.thresholds f.at) [
        | inl none ↦ absurd (omega arith)
        | inr range ↦ inr (omega (arith, range.0), omega (arith, range.1))
      ]

-- a native that is among the natives stands at its place
pub get_position : (n : Native) (ns : List Native) → among n ns ≡ true → slice_get ns (position_or_len (same_native n) ns) ≡ Some n
get_position n [] h = cc
get_position n (m ∷ ns) h = go (get_position n ns) (same_native n m) refl h where
  go : (among n ns ≡ true → slice_get ns (position_or_len (same_native n) ns) ≡ Some n) → (b : Bool) → same_native n m ≡ b → among n (m ∷ ns) ≡ true → slice_get (m ∷ ns) (position_or_len (same_native n) (m ∷ ns)) ≡ Some n
  go rest true q k = rw q (ap Some (sym (native_is n m q)))
  go rest false q k =
      let next : 1 + position_or_len (same_native n) ns ≡ suc (position_or_len (same_native n) ns) = omega arith in
      rw (q, next) (rest (let P : Bool → Type 0 = λ b. (b || among n ns) ≡ true in subst P q k))

-- the natives do not repeat, so a native's place is its position
pub position_is : (book : Book) (s : AtRest) (i : ℕ) (n : Native) → slice_get (set_natives book s) i ≡ Some n → position_or_len (same_native n) (set_natives book s) ≡ i
position_is book s i n e = none_twice book s.events (position_or_len (same_native n) (set_natives book s)) i n (get_position n (set_natives book s) (is_among n (set_natives book s) i e)) e

-- the first native of an event of the set is among its natives
pub lead_among : (book : Book) (s : AtRest) (j : ℕ) (e : EventRef) (n : Native) → slice_get s.events j ≡ Some e → lead book e ≡ Some n → among n (set_natives book s) ≡ true
lead_among book s j e n is led = each_is_among book s.events j e n is (is_among n (natives_of_event book e) 0 led)
