-- Registers, each kept as it begins, its value now, and its base.
use Rattle.counter_unit.proofs.Words.{◌≡◌, ℕ, zero, suc, ◌+◌, ◌-◌, ◌%◌, ◌^◌, ◌<◌, ◌≤◌, inl, inr, true, false, List, [], ◌∷◌, length, set, get_or}
use Rattle.counter_unit.proofs.Words.{◌⊎◌, pow_mono, replicate, get_or-replicate, AreWidths, MOST_WIDTH, take, length-take-le, get_or-take, refl, ap, ap₂, sym, ◌∙◌, arith, Option, Some, None, nat_le, cases_eq, cases_lt, le-leb, lt-leb}
use Rattle.counter_unit.proofs.Words.{get_or-set_same, get_or-set_other, ext_get_or, option_map, option_map_or, Occ, Register, Key, Selects}
use Rattle.counter_unit.proofs.Words.{period, beginning, begun_again, all_begun_again, at_place, wrapped, whole, FitsWidth, FitWidths}
use Rattle.counter_unit.proofs.Words.{added, weight_at, is_modified, has, bit_of, AreMarked, AreSelects}
use Rattle.counter_unit.specs.declared.selects.Key.TheVariants as key
use Rattle.counter_unit.specs.Units.{AreKept, IsBegun, IsKeptAt, base_after, beginning_at, place_now, places_now, value_after}
use Rattle.counter_unit.proofs.Places.{at_place-replicate, period_fits}

pub at_place-now : (rs : List (Option Register)) (vs bs : List ℕ) (c : ℕ) → length rs ≤ length vs → length rs ≤ length bs → at_place (places_now rs vs bs) c ≡ place_now (at_place rs c) (get_or vs c 0) (get_or bs c 0)
at_place-now [] vs bs c vs_long bs_long = refl
at_place-now (r ∷ rs) [] bs c vs_long bs_long = absurd (omega arith)
at_place-now (r ∷ rs) (v ∷ vs) [] c vs_long bs_long = absurd (omega arith)
at_place-now (r ∷ rs) (v ∷ vs) (b ∷ bs) zero vs_long bs_long = refl
at_place-now (r ∷ rs) (v ∷ vs) (b ∷ bs) (suc c) vs_long bs_long = at_place-now rs vs bs c (omega arith) (omega arith)

pub length-places_now : (rs : List (Option Register)) (vs bs : List ℕ) → length rs ≤ length vs → length rs ≤ length bs → length (places_now rs vs bs) ≡ length rs
length-places_now [] vs bs vs_long bs_long = refl
length-places_now (r ∷ rs) [] bs vs_long bs_long = absurd (omega arith)
length-places_now (r ∷ rs) (v ∷ vs) [] vs_long bs_long = absurd (omega arith)
length-places_now (r ∷ rs) (v ∷ vs) (b ∷ bs) vs_long bs_long = ap suc (length-places_now rs vs bs (omega arith) (omega arith))

pub places_now-put : (rs : List (Option Register)) (vs bs : List ℕ) (c : ℕ) (r : Option Register) (v b : ℕ) → places_now (set rs c r) (set vs c v) (set bs c b) ≡ set (places_now rs vs bs) c (place_now r v b)
places_now-put [] vs bs c r v b = refl
places_now-put (q ∷ rs) [] bs zero r v b = refl
places_now-put (q ∷ rs) [] bs (suc c) r v b = refl
places_now-put (q ∷ rs) (w ∷ vs) [] zero r v b = refl
places_now-put (q ∷ rs) (w ∷ vs) [] (suc c) r v b = refl
places_now-put (q ∷ rs) (w ∷ vs) (a ∷ bs) zero r v b = refl
places_now-put (q ∷ rs) (w ∷ vs) (a ∷ bs) (suc c) r v b = ap (λ ys. place_now q w a ∷ ys) (places_now-put rs vs bs c r v b)

pub places_now-set : (rs : List (Option Register)) (vs bs : List ℕ) (c v b : ℕ) → places_now rs (set vs c v) (set bs c b) ≡ set (places_now rs vs bs) c (place_now (at_place rs c) v b)
places_now-set [] vs bs c v b = refl
places_now-set (q ∷ rs) [] bs zero v b = refl
places_now-set (q ∷ rs) [] bs (suc c) v b = refl
places_now-set (q ∷ rs) (w ∷ vs) [] zero v b = refl
places_now-set (q ∷ rs) (w ∷ vs) [] (suc c) v b = refl
places_now-set (q ∷ rs) (w ∷ vs) (a ∷ bs) zero v b = refl
places_now-set (q ∷ rs) (w ∷ vs) (a ∷ bs) (suc c) v b = ap (λ ys. place_now q w a ∷ ys) (places_now-set rs vs bs c v b)

fits_now : (w : ℕ) (p : Option Register) (v b fv fb : ℕ) → IsKeptAt w p v b fv fb → FitsWidth w (place_now p v b)
fits_now w None v b fv fb h = tt
fits_now w (Some r) v b fv fb h = (h.threshold, omega (arith, h.begins, h.above), h.below)

pub FitWidths-now : (ws : List ℕ) (rs : List (Option Register)) (vs bs fvs fbs : List ℕ) → length rs ≡ length ws → length rs ≤ length vs → length rs ≤ length bs → AreKept ws rs vs bs fvs fbs → FitWidths ws (places_now rs vs bs)
FitWidths-now ws rs vs bs fvs fbs same vs_long bs_long h = record {
  same_length = length-places_now rs vs bs vs_long bs_long ∙ same;
  each = λ c below. rw (at_place-now rs vs bs c vs_long bs_long) (fits_now (get_or ws c 0) (at_place rs c) (get_or vs c 0) (get_or bs c 0) (get_or fvs c 0) (get_or fbs c 0) (h c below));
}

-- a register keeps its codes, whatever its value
has_now : (k : Key) (code : ℕ) (p : Option Register) (v b : ℕ) → has k code (place_now p v b) ≡ has k code p
has_now k code None v b = refl
has_now key.User code (Some r) v b = refl
has_now key.Kernel code (Some r) v b = refl
has_now key.Umask code (Some r) v b = refl
has_now key.Comp code (Some r) v b = refl

modified_now : (p : Option Register) (v b : ℕ) → is_modified (place_now p v b) ≡ is_modified p
modified_now None v b = refl
modified_now (Some r) v b = refl

pub weight_now : (before : Option Occ) (o : Occ) (p : Option Register) (v b : ℕ) → weight_at before o (place_now p v b) ≡ weight_at before o p
weight_now before o None v b = refl
weight_now before o (Some r) v b = refl

pub AreSelects-now : (selects : Selects) (rs : List (Option Register)) (vs bs : List ℕ) → length rs ≤ length vs → length rs ≤ length bs → AreSelects selects rs → AreSelects selects (places_now rs vs bs)
AreSelects-now selects rs vs bs vs_long bs_long h = record {
  user = marked key.User selects.user h.user;
  kernel = marked key.Kernel selects.kernel h.kernel;
  umasks = marked key.Umask selects.umasks h.umasks;
  comps = marked key.Comp selects.comps h.comps;
  modified = λ c below. h.modified c below ∙ sym (ap bit_of (ap is_modified (at_place-now rs vs bs c vs_long bs_long) ∙ modified_now (at_place rs c) (get_or vs c 0) (get_or bs c 0)));
} where
  marked : (k : Key) (masks : List ℕ) → AreMarked k masks rs → AreMarked k masks (places_now rs vs bs)
  marked k masks m = record {
    codes = m.codes;
    each = λ code c small below. m.each code c small below ∙ sym (ap bit_of (ap (has k code) (at_place-now rs vs bs c vs_long bs_long) ∙ has_now k code (at_place rs c) (get_or vs c 0) (get_or bs c 0)));
  }

-- the value and the base of one counter change
pub AreKept-set : (ws : List ℕ) (rs : List (Option Register)) (vs bs fvs fbs : List ℕ) (c v b : ℕ) → c < length vs → c < length bs → IsKeptAt (get_or ws c 0) (at_place rs c) v b (get_or fvs c 0) (get_or fbs c 0)
    → AreKept ws rs vs bs fvs fbs → AreKept ws rs (set vs c v) (set bs c b) fvs fbs
AreKept-set ws rs vs bs fvs fbs c v b in_vs in_bs this h k below = elim (cases_eq k c) [
  | inl same ↦ rw (same, get_or-set_same vs c v 0 in_vs, get_or-set_same bs c b 0 in_bs) this
  | inr apart ↦ rw (get_or-set_other vs c k v 0 apart, get_or-set_other bs c k b 0 apart) (h k below)
]

-- another register, or none, is on one counter
pub AreKept-put : (ws : List ℕ) (rs : List (Option Register)) (vs bs fvs fbs : List ℕ) (c : ℕ) (r : Option Register) (v b fv fb : ℕ) → c < length rs → c < length vs → c < length bs → c < length fvs → c < length fbs
    → IsKeptAt (get_or ws c 0) r v b fv fb → AreKept ws rs vs bs fvs fbs → AreKept ws (set rs c r) (set vs c v) (set bs c b) (set fvs c fv) (set fbs c fb)
AreKept-put ws rs vs bs fvs fbs c r v b fv fb in_rs in_vs in_bs in_fvs in_fbs this h k below = elim (cases_eq k c) [
  | inl same ↦ rw (same, get_or-set_same rs c r None in_rs, get_or-set_same vs c v 0 in_vs, get_or-set_same bs c b 0 in_bs, get_or-set_same fvs c fv 0 in_fvs, get_or-set_same fbs c fb 0 in_fbs) this
  | inr apart ↦ rw (get_or-set_other rs c k r None apart, get_or-set_other vs c k v 0 apart, get_or-set_other bs c k b 0 apart, get_or-set_other fvs c k fv 0 apart, get_or-set_other fbs c k fb 0 apart) (h k below)
]

-- what is added to a value and its base is added to the register
abbrev now_after : ℕ → Option Register → ℕ → ℕ → ℕ → ℕ → Option Register
now_after w p v b fv more = place_now p (value_after (2 ^ w) fv v more) (base_after (2 ^ w) fv v b more)

pub record AddedTo (w more : ℕ) (p : Option Register) (v b fv fb : ℕ) : Type 0 where
  pub place : now_after w p v b fv more ≡ (added w more (place_now p v b)).place
  pub carried : nat_le (2 ^ w) (v + more) ≡ (added w more (place_now p v b)).carried
  pub kept : IsKeptAt w p (value_after (2 ^ w) fv v more) (base_after (2 ^ w) fv v b more) fv fb

wrapped_in : (a b c : ℕ) → wrapped (wrapped (a + b) + c) ≡ wrapped (wrapped (a + c) + b)
wrapped_in a b c = omega arith

pub added_to : (w more : ℕ) (p : Option Register) (v b fv fb : ℕ) → 16 ≤ w → more ≤ 255 → (p ≡ None → more ≡ 0) → IsKeptAt w p v b fv fb → AddedTo w more p v b fv fb
added_to w more None v b fv fb low small none h =
    let least : 2 ^ 16 ≤ 2 ^ w = pow_mono low in
    let nothing : more ≡ 0 = none refl in
    let v_0 = h.value_0 in
    let no : nat_le (2 ^ w) (v + more) ≡ false = lt-leb (2 ^ w) (v + more) (omega arith) in
    record {
      place = refl;
      carried = no;
      kept = rw no record { value_0 = omega arith; base_0 = h.base_0; first_value_0 = h.first_value_0; first_base_0 = h.first_base_0 };
    }
added_to w more (Some r) v b fv fb low small none h = go (cases_lt (v + more) (2 ^ w)) where
  p : (256 ≤ period w r.threshold) × (period w r.threshold ≤ 2 ^ w)
  p = period_fits w r.threshold low h.threshold

  put : ℕ → ℕ → Option Register
  put x y = Some (record r { value = x; bank = y })

  go : (v + more < 2 ^ w) ⊎ (2 ^ w ≤ v + more) → AddedTo w more (Some r) v b fv fb
  go (inl under) = let no : nat_le (2 ^ w) (v + more) ≡ false = lt-leb (2 ^ w) (v + more) under in record {
    place = rw no refl;
    carried = refl;
    kept = rw no record { threshold = h.threshold; begins = h.begins; above = omega (arith, h.above); below = under; again = h.again; nothing = h.nothing };
  }
  go (inr over) =
      let yes : nat_le (2 ^ w) (v + more) ≡ true = le-leb (2 ^ w) (v + more) over in
      let first : fv ≡ beginning w r.threshold = h.again ∙ h.begins in
      let through : 2 ^ w - fv ≡ period w r.threshold = omega (arith, p.1) in
      record {
        place = rw yes (ap₂ put (omega (arith, p.1)) (ap (λ m. wrapped (wrapped (b + m) + r.value)) through ∙ wrapped_in b (period w r.threshold) r.value));
        carried = refl;
        kept = rw yes record { threshold = h.threshold; begins = h.begins; above = omega (arith, h.again); below = omega (arith, p.0, p.1, h.below); again = h.again; nothing = h.nothing };
      }

-- a register at its beginning, whose base is what is left of 2^64
abbrev pub base_of : ℕ → ℕ
base_of value = (0 + (2 ^ 64 - value)) % 2 ^ 64

pub base_of_0 : (p : Option Register) → p ≡ None → base_of (beginning_at p) ≡ 0
base_of_0 p e = ap (λ (q : Option Register). base_of (beginning_at q)) e

pub base_of_nothing : (value : ℕ) → value < 2 ^ 64 → wrapped (base_of value + value) ≡ 0
base_of_nothing value small = omega arith

pub begins_kept : (w : ℕ) (p : Option Register) (b : ℕ) → 16 ≤ w → IsBegun w p → wrapped (b + beginning_at p) ≡ 0 → (p ≡ None → b ≡ 0) → IsKeptAt w p (beginning_at p) b (beginning_at p) b
begins_kept w None b low h nothing none = record { value_0 = refl; base_0 = none refl; first_value_0 = refl; first_base_0 = none refl }
begins_kept w (Some r) b low h nothing none = let p = period_fits w r.threshold low h.0 in record {
  threshold = h.0;
  begins = h.1;
  above = omega arith;
  below = omega (arith, p.0, p.1, h.1);
  again = refl;
  nothing = nothing;
}

pub begins_now : (w : ℕ) (p : Option Register) (b : ℕ) → IsBegun w p → wrapped (b + beginning_at p) ≡ 0 → place_now p (beginning_at p) b ≡ p
begins_now w None b h nothing = refl
begins_now w (Some r) b h nothing = ap (λ (n : ℕ). Some (record r { bank = n })) (nothing ∙ sym h.2)

-- a register that begins again
again_at : (w : ℕ) (p : Option Register) (v b fv fb : ℕ) → IsKeptAt w p v b fv fb → place_now p fv fb ≡ option_map (begun_again w) (place_now p v b)
again_at w None v b fv fb h = refl
again_at w (Some r) v b fv fb h = ap₂ (λ (x y : ℕ). Some (record r { value = x; bank = y })) (h.again ∙ h.begins) h.nothing

pub again_kept : (w : ℕ) (p : Option Register) (v b fv fb : ℕ) → 16 ≤ w → IsKeptAt w p v b fv fb → IsKeptAt w p fv fb fv fb
again_kept w None v b fv fb low h = record { value_0 = h.first_value_0; base_0 = h.first_base_0; first_value_0 = h.first_value_0; first_base_0 = h.first_base_0 }
again_kept w (Some r) v b fv fb low h = let p = period_fits w r.threshold low h.threshold in record {
  threshold = h.threshold;
  begins = h.begins;
  above = omega (arith, h.again);
  below = omega (arith, p.0, p.1, h.begins, h.again);
  again = h.again;
  nothing = h.nothing;
}

pub again_now : (ws : List ℕ) (rs : List (Option Register)) (vs bs fvs fbs : List ℕ) (c : ℕ) → c < length ws → length rs ≤ length vs → length rs ≤ length bs → AreKept ws rs vs bs fvs fbs
    → place_now (at_place rs c) (get_or fvs c 0) (get_or fbs c 0) ≡ option_map (begun_again (get_or ws c 0)) (at_place (places_now rs vs bs) c)
again_now ws rs vs bs fvs fbs c below vs_long bs_long h =
    again_at (get_or ws c 0) (at_place rs c) (get_or vs c 0) (get_or bs c 0) (get_or fvs c 0) (get_or fbs c 0) (h c below) ∙ sym (ap (option_map (begun_again (get_or ws c 0))) (at_place-now rs vs bs c vs_long bs_long))

at_place-all_begun_again : (ws : List ℕ) (rs : List (Option Register)) (c : ℕ) → length rs ≡ length ws → at_place (all_begun_again ws rs) c ≡ option_map (begun_again (get_or ws c 0)) (at_place rs c)
at_place-all_begun_again [] [] c e = refl
at_place-all_begun_again [] (r ∷ rs) c e = absurd (omega arith)
at_place-all_begun_again (w ∷ ws) [] c e = absurd (omega arith)
at_place-all_begun_again (w ∷ ws) (r ∷ rs) zero e = refl
at_place-all_begun_again (w ∷ ws) (r ∷ rs) (suc c) e = at_place-all_begun_again ws rs c (omega arith)

length-all_begun_again : (ws : List ℕ) (rs : List (Option Register)) → length rs ≡ length ws → length (all_begun_again ws rs) ≡ length ws
length-all_begun_again [] [] e = refl
length-all_begun_again [] (r ∷ rs) e = absurd (omega arith)
length-all_begun_again (w ∷ ws) [] e = absurd (omega arith)
length-all_begun_again (w ∷ ws) (r ∷ rs) e = ap suc (length-all_begun_again ws rs (omega arith))

pub all_again : (ws : List ℕ) (rs : List (Option Register)) (vs bs fvs fbs : List ℕ) → length rs ≡ length ws → length rs ≤ length vs → length rs ≤ length bs → length rs ≤ length fvs → length rs ≤ length fbs
    → AreKept ws rs vs bs fvs fbs → places_now rs fvs fbs ≡ all_begun_again ws (places_now rs vs bs)
all_again ws rs vs bs fvs fbs same vs_long bs_long fvs_long fbs_long h =
    let now = length-places_now rs vs bs vs_long bs_long ∙ same in
    let first = length-places_now rs fvs fbs fvs_long fbs_long ∙ same in
    ext_get_or None (places_now rs fvs fbs) (all_begun_again ws (places_now rs vs bs)) (first ∙ sym (length-all_begun_again ws (places_now rs vs bs) now))
    (λ k below. at_place-now rs fvs fbs k fvs_long fbs_long ∙ again_now ws rs vs bs fvs fbs k (omega arith) vs_long bs_long h ∙ sym (at_place-all_begun_again ws (places_now rs vs bs) k now))

-- the value and its base are the count
count_at : (w : ℕ) (p : Option Register) (v b fv fb : ℕ) → IsKeptAt w p v b fv fb → wrapped (v + b) ≡ option_map_or (whole w) (place_now p v b) 0
count_at w None v b fv fb h = ap₂ (λ (x y : ℕ). wrapped (x + y)) h.value_0 h.base_0
count_at w (Some r) v b fv fb h = let begins = h.begins in let above = h.above in omega arith

pub count_now : (ws : List ℕ) (rs : List (Option Register)) (vs bs fvs fbs : List ℕ) (c : ℕ) → c < length ws → length rs ≤ length vs → length rs ≤ length bs → AreKept ws rs vs bs fvs fbs
    → wrapped (get_or vs c 0 + get_or bs c 0) ≡ option_map_or (whole (get_or ws c 0)) (at_place (places_now rs vs bs) c) 0
count_now ws rs vs bs fvs fbs c below vs_long bs_long h =
    count_at (get_or ws c 0) (at_place rs c) (get_or vs c 0) (get_or bs c 0) (get_or fvs c 0) (get_or fbs c 0) (h c below) ∙ sym (ap (λ (p : Option Register). option_map_or (whole (get_or ws c 0)) p 0) (at_place-now rs vs bs c vs_long bs_long))

-- what is seen on a counter
pub now_at : (n : ℕ) (rs : List (Option Register)) (vs bs : List ℕ) (c : ℕ) → c < n → n ≤ length rs → n ≤ length vs → n ≤ length bs
    → place_now (get_or rs c None) (get_or vs c 0) (get_or bs c 0) ≡ at_place (places_now (take n rs) vs bs) c
now_at n rs vs bs c below rs_long vs_long bs_long =
    let long = length-take-le n rs rs_long in
    ap (λ (p : Option Register). place_now p (get_or vs c 0) (get_or bs c 0)) (sym (get_or-take n rs c None below)) ∙ sym (at_place-now (take n rs) vs bs c (omega arith) (omega arith))

-- what a register that is kept is, beside its room
pub record IsWithin (room value first_value : ℕ) : Type 0 where
  pub small : room ≤ 2 ^ MOST_WIDTH
  pub begins : first_value ≤ room
  pub below : value < room

pub within_room : (ws : List ℕ) (rs : List (Option Register)) (vs bs fvs fbs : List ℕ) (c room : ℕ) → AreWidths ws → c < length ws → room ≡ 2 ^ get_or ws c 0 → AreKept ws rs vs bs fvs fbs → IsWithin room (get_or vs c 0) (get_or fvs c 0)
within_room ws rs vs bs fvs fbs c room widths below is h = rw is record { small = most; begins = (go (at_place rs c) (h c below)).0; below = (go (at_place rs c) (h c below)).1 } where
  w : ℕ
  w = get_or ws c 0

  most : 2 ^ w ≤ 2 ^ MOST_WIDTH
  most = pow_mono (widths.high c below)

  go : (p : Option Register) → IsKeptAt w p (get_or vs c 0) (get_or bs c 0) (get_or fvs c 0) (get_or fbs c 0) → (get_or fvs c 0 ≤ 2 ^ w) × (get_or vs c 0 < 2 ^ w)
  go None k = let least : 2 ^ 16 ≤ 2 ^ w = pow_mono (widths.low c below) in (omega (arith, k.first_value_0), omega (arith, k.value_0))
  go (Some r) k = (omega (arith, k.begins, k.again), k.below)

-- nothing is programmed
pub now_none : (n m : ℕ) → n ≤ m → places_now (replicate n None) (replicate m 0) (replicate m 0) ≡ replicate n None
now_none zero m few = refl
now_none (suc n) zero few = absurd (omega arith)
now_none (suc n) (suc m) few = ap (λ rs. None ∷ rs) (now_none n m (omega arith))

pub kept_none : (ws : List ℕ) (n m : ℕ) → length ws ≤ m → AreKept ws (replicate n None) (replicate m 0) (replicate m 0) (replicate m 0) (replicate m 0)
kept_none ws n m few k below =
    let nought : ℕ = 0 in
    let at : get_or (replicate m nought) k 0 ≡ nought = get_or-replicate m k nought 0 (omega arith) in
    rw (at_place-replicate n k, at) record { value_0 = refl; base_0 = refl; first_value_0 = refl; first_base_0 = refl }
