-- The natives of a row, field by field.
use Rattle.preset_csv.proofs.Words.{◌≡◌, ◌∙◌, ◌+◌, ◌<◌, ◌≤◌, ◌∷◌, ◌++◌, ℕ, zero, suc, true, false, List, [], Ok, Err, map, drop, take, length, get_or}
use Rattle.preset_csv.proofs.Words.{refl, sym, ap, arith, append_assoc, append-nil, lt-ltb, le-ltb, list_all, and_from, drop_all, drop_more}
use Rattle.preset_csv.proofs.Words.{length-append, take_all, list_all-append, slice_get-get_or, Text, is_printable, text_at, trimmed, MOST_NATIVES}
use Rattle.preset_csv.proofs.Words.{ends_natives, kept_natives, natives_from, natives_in}
use Rattle.preset_csv.specs.declared.fault.PresetCause.TheVariants as cause

pub text-here : (fields : List Text) (i : ℕ) → i < length fields → text_at fields i ≡ trimmed (get_or fields i [])
unfolding text_at
text-here fields i lt = rw (slice_get-get_or fields i [] lt) refl

from-here : (fields : List Text) (i : ℕ) → i < length fields → natives_from fields i ≡ natives_in (text_at fields i ∷ map trimmed (drop (i + 1) fields))
from-here fields i lt = rw (drop_more fields i [] lt, text-here fields i lt) refl

at-end : (fields : List Text) (i : ℕ) → length fields ≤ i → natives_from fields i ≡ []
unfolding natives_in
at-end fields i le = rw (drop_all i fields le) refl

first-ends : (t : Text) (rest : List Text) → ends_natives t ≡ true → natives_in (t ∷ rest) ≡ []
unfolding natives_in
first-ends t rest e = rw e refl

first-stays : (t : Text) (rest : List Text) → ends_natives t ≡ false → natives_in (t ∷ rest) ≡ t ∷ natives_in rest
unfolding natives_in
first-stays t rest e = rw e refl

-- what a loop over the fields keeps, with the natives before field i found
pub record Found (fields : List Text) (first i : ℕ) (natives : List Text) : Type 0 where
  pub found : natives_from fields first ≡ natives ++ natives_from fields i
  pub printed : list_all is_printable natives ≡ true

pub one-more : (fields : List Text) (first i : ℕ) (natives more : List Text) → i < length fields → Found fields first i natives
    → ends_natives (text_at fields i) ≡ false → is_printable (text_at fields i) ≡ true
    → more ≡ natives ++ text_at fields i ∷ [] → Found fields first (i + 1) more
one-more fields first i natives more lt f stays printed is = rw is (record {
  found = f.found ∙ ap (λ (t : List Text). natives ++ t) (from-here fields i lt ∙ first-stays (text_at fields i) _ stays)
      ∙ sym (append_assoc natives (text_at fields i ∷ []) (natives_from fields (i + 1)));
  printed = list_all-append is_printable natives (text_at fields i ∷ []) ∙ and_from _ _ f.printed (and_from _ _ printed refl);
})

-- ---- the natives that are held, of those before field i

pub record Held (fields : List Text) (first i count : ℕ) (natives : List Text) : Type 0 where
  pub all : List Text
  pub found : Found fields first i all
  pub counted : count ≡ length all
  pub placed : first + count ≡ i
  pub few : natives ≡ take MOST_NATIVES all

take-more : (n : ℕ) (xs ys : List Text) → take n (take n xs ++ ys) ≡ take n (xs ++ ys)
take-more zero xs ys = refl
take-more (suc n) [] ys = refl
take-more (suc n) (x ∷ xs) ys = ap (λ (rest : List Text). x ∷ rest) (take-more n xs ys)

pub held-more : (fields : List Text) (first i count : ℕ) (natives more : List Text) → i < length fields → Held fields first i count natives
    → ends_natives (text_at fields i) ≡ false → is_printable (text_at fields i) ≡ true
    → more ≡ take MOST_NATIVES (natives ++ text_at fields i ∷ []) → Held fields first (i + 1) (count + 1) more
held-more fields first i count natives more lt h stays printed is = record {
  all = h.all ++ text_at fields i ∷ [];
  found = one-more fields first i h.all _ lt h.found stays printed refl;
  counted = omega (arith, h.counted, length-append h.all (text_at fields i ∷ []));
  placed = omega (arith, h.placed);
  few = is ∙ ap (λ (t : List Text). take MOST_NATIVES (t ++ text_at fields i ∷ [])) h.few ∙ take-more MOST_NATIVES h.all (text_at fields i ∷ []);
}

-- the fields before field i are all of the row's natives
pub record Ends (fields : List Text) (first i : ℕ) : Type 0 where
  pub none : natives_from fields i ≡ []

pub ends-here : (fields : List Text) (first i : ℕ) → i < length fields → ends_natives (text_at fields i) ≡ true → Ends fields first i
ends-here fields first i lt e = record { none = from-here fields i lt ∙ first-ends (text_at fields i) _ e }

pub ends-last : (fields : List Text) (first i : ℕ) → length fields ≤ i → Ends fields first i
ends-last fields first i le = record { none = at-end fields i le }

whole : (fields : List Text) (first i : ℕ) (all : List Text) → Ends fields first i → Found fields first i all → natives_from fields first ≡ all
whole fields first i all e f = f.found ∙ ap (λ (t : List Text). all ++ t) e.none ∙ append-nil all

pub within : (fields : List Text) (first i count : ℕ) (natives : List Text) → Ends fields first i → Held fields first i count natives → count ≤ MOST_NATIVES
    → kept_natives (natives_from fields first) ≡ Ok natives
within fields first i count natives e h le =
    let short : length h.all ≤ MOST_NATIVES = omega (arith, h.counted, le) in
    rw (whole fields first i h.all e h.found, h.found.printed, le-ltb MOST_NATIVES (length h.all) short) (ap Ok (sym (h.few ∙ take_all MOST_NATIVES h.all short)))

pub over : (fields : List Text) (first i count : ℕ) (natives : List Text) → Ends fields first i → Held fields first i count natives → MOST_NATIVES < count
    → kept_natives (natives_from fields first) ≡ Err cause.OverLimit
over fields first i count natives e h lt =
    let long : MOST_NATIVES < length h.all = omega (arith, h.counted, lt) in
    rw (whole fields first i h.all e h.found, h.found.printed, lt-ltb MOST_NATIVES (length h.all) long) refl

pub broken : (fields : List Text) (first i count : ℕ) (natives : List Text) → i < length fields → Held fields first i count natives
    → ends_natives (text_at fields i) ≡ false → is_printable (text_at fields i) ≡ false
    → kept_natives (natives_from fields first) ≡ Err cause.BadField
broken fields first i count natives lt h stays bad =
    let whole : natives_from fields first ≡ h.all ++ text_at fields i ∷ natives_from fields (i + 1) = h.found.found
    ∙ ap (λ (t : List Text). h.all ++ t) (from-here fields i lt ∙ first-stays (text_at fields i) _ stays) in
    rw (whole, list_all-append is_printable h.all (text_at fields i ∷ natives_from fields (i + 1)), h.found.printed, bad) refl
