-- What the chosen umasks fix and allow, umask by umask, and that a canonical name does not say what they fix.
use Rattle.name_encoder.proofs.Words.{◌≡◌, ◌+◌, ◌*◌, ◌/◌, ◌%◌, ◌<◌, ◌≤◌, ◌&&◌, ◌||◌, ◌∷◌, ℕ, Bool, true, false, List, [], Option, Some, None, length}
use Rattle.name_encoder.proofs.Words.{get_or, drop, map, refl, ap, arith, nat_lt, drop_more, drop_all, and_le_l, if◌then◌else◌, not, MaskText}
use Rattle.name_encoder.proofs.Words.{FixedMods, Mods, flags_in, free_mods, bits_of, both_fixed, common_of, fixed_if, fixed_of, met, with_fixed}

-- ---- umask by umask

pub fixed-more : {X : Type 0} (view : X → MaskText) (flags : List Bool) (xs : List X) (acc : FixedMods) (i : ℕ) (d : X) → i < length xs → length flags ≡ length xs
    → fixed_of acc (drop i flags) (map view (drop i xs))
    ≡ fixed_of (both_fixed acc (fixed_if (get_or flags i false) (view (get_or xs i d)).fixed)) (drop (i + 1) flags) (map view (drop (i + 1) xs))
unfolding fixed_of
fixed-more view flags xs acc i d lt same = rw (drop_more flags i false (omega (arith, lt, same)), drop_more xs i d lt) refl

pub fixed-done : {X : Type 0} (view : X → MaskText) (flags : List Bool) (xs : List X) (acc : FixedMods) (i : ℕ) → length xs ≤ i → fixed_of acc (drop i flags) (map view (drop i xs)) ≡ acc
unfolding fixed_of
fixed-done view flags xs acc i le = rw (drop_all i xs le) (nothing acc (drop i flags))
  where
    nothing : (a : FixedMods) (bs : List Bool) → fixed_of a bs [] ≡ a
    nothing a [] = refl
    nothing a (b ∷ bs) = refl

pub common-more : {X : Type 0} (view : X → MaskText) (flags : List Bool) (xs : List X) (allowed : ℕ) (i : ℕ) (d : X) → i < length xs → length flags ≡ length xs
    → common_of allowed (drop i flags) (map view (drop i xs))
    ≡ common_of (if get_or flags i false then met (view (get_or xs i d)).counters allowed else allowed) (drop (i + 1) flags) (map view (drop (i + 1) xs))
unfolding common_of
common-more view flags xs allowed i d lt same = rw (drop_more flags i false (omega (arith, lt, same)), drop_more xs i d lt) refl

pub common-done : {X : Type 0} (view : X → MaskText) (flags : List Bool) (xs : List X) (allowed : ℕ) (i : ℕ) → length xs ≤ i → common_of allowed (drop i flags) (map view (drop i xs)) ≡ allowed
unfolding common_of
common-done view flags xs allowed i le = rw (drop_all i xs le) (nothing allowed (drop i flags))
  where
    nothing : (a : ℕ) (bs : List Bool) → common_of a bs [] ≡ a
    nothing a [] = refl
    nothing a (b ∷ bs) = refl

met-less : (o : Option ℕ) (allowed : ℕ) → met o allowed ≤ allowed
met-less None allowed = omega arith
met-less (Some counters) allowed = and_le_l allowed counters

-- they are counters of the event
pub common-less : (allowed : ℕ) (flags : List Bool) (masks : List MaskText) → common_of allowed flags masks ≤ allowed
unfolding common_of
common-less allowed [] masks = omega arith
common-less allowed (b ∷ flags) [] = omega arith
common-less allowed (true ∷ flags) (m ∷ masks) =
    let here = met-less m.counters allowed in
    let more = common-less (met m.counters allowed) flags masks in
    omega (arith, here, more)
common-less allowed (false ∷ flags) (m ∷ masks) = common-less allowed flags masks

-- ---- flags as bits, and back

bit-back : (b : Bool) (k : ℕ) → ((if b then 1 else 0) + 2 * k) % 2 ≡ (if b then 1 else 0)
bit-back true k = omega arith
bit-back false k = omega arith

pub flags-back : (flags : List Bool) (masks : List MaskText) → length flags ≡ length masks → flags_in (bits_of flags) masks ≡ flags
unfolding flags_in bits_of
flags-back [] [] n = refl
flags-back [] (m ∷ masks) n = absurd (omega arith)
flags-back (b ∷ flags) [] n = absurd (omega arith)
flags-back (true ∷ flags) (m ∷ masks) n =
    let rest : (1 + 2 * bits_of flags) % 2 ≡ 1 = omega arith in
    let half : (1 + 2 * bits_of flags) / 2 ≡ bits_of flags = omega arith in
    rw (rest, half) (ap (λ (bs : List Bool). true ∷ bs) (flags-back flags masks (omega arith)))
flags-back (false ∷ flags) (m ∷ masks) n =
    let rest : (0 + 2 * bits_of flags) % 2 ≡ 0 = omega arith in
    let half : (0 + 2 * bits_of flags) / 2 ≡ bits_of flags = omega arith in
    rw (rest, half) (ap (λ (bs : List Bool). false ∷ bs) (flags-back flags masks (omega arith)))

-- ---- what is fixed is fixed again

flag-again : (f m : Bool) → (f || ((f || m) && not f)) ≡ (f || m)
flag-again true m = refl
flag-again false true = refl
flag-again false false = refl

count-again : (b : Bool) (f m : ℕ) → (if b then f else if b then 0 else if b then f else m) ≡ (if b then f else m)
count-again true f m = refl
count-again false f m = refl

-- the modifiers that the canonical name says
abbrev pub said_mods : FixedMods → Mods → Mods
said_mods f m = free_mods f (with_fixed f m)

mods : Bool → Bool → Bool → Bool → ℕ → Mods
mods u k e i c = record { user = u; kernel = k; edge = e; invert = i; cmask = c }

pub mods-again : (f : FixedMods) (m : Mods) → with_fixed f (said_mods f m) ≡ with_fixed f m
mods-again f m = rw (flag-again f.edge m.edge, flag-again f.invert m.invert, count-again (nat_lt 0 f.cmask) f.cmask m.cmask) refl

pub said-small : (f : FixedMods) (m : Mods) → m.cmask < 256 → (said_mods f m).cmask < 256
said-small f m lt = go (nat_lt 0 f.cmask)
  where
    go : (b : Bool) → (if b then 0 else if b then f.cmask else m.cmask) < 256
    go true = omega arith
    go false = lt
