-- Bits of a list of flags.
use Rattle.thread_registry.proofs.Words.{◌≡◌, ℕ, suc, ◌+◌, ◌-◌, ◌*◌, ◌^◌, ◌<◌, ◌≤◌, Bool, true, false, if◌then◌else◌, List, [], ◌∷◌, map, drop}
use Rattle.thread_registry.proofs.Words.{length, get_or, subst, refl, sym, ◌∙◌, ap, ap₂, arith, drop_more, unary_clauses, Account, listed_from}
use Rattle.thread_registry.proofs.Words.{bits_from, listed_bits}

-- twice as high
pub bits-twice : (bit : ℕ) (flags : List Bool) → bits_from (2 * bit) flags ≡ 2 * bits_from bit flags
bits-twice bit [] = refl
bits-twice bit (true ∷ flags) = let h = bits-twice (2 * bit) flags in omega (arith, h)
bits-twice bit (false ∷ flags) = let h = bits-twice (2 * bit) flags in omega (arith, h)

-- the flags from one place lower on
pub bits-lower : (flags : List Bool) (t listed n : ℕ) (on : Bool) → 0 < t → t ≤ length flags → get_or flags (t - 1) on ≡ on → n ≡ (if on then 1 else 0)
    → listed ≡ bits_from 1 (drop t flags) → 2 * listed + n ≡ bits_from 1 (drop (t - 1) flags)
bits-lower flags t listed n on pos inside is bit e =
    let more : drop (t - 1) flags ≡ on ∷ drop t flags =
    drop_more flags (t - 1) on (omega arith) ∙ ap₂ (λ x k. x ∷ drop k flags) is (omega arith) in
    omega (arith, e, bit, bits-twice 1 (drop t flags)) ∙ sym (ap (bits_from 1) more)

-- a bit more
pub below-lower : (t listed n : ℕ) → 0 < t → t ≤ 64 → n ≤ 1 → listed < 2 ^ (64 - t) → 2 * listed + n < 2 ^ (64 - (t - 1))
below-lower t listed n pos inside bit h =
    let more : 2 ^ (64 - (t - 1)) ≡ 2 * 2 ^ (64 - t) = ap (λ m. 2 ^ m) {y = suc (64 - t)} (omega arith) ∙ simp unary_clauses (omega arith) in
    subst (λ m. 2 * listed + n < m) (sym more) (omega (arith, h, bit))

pub bits-all : (flags : List Bool) (accounts : List Account) (listed : ℕ) → listed ≡ bits_from 1 (drop 0 flags) → map (λ a. a.registered) accounts ≡ flags → listed ≡ listed_from 1 accounts
bits-all flags accounts listed e m = e ∙ (ap (bits_from 1) (sym m) ∙ listed_bits 1 accounts)
