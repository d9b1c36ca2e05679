-- A canonical name asks for nothing else than its umasks fix.
use Rattle.name_encoder.proofs.Words.{◌≡◌, ◌∙◌, ◌&&◌, ◌||◌, ◌++◌, ℕ, Bool, true, false, List, Option, Some, None, refl, ap, ap₂, nat_lt, decimal}
use Rattle.name_encoder.proofs.Words.{FixedMods, Mods, Text, Modifier, SaidAttribute, asks_other, cmask, contradicts, edge, flag_value, invert}
use Rattle.name_encoder.proofs.Words.{modifier, value_of, wanted_of}
use Rattle.std.specs.Prelude.{if◌then◌else◌, option_map, unwrap_or}
use Rattle.name_encoder.proofs.Chosen.{own-saids-found, own_said}
use Rattle.name_encoder.proofs.Fixing.{said_mods}
use Rattle.name_encoder.proofs.Saids.{mask_saids, mod_saids}

and-false : (b : Bool) → (b && false) ≡ false
and-false true = refl
and-false false = refl

-- the value of an attribute that may be said
abbrev value_said : Modifier → Option SaidAttribute → Option ℕ
value_said m o = option_map (λ s. unwrap_or (value_of (modifier m) s.value) 0) o

edge-agrees : (b : Bool) → asks_other (value_said edge (own_said b edge None)) 1 ≡ false
unfolding flag_value
edge-agrees true = refl
edge-agrees false = refl

invert-agrees : (b : Bool) → asks_other (value_said invert (own_said b invert None)) 1 ≡ false
unfolding flag_value
invert-agrees true = refl
invert-agrees false = refl

-- a least amount that is fixed is not said
count-agrees : (b : Bool) (f n : ℕ) (v : ℕ → Option Text) → (b && asks_other (value_said cmask (let k : ℕ = if b then 0 else n in own_said (nat_lt 0 k) cmask (v k))) f) ≡ false
count-agrees true f n v = refl
count-agrees false f n v = refl

pub own-agrees : (f : FixedMods) (flags : List Bool) (m : Mods) → contradicts f (wanted_of (mask_saids 0 flags ++ mod_saids (said_mods f m))) ≡ false
own-agrees f flags m =
    let s = said_mods f m in
    let own = own-saids-found flags s in
    let e = ap (λ (o : Option SaidAttribute). f.edge && asks_other (value_said edge o) 1) own.e ∙ ap (λ (b : Bool). f.edge && b) (edge-agrees s.edge) ∙ and-false f.edge in
    let i = ap (λ (o : Option SaidAttribute). f.invert && asks_other (value_said invert o) 1) own.i ∙ ap (λ (b : Bool). f.invert && b) (invert-agrees s.invert) ∙ and-false f.invert in
    let c = ap (λ (o : Option SaidAttribute). nat_lt 0 f.cmask && asks_other (value_said cmask o) f.cmask) own.c
    ∙ count-agrees (nat_lt 0 f.cmask) f.cmask (if nat_lt 0 f.cmask then f.cmask else m.cmask) (λ k. Some (decimal k)) in
    ap₂ (λ (a b : Bool). a || b) e (ap₂ (λ (a b : Bool). a || b) i c)
