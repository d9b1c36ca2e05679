-- Equality as it is derived is the test of all fields.
use Rattle.postfix_rules.proofs.Words.{◌≡◌, Bool, true, false, ◌&&◌, ◌==◌, refl, ◌∙◌, and_assoc, beq, Native, EventRef, same_bool, same_event}
use Rattle.postfix_rules.proofs.Words.{same_native}
use Rattle.papi_base.specs.declared.native.EventRef.TheVariants as event
use Rattle.papi_base.specs.contracts.native.NativePartialEq.TheImpl as native
use Rattle.papi_base.specs.contracts.native.EventRefPartialEq.TheImpl as event_ref

-- the tests in one row, with the modifiers grouped
in_row : (a b c d e f g h i j k : Bool) → (a && (b && (c && (d && (e && ((f && (g && (h && (i && j)))) && k)))))) ≡ (a && b && c && d && e && f && g && h && i && j && k)
in_row a b c d e f g h i j k = simp and_assoc

bools_same : (a b : Bool) → beq a b ≡ same_bool a b
bools_same true true = refl
bools_same true false = refl
bools_same false true = refl
bools_same false false = refl

pub natives_same : (m n : Native) → native.eq-value.it m n ≡ same_native m n
natives_same m n =
    in_row (m.comp == n.comp) (m.event == n.event) (m.select == n.select) (m.masks == n.masks) (m.umask == n.umask) (beq m.mods.user n.mods.user)
    (beq m.mods.kernel n.mods.kernel) (beq m.mods.edge n.mods.edge) (beq m.mods.invert n.mods.invert) (m.mods.cmask == n.mods.cmask)
    (m.allowed == n.allowed)
    ∙ (λ i. (m.comp == n.comp) && (m.event == n.event) && (m.select == n.select) && (m.masks == n.masks) && (m.umask == n.umask) && bools_same m.mods.user n.mods.user i && bools_same m.mods.kernel n.mods.kernel i && bools_same m.mods.edge n.mods.edge i && bools_same m.mods.invert n.mods.invert i && (m.mods.cmask == n.mods.cmask) && (m.allowed == n.allowed))

pub events_same : (e f : EventRef) → event_ref.eq-value.it e f ≡ same_event e f
events_same (event.Preset i) (event.Preset j) = refl
events_same (event.Preset i) (event.Native n) = refl
events_same (event.Native m) (event.Preset j) = refl
events_same (event.Native m) (event.Native n) = natives_same m n
