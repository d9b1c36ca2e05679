-- The tests for equal natives and events mean equality.
use Rattle.postfix_rules.proofs.Words.{◌≡◌, ℕ, Bool, true, false, ◌==◌, refl, sym, ap, ◌∙◌, arith, nat_tests, Native, EventRef, same_bool}
use Rattle.postfix_rules.proofs.Words.{same_native, same_event, SameEvents, SameNatives}
use Rattle.papi_base.specs.declared.native.EventRef.TheVariants as event

same_bool_is : (a b : Bool) → same_bool a b ≡ true → a ≡ b
same_bool_is true b e = sym e
same_bool_is false true e = e
same_bool_is false false e = refl

pub nat_is : (a b : ℕ) → (a == b) ≡ true → a ≡ b
nat_is a b e = grind (arith, nat_tests, e)

nat_self : (a : ℕ) → (a == a) ≡ true
nat_self a = grind (arith, nat_tests)

bool_self : (a : Bool) → same_bool a a ≡ true
bool_self true = refl
bool_self false = refl

pub native_is : (m n : Native) → same_native m n ≡ true → m ≡ n
native_is m n e =
    let comps : m.comp ≡ n.comp = grind (arith, nat_tests, e) in
    let events : m.event ≡ n.event = grind (arith, nat_tests, e) in
    let selects : m.select ≡ n.select = grind (arith, nat_tests, e) in
    let maskss : m.masks ≡ n.masks = grind (arith, nat_tests, e) in
    let umasks : m.umask ≡ n.umask = grind (arith, nat_tests, e) in
    let alloweds : m.allowed ≡ n.allowed = grind (arith, nat_tests, e) in
    let cmasks : m.mods.cmask ≡ n.mods.cmask = grind (arith, nat_tests, e) in
    let users : m.mods.user ≡ n.mods.user = same_bool_is m.mods.user n.mods.user (grind (arith, nat_tests, e)) in
    let kernels : m.mods.kernel ≡ n.mods.kernel = same_bool_is m.mods.kernel n.mods.kernel (grind (arith, nat_tests, e)) in
    let edges : m.mods.edge ≡ n.mods.edge = same_bool_is m.mods.edge n.mods.edge (grind (arith, nat_tests, e)) in
    let inverts : m.mods.invert ≡ n.mods.invert = same_bool_is m.mods.invert n.mods.invert (grind (arith, nat_tests, e)) in
    λ i. record { comp = comps i; event = events i; select = selects i; masks = maskss i; umask = umasks i; mods = record { user = users i; kernel = kernels i; edge = edges i; invert = inverts i; cmask = cmasks i }; allowed = alloweds i }

pub native_self : (n : Native) → same_native n n ≡ true
native_self n = rw (nat_self n.comp, nat_self n.event, nat_self n.select, nat_self n.masks, nat_self n.umask, bool_self n.mods.user, bool_self n.mods.kernel, bool_self n.mods.edge, bool_self n.mods.invert, nat_self n.mods.cmask, nat_self n.allowed) refl

pub event_is : (e f : EventRef) → same_event e f ≡ true → e ≡ f
event_is (event.Preset i) (event.Preset j) h = ap event.Preset (nat_is i j h)
event_is (event.Preset i) (event.Native n) h = cc
event_is (event.Native m) (event.Preset j) h = cc
event_is (event.Native m) (event.Native n) h = ap event.Native (native_is m n h)

pub event_self : (e : EventRef) → same_event e e ≡ true
event_self (event.Preset i) = nat_self i
event_self (event.Native n) = native_self n

pub same_natives : SameNatives
same_natives m n = (native_is m n, λ e. ap (same_native m) (sym e) ∙ native_self m)

pub same_events : SameEvents
same_events e f = (event_is e f, λ h. ap (same_event e) (sym h) ∙ event_self e)
