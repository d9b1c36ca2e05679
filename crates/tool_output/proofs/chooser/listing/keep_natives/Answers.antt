use Rattle.tool_output.proofs.Words.{◌≡◌, ◌∙◌, ◌<◌, ◌++◌, ◌∷◌, [], ℕ, Bool, List, Some, filter, length, sym, ap, subst, arith, OnOk, Result}
use Rattle.tool_output.proofs.Words.{nat_tests, length-map, IsComponent, native-allowed, all_at, EventRef, Native, alone, found, no_modifiers}
use Rattle.tool_output.proofs.Words.{with_umask, takes, IsOpen}
use Rattle.event_tables.specs.Views.{component_text, counter_text, event_text, mask_text}
use Rattle.papi_base.specs.declared.native.EventRef.TheVariants as event
use Rattle.tool_output.proofs.Natives.{event_kept, native_fits, with_masks, without_masks}
use Rattle.tool_output.proofs.Rows.{kept_one}
use Rattle.tool_output.proofs.chooser.listing.keep_natives.Goals as goal

-- what is kept of the same events is the same
kept_of : {T E X : Type 0} (r : Result T E) (p : X → Bool) (start after xs ys : List X) → xs ≡ ys → OnOk r (after ≡ start ++ filter p xs) → OnOk r (after ≡ start ++ filter p ys)
kept_of r p start after xs ys e h = subst (λ zs. OnOk r (after ≡ start ++ filter p zs)) e h

pub keep-requires-clause-fits : goal.keep-requires-clause-fits
keep-requires-clause-fits c =
    let tables = c.args.catalog.now.tables in
    let e = event_text c.args.event.now in
    let kept = event_kept tables c.args.comp c.args.row e c.requires.kept c.requires.here in
    let is = c.without_umask-native.ensures kept.component in
    let same = ap (λ (n : Native). n.allowed) is in
    native_fits tables c.args.comp c.args.row e c.without_umask-native.result c.requires.kept c.requires.here (ap (λ (n : Native). n.comp) is)
    (omega (arith, same, native-allowed (found c.args.comp c.args.row kept.component e) [] no_modifiers))

pub keep-requires-clause-open : goal.keep-requires-clause-open
keep-requires-clause-open c =
    let kept = event_kept c.args.catalog.now.tables c.args.comp c.args.row (event_text c.args.event.now) c.requires.kept c.requires.here in
    subst (λ (k : ℕ). IsOpen c.args.catalog.now c.args.set.now c.args.matching.now (Some k)) (sym (ap (λ (n : Native). n.comp) (c.without_umask-native.ensures kept.component))) c.requires.open

pub returns-then-is_empty : goal.returns-then-is_empty
returns-then-is_empty c =
    let component = component_text c.args.component.now in
    let f = found c.args.comp c.args.row component (event_text c.args.event.now) in
    let none : length f.event.masks ≡ 0 = grind (arith, nat_tests, length-map c.args.event.now.masks.items mask_text, c.if-is_empty.true, c.is_empty.ensures) in
    kept_of c.keep.result (takes c.args.catalog.now c.args.set.now.rest) c.args.events.now.items c.keep.new.events.items (event.Native c.without_umask-native.result ∷ []) _
    (ap (λ (n : Native). event.Native n ∷ []) (c.without_umask-native.ensures component) ∙ sym (without_masks f none)) c.keep.ensures

pub with_umask-native-requires-clause-few_counters : goal.with_umask-native-requires-clause-few_counters
with_umask-native-requires-clause-few_counters c =
    let kept = all_at IsComponent c.args.catalog.now.tables c.args.comp (component_text c.args.component.now) c.requires.kept.each c.requires.among in
    omega (arith, kept.few_counters, length-map c.args.component.now.counters.items counter_text)

pub with_umask-native-requires-clause-few : goal.with_umask-native-requires-clause-few
with_umask-native-requires-clause-few c =
    let kept = event_kept c.args.catalog.now.tables c.args.comp c.args.row (event_text c.args.event.now) c.requires.kept c.requires.here in
    omega (arith, kept.event.few, length-map c.args.event.now.masks.items mask_text)

pub keep-requires-in-loop-umask-clause-fits : goal.keep-requires-in-loop-umask-clause-fits
keep-requires-in-loop-umask-clause-fits c =
    let tables = c.args.catalog.now.tables in
    let e = event_text c.args.event.now in
    let is = c.with_umask-native.ensures in
    let same = ap (λ (n : Native). n.allowed) is in
    native_fits tables c.args.comp c.args.row e c.with_umask-native.result c.requires.kept c.requires.here (ap (λ (n : Native). n.comp) is)
    (omega (arith, same, native-allowed (found c.args.comp c.args.row (component_text c.args.component.now) e) (alone c.loop-umask.umask e.masks) no_modifiers))

pub keep-requires-in-loop-umask-clause-open : goal.keep-requires-in-loop-umask-clause-open
keep-requires-in-loop-umask-clause-open c =
    subst (λ (k : ℕ). IsOpen c.args.catalog.now c.args.set.now c.args.matching.now (Some k)) (sym (ap (λ (n : Native). n.comp) c.with_umask-native.ensures)) c.requires.open

pub loop-umask-preserved : goal.loop-umask-preserved
loop-umask-preserved c =
    let component = component_text c.args.component.now in
    let f = found c.args.comp c.args.row component (event_text c.args.event.now) in
    let keeps = takes c.args.catalog.now c.args.set.now.rest in
    kept_one keeps (with_umask f) c.loop-umask.umask c.args.events.now.items c.loop-umask.events.items c.keep-in-loop-umask.new.events.items c.loop-umask.invariant
    (c.in_ok-keep.ensures ∙ ap (λ (n : Native). c.loop-umask.events.items ++ filter keeps (event.Native n ∷ [])) c.with_umask-native.ensures)

pub returns : goal.returns
returns c =
    let f = found c.args.comp c.args.row (component_text c.args.component.now) (event_text c.args.event.now) in
    let rows = length-map c.args.event.now.masks.items mask_text in
    let some : 0 < c.loop-umask.umask = grind (arith, nat_tests, c.if-is_empty.false, c.is_empty.ensures, c.len-umask-end.ensures, c.loop-umask-test.false) in
    let all : length f.event.masks ≡ c.loop-umask.umask = omega (arith, rows, c.len-umask-end.ensures, c.loop-umask-test.false, c.loop-umask.auto.umask-end) in
    c.loop-umask.invariant
    ∙ ap (λ (es : List EventRef). c.args.events.now.items ++ filter (takes c.args.catalog.now c.args.set.now.rest) es) (sym (with_masks f c.loop-umask.umask some all))
