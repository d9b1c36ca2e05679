use Rattle.tool_output.proofs.Words.{◌≡◌, ◌∙◌, ◌<◌, ◌≤◌, ℕ, true, false, Bool, List, length, map, take, refl, ap, arith, set, length-map}
use Rattle.tool_output.proofs.Words.{AllByRecursion, MaskText, component_text, event_text, mask_text, nothing, Found, native_of, found, no_modifiers}
use Rattle.tool_output.proofs.Umasks.{flag-alone}
use Rattle.tool_output.proofs.chooser.native.with_umask.Goals as goal

none : AllByRecursion (λ b. b ≡ false) nothing.named
none = (refl, (refl, (refl, (refl, (refl, (refl, (refl, (refl, (refl, (refl, (refl, (refl, (refl, (refl, (refl, (refl, tt))))))))))))))))

pub returns : goal.returns
returns c =
    let rows = c.args.event.now.masks.items in
    let masks : List MaskText = map mask_text rows in
    let f : Found = found c.args.comp c.args.row (component_text c.args.component.now) (event_text c.args.event.now) in
    let same : c.len.result ≡ length masks = omega (arith, c.len.ensures, length-map rows mask_text) in
    let few : length masks ≤ length nothing.named = omega (arith, c.requires.few, length-map rows mask_text) in
    let there : c.args.umask < length masks = omega (arith, c.requires.there, length-map rows mask_text) in
    c.native_with.ensures
    ∙ ap (λ (k : ℕ). native_of f (take k (set nothing.named c.args.umask true)) no_modifiers) same
    ∙ ap (λ (flags : List Bool). native_of f flags no_modifiers) (flag-alone nothing.named masks c.args.umask few none there)
