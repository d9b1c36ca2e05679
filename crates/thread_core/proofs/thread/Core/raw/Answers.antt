use Rattle.thread_core.proofs.Answering.{refl, sym, ◌∙◌, ap, option_copied, absent_follows, CoreView, List, UnitView, register_shown, face_of_slot}
use Rattle.thread_core.proofs.RawRegisters.{raw_follows}
use Rattle.thread_core.proofs.thread.Core.raw.Goals as goal

pub returns-in_default : goal.returns-in_default
returns-in_default c = absent_follows c.args.set _ c.requires (sym c.set.ensures ∙ ap option_copied c.in_default.is) refl

pub returns : goal.returns
returns c =
    let slot = c.in-Some.slot.now in
    let units = c.deref.ensures.value ∙ ap (λ (v : CoreView). v.units) c.self.view_is in
    raw_follows c.args._book.now _ c.args.set c.args.c _ slot c.requires (sym c.set.ensures ∙ ap option_copied c.in-Some.is)
    (c.register.ensures ∙ ap (λ (us : List UnitView). register_shown us (face_of_slot slot) c.args.c) units)
