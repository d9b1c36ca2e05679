use Rattle.std.proofs.Common.{rules, ◌≡◌, ◌∙◌, ◌++◌, ◌∷◌, [], ap, subst, sym}
use Rattle.reply_lists.specs.Numbered.{AreNumbers, numbered}
use Rattle.reply_lists.proofs.NumberLemmas.{numbered_more, numbered_stay, numbers_more}
use Rattle.reply_lists.proofs.events.EventList.push.Goals as goal

pub returns-in_err-number-clause-err : goal.returns-in_err-number-clause-err
returns-in_err-number-clause-err c =
    let stays : numbered c.number_of.new.known.items c.self.inside.numbers.items ≡ c.args.self.now =
    ap (λ k. numbered k c.self.inside.numbers.items) c.number_of.ensures.grown.1 ∙ (numbered_stay _ c.number_of.ensures.grown.0 _ c.self.invariant ∙ c.self.view_is) in
    search (rules, stays)

pub returns-in_err-push-clause-err : goal.returns-in_err-push-clause-err
returns-in_err-push-clause-err c =
    let stays : numbered c.number_of.new.known.items c.push.new.self.items ≡ c.args.self.now =
    ap (numbered c.number_of.new.known.items) c.in_err-push.ensures.items
    ∙ (ap (λ k. numbered k c.self.inside.numbers.items) c.number_of.ensures.grown.1 ∙ (numbered_stay _ c.number_of.ensures.grown.0 _ c.self.invariant ∙ c.self.view_is)) in
    search (rules, stays)

pub invariant_of-self-2 : goal.invariant_of-self-2
invariant_of-self-2 c =
    subst (AreNumbers c.number_of.new.known.items) (sym c.in_ok-push.ensures.items)
    (numbers_more _ _ c.number_of.ensures.grown.0 _ c.in_ok-number.number c.args.event c.number_of.ensures.grown.1 c.self.invariant c.in_ok-number.ensures.event)

pub returns-clause-ok : goal.returns-clause-ok
returns-clause-ok c =
    ap (numbered c.number_of.new.known.items) c.in_ok-push.ensures.items
    ∙ (numbered_more _ _ c.number_of.ensures.grown.0 _ c.in_ok-number.number c.args.event c.number_of.ensures.grown.1 c.self.invariant c.in_ok-number.ensures.event ∙ ap (λ v. v ++ c.args.event ∷ []) c.self.view_is)
