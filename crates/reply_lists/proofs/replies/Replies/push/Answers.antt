use Rattle.std.proofs.Common.{rules, ◌≡◌, ◌∙◌, ap, subst, sym, ◌++◌, ◌∷◌, [], map}
use Rattle.reply_lists.specs.Bodies.{AllHaveParts, reply_of}
use Rattle.reply_lists.proofs.BodyLemmas.{parts_more, replies_more, replies_stay}
use Rattle.reply_lists.proofs.replies.Replies.push.Goals as goal

pub returns-in_err-kept-clause-err : goal.returns-in_err-kept-clause-err
returns-in_err-kept-clause-err c =
    let stays : map (reply_of c.keep.new.store) c.self.inside.heads.items ≡ c.args.self.now = replies_stay _ _ c.self.inside.heads.items c.keep.ensures.grown c.self.invariant ∙ c.self.view_is in
    search (rules, stays)

pub returns-in_err-push-clause-err : goal.returns-in_err-push-clause-err
returns-in_err-push-clause-err c =
    let stays : map (reply_of c.keep.new.store) c.push.new.self.items ≡ c.args.self.now =
    ap (map (reply_of c.keep.new.store)) c.in_err-push.ensures.items ∙ replies_stay _ _ c.self.inside.heads.items c.keep.ensures.grown c.self.invariant ∙ c.self.view_is in
    search (rules, stays)

pub invariant_of-self-2 : goal.invariant_of-self-2
invariant_of-self-2 c = subst (AllHaveParts c.keep.new.store) (sym c.in_ok-push.ensures.items) (parts_more _ _ _ _ c.keep.ensures.grown c.self.invariant c.in_ok-kept.ensures.kept.parts)

pub returns-clause-ok : goal.returns-clause-ok
returns-clause-ok c =
    ap (map (reply_of c.keep.new.store)) c.in_ok-push.ensures.items
    ∙ (replies_more _ _ c.self.inside.heads.items c.in_ok-kept.kept c.args.reply.now c.keep.ensures.grown c.self.invariant c.in_ok-kept.ensures.kept ∙ ap (λ v. v ++ c.args.reply.now ∷ []) c.self.view_is)
