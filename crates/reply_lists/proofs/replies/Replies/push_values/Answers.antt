use Rattle.std.proofs.Common.{rules, ◌∙◌, ap, sym, ◌++◌, ◌∷◌, [], map}
use Rattle.std.proofs.lemmas.List.{append-nil}
use Rattle.session_model.specs.declared.reply.Body.TheVariants as body
use Rattle.session_model.specs.declared.reply.Reply.{Reply}
use Rattle.reply_lists.specs.declared.kept.Kept.TheVariants as kept
use Rattle.reply_lists.specs.declared.kept.Store.{Store}
use Rattle.reply_lists.specs.Bodies.{Grew, IsKeptAs, reply_of}
use Rattle.reply_lists.proofs.BodyLemmas.{replies_more, replies_stay}
use Rattle.reply_lists.proofs.replies.Replies.push_values.Goals as goal
use Rattle.reply_lists.proofs.replies.Replies.push_values.Goals.{After-keep_values}

-- with the values that came
abbrev with_values : After-keep_values → Store
with_values c = record c.self.inside.store { values = c.keep_values.new.all }

-- the values alone grew
grew : (c : After-keep_values) → Grew c.self.inside.store (with_values c)
grew c = record { values = c.keep_values.ensures.grown; events = ([], sym (append-nil _)); counters = ([], sym (append-nil _)) }

pub returns-in_err-span-clause-err : goal.returns-in_err-span-clause-err
returns-in_err-span-clause-err c =
    let w = goal.at.returns-in_err-span-clause-err c in
    let stays = replies_stay _ _ c.self.inside.heads.items (grew w.After-keep_values) c.self.invariant ∙ c.self.view_is in
    search (rules, stays)

pub returns-in_err-push-clause-err : goal.returns-in_err-push-clause-err
returns-in_err-push-clause-err c =
    let w = goal.at.returns-in_err-push-clause-err c in
    let stays =
    ap (map (reply_of (with_values w.After-keep_values))) c.in_err-push.ensures.items ∙ replies_stay _ _ c.self.inside.heads.items (grew w.After-keep_values) c.self.invariant ∙ c.self.view_is in
    search (rules, stays)

pub returns-clause-ok : goal.returns-clause-ok
returns-clause-ok c =
    let w = goal.at.returns-clause-ok c in
    let made : Reply = record { code = c.args.code; body = body.Values c.args.values.now } in
    let span = c.in_ok-span.ensures.span in
    let is : IsKeptAs (with_values w.After-keep_values) (kept.Values c.in_ok-span.span) made.body = record { parts = span.lies; body = ap body.Values span.has } in
    ap (map (reply_of (with_values w.After-keep_values))) c.in_ok-push.ensures.items
    ∙ (replies_more _ _ c.self.inside.heads.items (kept.Values c.in_ok-span.span) made (grew w.After-keep_values) c.self.invariant is ∙ ap (λ v. v ++ made ∷ []) c.self.view_is)
