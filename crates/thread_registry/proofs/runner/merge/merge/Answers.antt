use Rattle.thread_registry.proofs.Words.{rules, arith, ◌≡◌, ◌<◌, ◌++◌, ◌∷◌, [], refl, ◌∙◌, ap, get_or, length, get_or_default, IsListOf}
use Rattle.thread_registry.proofs.Dealt.{some_line}
use Rattle.thread_registry.proofs.Lists.{no-items}
use Rattle.thread_registry.proofs.Merged.{Looks, answered-more, counts-none, counts-step, merged-none, replied-by, whole-step}
use Rattle.thread_registry.proofs.runner.merge.merge.Goals as goal

pub loop-line-init : goal.loop-line-init
loop-line-init c =
    record {
      taken_len = refl;
      len = c.requires.none;
      room = refl;
      answered = λ k d lt. absurd (omega (arith, lt, c.requires.none, c.args.lines.now.ok.0));
      counts = counts-none _ _ _ refl c.requires.len c.requires.counts;
      whole = merged-none _ _ _ _ _ (no-items _ (omega (arith, c.requires.none, c.args.lines.now.ok.0))) c.new-registry.ensures.none refl c.requires.len;
    }

pub answer_next-answer-requires-clause-replied : goal.answer_next-answer-requires-clause-replied
answer_next-answer-requires-clause-replied c =
    let line = get_or c.args.plan.now c.loop-line.line-index some_line in
    let below : c.loop-line.line-index < length c.args.plan.now = search rules in
    let here = get_or_default c.args.plan.now c.loop-line.line-index line some_line below in
    let few : line.thread < 64 = c.requires.threads.each c.loop-line.line-index some_line below in
    let own : get_or c.args.replies.now line.thread c.index-replies-t.result ≡ c.index-replies-t.result = search rules in
    replied-by c.loop-line.taken c.args.replies.now c.index-replies-t.result (get_or c.loop-line.taken line.thread 0) c.args.plan.now c.loop-line.line-index line below here few
    c.loop-line.invariant.taken_len c.requires.len
    (get_or_default c.args.replies.now line.thread [] c.index-replies-t.result (omega (arith, few, c.requires.len)) ∙ own) refl c.loop-line.invariant.counts

pub taken_after-requires : goal.taken_after-requires
taken_after-requires c =
    let line = get_or c.args.plan.now c.loop-line.line-index some_line in
    let below : c.loop-line.line-index < length c.args.plan.now = search rules in
    let here = get_or_default c.args.plan.now c.loop-line.line-index line some_line below in
    let few : line.thread < 64 = c.requires.threads.each c.loop-line.line-index some_line below in
    let own : get_or c.args.replies.now line.thread c.index-replies-t.result ≡ c.index-replies-t.result = search rules in
    record {
      replied =
          replied-by c.loop-line.taken c.args.replies.now c.index-replies-t.result (get_or c.loop-line.taken line.thread 0) c.args.plan.now c.loop-line.line-index line below here few
          c.loop-line.invariant.taken_len c.requires.len
          (get_or_default c.args.replies.now line.thread [] c.index-replies-t.result (omega (arith, few, c.requires.len)) ∙ own) refl c.loop-line.invariant.counts;
    }

pub loop-line-preserved : goal.loop-line-preserved
loop-line-preserved c =
    let line = get_or c.args.plan.now c.loop-line.line-index some_line in
    let below : c.loop-line.line-index < length c.args.plan.now = search rules in
    let few : line.thread < 64 = c.requires.threads.each c.loop-line.line-index some_line below in
    let inside : line.thread < length c.args.replies.now = omega (arith, few, c.requires.len) in
    let here : get_or c.args.replies.now line.thread c.index-replies-t.result ≡ c.index-replies-t.result = search rules in
    let own = get_or_default c.args.replies.now line.thread [] c.index-replies-t.result inside ∙ here in
    let looks : Looks c.loop-line.taken c.args.replies.now c.index-replies-t.result (get_or c.loop-line.taken line.thread 0) c.taken_after.result c.args.plan.now c.loop-line.line-index line =
    record {
      below = below;
      here = get_or_default c.args.plan.now c.loop-line.line-index line some_line below;
      few = few;
      taken_len = c.loop-line.invariant.taken_len;
      lists_len = c.requires.len;
      own = own;
      before = refl;
      after = c.taken_after.ensures.rest;
    } in
    let listed : IsListOf c.args.replies.now line.thread c.index-replies-t.result = record { listed = inside; is = own } in
    let pushed = c.push_reserved.ensures.items ∙ ap (λ w. c.loop-line.lines.items ++ record { line = line.number; thread = line.thread; word = w; answer = c.answer_next-answer.result } ∷ []) c.name.ensures.name in
    record {
      taken_len = search rules;
      len = search rules;
      room = search rules;
      answered = answered-more _ c.loop-line.lines.items _ _ c.loop-line.invariant.answered (c.answer_next-answer.ensures.answered c.args.replies.now listed) c.push_reserved.ensures.items;
      counts = counts-step c.loop-line.taken c.args.replies.now c.index-replies-t.result (get_or c.loop-line.taken line.thread 0) c.taken_after.result c.args.plan.now c.loop-line.line-index line looks c.loop-line.invariant.counts;
      whole =
          whole-step c.loop-line.taken c.args.replies.now c.index-replies-t.result (get_or c.loop-line.taken line.thread 0) c.taken_after.result c.args.plan.now c.loop-line.line-index line
          c.loop-line.registry c.answer_next-answer.new.registry c.loop-line.lines.items c.push_reserved.new.self.items _ c.answer_next-answer.result looks
          (c.answer_next-answer.ensures.reply c.args.replies.now listed) c.answer_next-answer.ensures.registered pushed c.loop-line.invariant.whole;
    }
