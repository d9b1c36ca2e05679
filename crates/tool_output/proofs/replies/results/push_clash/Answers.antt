use Rattle.tool_output.proofs.Words.{◌∙◌, ◌++◌, ap, map, codes, canonical, clash_texts, counter_text, members_below, spaced}
use Rattle.std.specs.Prelude.{string_bytes}
use Rattle.tool_output.proofs.Texts.{parts_pushed}
use Rattle.tool_output.proofs.replies.results.push_clash.Goals as goal

pub returns : goal.returns
unfolding clash_texts
returns c =
    let clash = c.args.clash.now in
    parts_pushed _ _ _ _ (codes "/") (map (canonical c.args.catalog.now.tables) clash.natives) _ c.in_ok-push_natives.ensures c.in_ok-push_str.ensures.bytes
    (c.in_ok-push_counters.ensures ∙ ap (λ comp. string_bytes c.push_str.new.self ++ spaced (map (counter_text c.args.catalog.now comp) (members_below 32 clash.counters))) c.component_of.ensures)
