use Rattle.tool_output.proofs.Words.{◌∙◌, ◌++◌, ap, arith, string_bytes, spaces}
use Rattle.tool_output.proofs.Listed.{space_pushed}
use Rattle.tool_output.proofs.listings.lines.push_column.Goals as goal

pub loop-place-preserved : goal.loop-place-preserved
loop-place-preserved c = record {
  text = space_pushed (string_bytes c.args.text.now) _ _ c.args.field.now c.loop-place._place (omega arith) c.loop-place.invariant.text c.in_ok-push_str-2.ensures.bytes;
  within = omega arith;
}

pub returns : goal.returns
returns c =
    c.loop-place.invariant.text
    ∙ ap (λ k. string_bytes c.args.text.now ++ (c.args.field.now ++ spaces k)) (omega (arith, c.loop-place-test.false, c.loop-place.invariant.within))
