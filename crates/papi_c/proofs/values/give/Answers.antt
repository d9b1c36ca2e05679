use Rattle.papi_c.proofs.Words.{rules, ◌≡◌, ◌∙◌, Some, ap, arith, of_z, to_z, w64, length-set}
use Rattle.papi_c.proofs.Places.{rest_on, taken_on}
use Rattle.papi_c.proofs.values.give.Goals as goal

pub loop-i-preserved : goal.loop-i-preserved
loop-i-preserved c =
    let inv = c.loop-i.invariant in
    let x = to_z w64 (of_z w64 c.at.result) in
    let same : c.at.result ≡ x = search rules in
    record {
      size = length-set c.loop-i.out c.loop-i.i x ∙ inv.size;
      written = taken_on c.args.values.now c.loop-i.out c.loop-i.i x (omega (arith, c.loop-i-test.true, inv.size, c.min-n.ensures)) inv.written
          (c.at.ensures.item ∙ ap Some same);
      rest = rest_on c.loop-i.out c.args.out.now c.loop-i.i x inv.rest;
    }
