use Rattle.papi_c.proofs.Words.{arith, ap, ◌∙◌, unwrap_or, length-set, event_code}
use Rattle.papi_c.proofs.Places.{mapped_on, rest_on}
use Rattle.papi_c.proofs.codes.list.Goals as goal

pub loop-i-preserved : goal.loop-i-preserved
loop-i-preserved c =
    let inv = c.loop-i.invariant in
    let x = c.unwrap_or.result in
    let l = c.args.library.now in
    record {
      size = length-set c.loop-i.out c.loop-i.i x ∙ inv.size;
      written = mapped_on (λ e. unwrap_or (event_code l.catalog l.mentioned e) 0) c.args.events.now c.loop-i.out c.loop-i.i c.at.result x
          (omega (arith, c.loop-i-test.true, inv.size, c.if-n-out.false)) inv.written c.at.ensures.item (c.unwrap_or.ensures ∙ ap (λ o. unwrap_or o 0) c.code_of_event.ensures.code);
      rest = rest_on c.loop-i.out c.args.out.now c.loop-i.i x inv.rest;
    }
