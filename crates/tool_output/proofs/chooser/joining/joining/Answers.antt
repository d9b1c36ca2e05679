-- a native event that is there does not join
use Rattle.tool_output.proofs.Words.{◌≡◌, ◌++◌, true, false, ◌∷◌, [], List, ap, arith, sym, ◌∙◌, append_assoc, length-append, append-nil, Native}
use Rattle.tool_output.proofs.Words.{among, joined_by, joins_new, joins_old}
use Rattle.tool_output.proofs.chooser.joining.joining.Goals as goal
use Rattle.tool_output.proofs.chooser.joining.joining.Goals.{then-not-has_either, else-not-has_either}

pub loop-i-init : goal.loop-i-init
loop-i-init c = rw c.new-further.ensures.empty (record { few = omega arith; rest = ap (λ (ns : List Native). joined_by ns c.args.more.now) (append-nil c.args.natives.now) })

pub loop-i-preserved : goal.loop-i-preserved
loop-i-preserved c =
    let natives = c.args.natives.now in
    let further = c.loop-i.further in
    let n = c.at-n.result in
    elim c.if-not-has_either.branch [
      | then-not-has_either w ↦
          let new : among n (natives ++ further) ≡ false = sym c.has_either.ensures ∙ w.if-not-has_either.true in
          rw (w.further-is, w.push.ensures.pushed) record {
            few = omega (arith, length-append further (n ∷ []), c.loop-i.invariant.few);
            rest = rw (← append_assoc natives further (n ∷ [])) (joins_new (natives ++ further) c.args.more.now _ c.loop-i.i n c.at-n.ensures.item new c.loop-i.invariant.rest);
          }
      | else-not-has_either w ↦
          let old : among n (natives ++ further) ≡ true = sym c.has_either.ensures ∙ w.if-not-has_either.false in
          rw w.further-is record {
            few = omega (arith, c.loop-i.invariant.few);
            rest = joins_old (natives ++ further) c.args.more.now _ c.loop-i.i n c.at-n.ensures.item old c.loop-i.invariant.rest;
          }
    ]
