-- a place joins if it is a member
use Rattle.event_sets.proofs.Words.{◌≡◌, ◌<◌, ◌∷◌, [], ◌==◌, true, false, arith, sym, ◌∙◌, length, length-append, bit_at, get_at}
use Rattle.event_sets.proofs.Clashing.{member_joins, member_not}
use Rattle.event_sets.proofs.clashes.members.Goals as goal
use Rattle.event_sets.proofs.clashes.members.Goals.{then-is_member, else-is_member}

pub loop-i-preserved : goal.loop-i-preserved
loop-i-preserved c =
    let inv = c.loop-i.invariant in
    let i = c.loop-i.i in
    let natives = c.args.natives.now in
    elim c.if-is_member.branch [
      | then-is_member w ↦
          let is : (bit_at c.args.places i == 1) ≡ true = sym c.is_member.ensures ∙ w.if-is_member.true in
          rw (w.members-is, w.push.ensures.pushed) record {
            few = omega (arith, length-append c.loop-i.members (w.at.result ∷ []));
            rest = member_joins c.args.places i w.at.result c.loop-i.members natives _ w.at.ensures.item is inv.rest;
          }
      | else-is_member w ↦
          let isnt : (bit_at c.args.places i == 1) ≡ false = sym c.is_member.ensures ∙ w.if-is_member.false in
          let below : i < length natives = omega (arith, c.len-i-end.ensures.length, c.loop-i-test.true) in
          let at = get_at natives i below in
          rw w.members-is record {
            few = omega arith;
            rest = member_not c.args.places i at.0 c.loop-i.members natives _ at.1 isnt inv.rest;
          }
    ]
