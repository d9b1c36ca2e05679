use Rattle.event_sets.proofs.Words.{◌≡◌, ◌+◌, ◌==◌, true, false, drop, sym, ap, ◌∙◌, arith, Some, find, if◌then◌else◌, nat_tests, Native, find_at}
use Rattle.event_sets.proofs.clashes.without_counter.Goals as goal

pub returns-then-n-eq0 : goal.returns-then-n-eq0
returns-then-n-eq0 c =
    let p = λ (n : Native). n.allowed == 0 in
    let at = find_at p c.args.natives.now c.loop-i.i c.at-n.result c.at-n.ensures.item in
    let is : p c.at-n.result ≡ true = grind (arith, nat_tests, c.if-n-eq0.true) in
    sym (sym c.loop-i.invariant ∙ at ∙ ap (λ b. if b then Some c.at-n.result else find p (drop (c.loop-i.i + 1) c.args.natives.now)) is)

pub loop-i-preserved : goal.loop-i-preserved
loop-i-preserved c =
    let p = λ (n : Native). n.allowed == 0 in
    let at = find_at p c.args.natives.now c.loop-i.i c.at-n.result c.at-n.ensures.item in
    let isnt : p c.at-n.result ≡ false = grind (arith, nat_tests, c.if-n-eq0.false) in
    sym (ap (λ b. if b then Some c.at-n.result else find p (drop (c.loop-i.i + 1) c.args.natives.now)) isnt) ∙ sym at ∙ c.loop-i.invariant
