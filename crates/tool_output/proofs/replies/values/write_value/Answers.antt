use Rattle.tool_output.proofs.Words.{◌≡◌, ◌+◌, ◌-◌, arith, refl, to_z-of_z, IsAscii-signed, drop-set, IsAscii-append, IsAscii-cons, LONGEST_VALUE}
use Rattle.tool_output.proofs.replies.values.write_value.Goals as goal

pub returns-clause-ascii : goal.returns-clause-ascii
returns-clause-ascii c =
    let k : LONGEST_VALUE ≡ 21 = refl in
    let w = c.write_signed-start in
    let e : w.result - 1 + 1 ≡ w.result = omega (arith, k, c.requires.room, w.ensures.near) in
    λ h.
    rw (drop-set w.new.bytes (w.result - 1) 32 (omega (arith, k, c.requires.room, c.requires.inside, w.ensures.near, w.ensures.before, w.ensures.length)), e, w.ensures.written, to_z-of_z c.ranges.value)
    (IsAscii-cons 32 _ (omega arith) (IsAscii-append _ _ (IsAscii-signed c.args.value c.ranges.value.sfits) h))
