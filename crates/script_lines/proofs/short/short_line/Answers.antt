use Rattle.std.proofs.Common.{◌-◌, ◌<◌, ◌^◌, arith, drop, length, take}
use Rattle.table_rows.proofs.Splits.{rest-whole}
use Rattle.script_lines.proofs.ShortLines.{line-of}
use Rattle.script_lines.proofs.short.short_line.Goals as goal

pub returns : goal.returns
returns c =
    let s = c.args.bytes.now in
    let a = c.in_ok-thread.thread.size in
    let b = c.in_ok-word.word.size in
    let called = take (length s - a) (drop a s) in
    let argument = take (length called - b) (drop b called) in
    let value = c.in_ok-value.value in
    let fits : value.value < 2 ^ 32 = omega arith in
    rw c.call_of.ensures
    (line-of c.args.number c.args.above s called argument a b value.size c.in_ok-thread.thread.value value.value c.in_ok-word.word.name (rest-whole s a) (rest-whole called b) (omega arith)
    c.in_ok-thread.ensures (omega arith) c.in_ok-word.ensures c.in_ok-value.ensures fits (omega arith))
