use Rattle.postfix_rules.proofs.Words.{◌≡◌, ◌∙◌, length, sym, ap, arith, Ok, part_of}
use Rattle.postfix_rules.proofs.SoFar.{so_far-ended, so_far-formula, so_far-more, so_far-refused, so_far-unended}
use Rattle.postfix_rules.proofs.reading.formula_in.Goals as goal

pub returns-in-Err-clause-read : goal.returns-in-Err-clause-read
returns-in-Err-clause-read c =
    let s = c.loop-piece in
    let n : c.len.result ≡ length s.tokens.items = omega (arith, c.len.ensures) in
    rw (c.fault_after.ensures, n)
    (so_far-refused c.args.natives c.args.text.now s.rest.now c.in-Some.after.now s.tokens.items s.height
    (part_of c.in-Some.piece.now) c.in-Err.cause c.in-Some.ensures.parts c.in-Err.ensures s.invariant)

pub loop-piece-preserved : goal.loop-piece-preserved
loop-piece-preserved c =
    let s = c.loop-piece in
    rw (c.in_ok-push-in-Ok.ensures.items, c.height_after-height.ensures)
    (so_far-more c.args.natives c.args.text.now s.rest.now c.in-Some.after.now s.tokens.items s.height (part_of c.in-Some.piece.now) c.in-Ok.token
    c.in-Some.ensures.parts c.in-Ok.ensures.0 c.in-Ok.ensures.1 s.invariant)

pub new-requires : goal.new-requires
new-requires c =
    let s = c.loop-piece in
    so_far-formula c.args.natives c.args.text.now s.rest.now s.tokens.items s.height c.in_default.ensures.parts (sym c.in-None.ensures) s.invariant

pub returns-in-Some-end_cause-clause-read : goal.returns-in-Some-end_cause-clause-read
returns-in-Some-end_cause-clause-read c =
    let s = c.loop-piece in
    let n : c.len-in-Some-end_cause.result ≡ length s.tokens.items = omega (arith, c.len-in-Some-end_cause.ensures) in
    rw (c.fault_after-in-Some-end_cause.ensures, n)
    (so_far-unended c.args.natives c.args.text.now s.rest.now s.tokens.items s.height c.in-Some-end_cause.cause c.in_default.ensures.parts (sym c.in-Some-end_cause.ensures) s.invariant)

pub returns-in-None-clause-read : goal.returns-in-None-clause-read
returns-in-None-clause-read c =
    let s = c.loop-piece in
    so_far-ended c.args.natives c.args.text.now s.rest.now s.tokens.items s.height c.in_default.ensures.parts (sym c.in-None.ensures) s.invariant ∙ ap Ok (sym c.new.ensures)
