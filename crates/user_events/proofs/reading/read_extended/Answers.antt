use Rattle.user_events.proofs.Words.{◌≡◌, ◌∙◌, Err, rules, taking, extended_fault}
use Rattle.user_events.proofs.Taking.{extended-is, extended-kept}
use Rattle.user_events.proofs.reading.read_extended.Goals as goal

pub returns-in_err-taken : goal.returns-in_err-taken
unfolding extended_fault
returns-in_err-taken c =
    let same : c.from_residual.result ≡ Err c.in_err-taken.field-0.0 = search rules in
    rw same c.in_err-taken.ensures

pub new-presets-requires : goal.new-presets-requires
new-presets-requires c = rw c.in_ok-from_str.ensures.ok (extended-kept c.args.cpu.now c.args.bytes.now (taking c.in_ok-taken.taken) c.in_ok-taken.ensures.1).table

pub new-requires : goal.new-requires
new-requires c = rw (c.new-presets.ensures, c.in_ok-from_str.ensures.ok) (extended-kept c.args.cpu.now c.args.bytes.now (taking c.in_ok-taken.taken) c.in_ok-taken.ensures.1)

pub returns : goal.returns
unfolding extended_fault
returns c = (
  c.in_ok-taken.ensures.0,
  c.new.ensures ∙ rw (c.new-presets.ensures, c.in_ok-from_str.ensures.ok) (extended-is c.args.cpu.now c.args.bytes.now (taking c.in_ok-taken.taken) c.in_ok-taken.ensures.1),
)
