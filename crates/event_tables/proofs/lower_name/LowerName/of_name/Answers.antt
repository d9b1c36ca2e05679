use Rattle.event_tables.proofs.Words.{◌≡◌, ◌+◌, ◌<◌, ◌≤◌, length, get_or, ap, rules, arith, to_ascii_lowercase, encode_utf8}
use Rattle.event_tables.proofs.Lowers.{lower-fits, lower-more, lower-small}
use Rattle.event_tables.proofs.lower_name.LowerName.of_name.Goals as goal

pub push-requires : goal.push-requires
push-requires c =
    let lt : c.loop-b.b-index < length c.args.name.now = omega (arith, ap length c.as_bytes-b-items.ensures.value) in
    let b : c.to_ascii_lowercase.result ≡ to_ascii_lowercase (get_or c.args.name.now c.loop-b.b-index 0) = search rules in
    let small = lower-small c.args.name.now c.loop-b.b-index c.to_ascii_lowercase.result c.requires lt b in
    let fits : length c.loop-b.text.bytes + length (encode_utf8 c.to_ascii_lowercase.result) ≤ 64 =
    lower-fits c.args.name.now c.loop-b.text.bytes c.loop-b.b-index c.to_ascii_lowercase.result c.requires lt small c.loop-b.invariant in
    (omega arith, fits)

pub loop-b-preserved : goal.loop-b-preserved
loop-b-preserved c =
    let lt : c.loop-b.b-index < length c.args.name.now = omega (arith, ap length c.as_bytes-b-items.ensures.value) in
    let b : c.to_ascii_lowercase.result ≡ to_ascii_lowercase (get_or c.args.name.now c.loop-b.b-index 0) = search rules in
    let small = lower-small c.args.name.now c.loop-b.b-index c.to_ascii_lowercase.result c.requires lt b in
    lower-more c.args.name.now c.loop-b.text.bytes c.push.new.self.bytes c.loop-b.b-index c.to_ascii_lowercase.result lt b c.loop-b.invariant (c.push.ensures.ascii small)
