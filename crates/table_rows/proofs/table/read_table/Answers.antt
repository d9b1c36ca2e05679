use Rattle.table_rows.proofs.Words.{◌≡◌, ◌∷◌, [], map, ap, arith, length, fields_of, rows_of}
use Rattle.table_rows.proofs.PlainFields.{rows-plain}
use Rattle.table_rows.proofs.TablesRead.{after-row, all-taken, none-taken}
use Rattle.table_rows.proofs.table.read_table.Goals as goal

pub loop-row-init : goal.loop-row-init
loop-row-init g c =
    let t = g.T.TableKind in
    let rows = rows_of c.args.bytes.now in
    record {
      few = let n = ap length c.new-reader.ensures.all in omega (arith, n, c.new-reader.ensures.few);
      plain = rw c.new-reader.ensures.all (rows-plain c.args.bytes.now);
      taken = rw c.new-reader.ensures.all (none-taken (t.cause c.args.table.now) (t.gives c.args.table.now) (map t.line_of rows) c.in_ok-read.read c.in_ok-read.ensures);
    }

pub loop-row-preserved : goal.loop-row-preserved
loop-row-preserved g c =
    let inv = c.loop-row.invariant in
    let read : c.loop-row.reader ≡ fields_of c.read_row.new.row ∷ c.read_row.new.self = rw c.if-branch.true at c.in_ok-read_row.ensures.next in
    record {
      few = let n = ap length read in omega (arith, n, inv.few);
      plain = (rw read at inv.plain).1;
      taken = rw c.in-Ok.is at (after-row g.T.TableKind.line_of _ _ _ _ _ _ _ _ c.take_row.new.read c.take_row.result read inv.taken c.take_row.ensures);
    }

pub take_row-requires : goal.take_row-requires
take_row-requires g c =
    let inv = c.loop-row.invariant in
    let read : c.loop-row.reader ≡ fields_of c.read_row.new.row ∷ c.read_row.new.self = rw c.if-branch.true at c.in_ok-read_row.ensures.next in
    record { plain = (rw read at inv.plain).0; given = (inv.taken.above, inv.taken.given) }

pub returns-in-Err : goal.returns-in-Err
returns-in-Err g c =
    let read : c.loop-row.reader ≡ fields_of c.read_row.new.row ∷ c.read_row.new.self = rw c.if-branch.true at c.in_ok-read_row.ensures.next in
    rw c.at.ensures (rw c.in-Err.is at (after-row g.T.TableKind.line_of _ _ _ _ _ _ _ _ c.take_row.new.read c.take_row.result read c.loop-row.invariant.taken c.take_row.ensures))

pub returns : goal.returns
returns g c =
    let t = g.T.TableKind in
    let lines = map t.line_of (rows_of c.args.bytes.now) in
    let none : (c.loop-row.reader ≡ []) × (c.read_row.new.self ≡ []) = rw c.if-branch.false at c.in_ok-read_row.ensures.next in
    all-taken (t.cause c.args.table.now) (t.gives c.args.table.now) lines c.loop-row.place c.loop-row.read (rw none.0 at c.loop-row.invariant.taken)
