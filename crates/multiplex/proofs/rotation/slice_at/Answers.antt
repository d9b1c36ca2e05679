-- a tick's slice begins at a multiple of its length, and the group of its number runs in it
use Rattle.multiplex.proofs.Words.{◌%◌, ◌/◌, IsSpanOf}
use Rattle.multiplex.proofs.Slices.{slice_is}
use Rattle.multiplex.proofs.rotation.slice_at.Goals as goal
use Rattle.multiplex.proofs.rotation.slice_at.Goals.{After-places_of}

runs : (c : After-places_of) → IsSpanOf c.args.numbers.now (c.args.time / c.args.slice % c.args.groups) c.places_of.result.first c.places_of.result.end
runs c = rw (c.from-ticks.ensures, c.from.ensures) at c.places_of.ensures

pub returns-clause-slice : goal.returns-clause-slice
returns-clause-slice c = rw c.from-ticks.ensures (slice_is c.args.numbers.now c.args.slice c.args.groups c.args.time c.places_of.result.first c.places_of.result.end c.requires.some_slice (runs c))
