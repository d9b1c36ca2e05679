use Rattle.std.proofs.Common.{◌∙◌, arith, sym}
use Rattle.papi_tools.proofs.ProfilLemmas.{count_all, count_none, count_one, there_is}
use Rattle.papi_tools.proofs.profiling.add_notes.Goals as goal
use Rattle.papi_tools.proofs.profiling.add_notes.Goals.{in-Some, in_default}

pub loop-i-init : goal.loop-i-init
loop-i-init g c = count_none _ _ _ _ _ c.requires.empty

pub loop-i-preserved : goal.loop-i-preserved
loop-i-preserved g c =
    let handler = c.args.handler.now in
    let told = (goal.Handler-dyn g (handler.vtable, handler.value)).notes handler.value in
    elim c.match-note_of.branch [
      | in-Some w ↦
          rw w.hist-is
          (count_one _ _ _ c.args.set c.args.index c.args.from c.loop-i.i told w.in-Some.note (omega arith) (sym c.note_of.ensures ∙ w.in-Some.is) w.add_note.ensures.map w.add_note.ensures.total w.add_note.ensures.counts
          c.loop-i.invariant)
      | in_default w ↦ absurd (there_is told c.loop-i.i (omega (arith, c.loop-i-test.true, c.count_of-after.ensures)) (sym w.in_default.is ∙ c.note_of.ensures))
    ]

pub returns-clause-counts : goal.returns-clause-counts
returns-clause-counts g c =
    let handler = c.args.handler.now in
    let told = (goal.Handler-dyn g (handler.vtable, handler.value)).notes handler.value in
    count_all _ _ c.args.set c.args.index c.args.from c.loop-i.i told (omega (arith, c.loop-i-test.false, c.count_of-after.ensures)) c.loop-i.invariant
