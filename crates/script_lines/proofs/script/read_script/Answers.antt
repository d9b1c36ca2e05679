use Rattle.std.proofs.Common.{◌≡◌, ◌∙◌, ◌<◌, ◌+◌, ◌-◌, ◌∷◌, ◌++◌, ℕ, List, [], arith, drop, length, length-append, length-drop, sym, take, ap, append-nil}
use Rattle.std.specs.Prelude.{Ok}
use Rattle.std.proofs.lemmas.List.Elements.{All-nil, All-push}
use Rattle.papi_base.specs.declared.limits.TheConstants.{THREADS}
use Rattle.std.specs.Str.Lines.{lines}
use Rattle.table_rows.proofs.Splits.{rest-whole}
use Rattle.script_lines.specs.Scripts.{script_of, scripts}
use Rattle.script_lines.proofs.Reading.{reads-end, reads-fault, reads-line, reads-skipped, reads-start}
use Rattle.script_lines.proofs.script.read_script.Goals as goal

pub loop-rest-init : goal.loop-rest-init
loop-rest-init c = rw c.new-lines.ensures.items (record {
  reads = reads-start scripts 0 c.args.bytes.now;
  kept = record { few = omega arith; threads = All-nil (λ l. l.thread < THREADS) };
})

pub loop-rest-preserved-in-Some : goal.loop-rest-preserved-in-Some
loop-rest-preserved-in-Some c =
    let read_so_far = c.loop-rest.lines.items in
    let rest = c.loop-rest.rest.now in
    let short = c.in-Some.short in
    let above : c.len-above.result ≡ length read_so_far = omega (arith, c.len-above.ensures) in
    let after = rest-whole rest short.size in
    let one : length (read_so_far ++ short.line ∷ []) ≡ length read_so_far + 1 = length-append read_so_far (short.line ∷ []) in
    let said = rw above at c.in-Some.ensures in
    let cut : lines rest ≡ take (short.size - 1) rest ∷ lines (take (length rest - short.size) (drop short.size rest)) =
    said.first ∙ ap (λ (r : List ℕ). take (short.size - 1) rest ∷ lines r) (sym after) in
    let shorter : length (take (length rest - short.size) (drop short.size rest)) < length rest = omega (arith, ap length after, length-drop short.size rest, said.some, said.inside) in
    rw c.in_ok-push.ensures.items (record {
      reads = reads-line cut shorter said.heeded said.said one c.loop-rest.invariant.reads;
      kept = record {
        few = omega (arith, one, said.few);
        threads = All-push (λ l. l.thread < THREADS) read_so_far short.line c.loop-rest.invariant.kept.threads said.thread;
      };
    })

pub loop-rest-preserved-in-Continue-branch-2 : goal.loop-rest-preserved-in-Continue-branch-2
loop-rest-preserved-in-Continue-branch-2 c =
    let lines = c.loop-rest.lines.items in
    let above : c.len-above.result ≡ length lines = omega (arith, c.len-above.ensures) in
    let one : length (lines ++ c.in-Ok.line ∷ []) ≡ length lines + 1 = length-append lines (c.in-Ok.line ∷ []) in
    let read = rw above at c.in-Ok.ensures.call in
    rw c.in_ok-push-in-Ok.ensures.items (record {
      reads = reads-line c.cut_line.ensures.line c.cut_line.ensures.shorter (sym c.is_skipped.ensures ∙ c.if-not-is_skipped.true) read one c.loop-rest.invariant.reads;
      kept = record {
        few = omega (arith, one, above, c.in-Ok.ensures.few.0);
        threads = All-push (λ l. l.thread < THREADS) lines c.in-Ok.line c.loop-rest.invariant.kept.threads c.in-Ok.ensures.few.1;
      };
    })

pub loop-rest-preserved : goal.loop-rest-preserved
loop-rest-preserved c = record {
  reads = reads-skipped c.cut_line.ensures.line c.cut_line.ensures.shorter (sym c.is_skipped.ensures ∙ c.if-not-is_skipped.false) c.loop-rest.invariant.reads;
  kept = c.loop-rest.invariant.kept;
}

pub returns-in-Err : goal.returns-in-Err
unfolding script_of
returns-in-Err c =
    let above : c.len-above.result ≡ length c.loop-rest.lines.items = omega (arith, c.len-above.ensures) in
    rw c.fault_at.ensures (reads-fault c.cut_line.result.1.now c.in-Err.refusal c.cut_line.ensures.line (sym c.is_skipped.ensures ∙ c.if-not-is_skipped.true) (rw above at c.in-Err.ensures.call) c.loop-rest.invariant.reads)

pub returns : goal.returns
unfolding script_of
returns c = reads-end c.loop-rest.rest.now c.loop-rest-test.false c.loop-rest.invariant.reads ∙ ap Ok (append-nil c.loop-rest.lines.items)
