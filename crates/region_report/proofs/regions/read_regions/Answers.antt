use Rattle.region_report.proofs.Words.{◌≡◌, ◌∙◌, ◌<◌, ◌≤◌, ◌+◌, ◌^◌, ◌∷◌, ◌++◌, ℕ, Bool, true, false, [], Result, List, Ok, Err, arith, length}
use Rattle.region_report.proofs.Words.{length-append, refl, sym, ap, append-nil, if◌then◌else◌, All-nil, All-push, THREADS, Refused, put_before}
use Rattle.region_report.proofs.Words.{reads-end, reads-fault, reads-line, reads-skipped, reads-start, count_of, after_line, after_reading}
use Rattle.region_report.proofs.Words.{is_reading, above_line, none_open, region_scripts, regions_of, RegionCause, NotEnded, RegionLine}
use Rattle.region_report.proofs.regions.read_regions.Goals as goal

pub loop-rest-init : goal.loop-rest-init
loop-rest-init c = rw (c.new-lines.ensures.items, c.in_ok-opens.ensures) (record {
  reads = reads-start region_scripts (above_line 0 0 none_open) c.args.bytes.now;
  few_readings = omega arith;
  kept = record { few = omega arith; threads = All-nil (λ l. l.thread < THREADS); counts = All-nil (λ l. count_of l.call < 2 ^ 32) };
})

few_after : (b : Bool) (readings n : ℕ) → readings ≤ n → (if b then readings + 1 else readings) ≤ n + 1
few_after true readings n h = omega arith
few_after false readings n h = omega arith

pub loop-rest-preserved-in-Continue-branch-3 : goal.loop-rest-preserved-in-Continue-branch-3
loop-rest-preserved-in-Continue-branch-3 c =
    let lines = c.loop-rest.lines.items in
    let new = c.in-Ok.line in
    let kept = c.loop-rest.invariant.kept in
    let above : c.len.result ≡ length lines = omega (arith, c.len.ensures) in
    let one : length (lines ++ new ∷ []) ≡ length lines + 1 = length-append lines (new ∷ []) in
    let read = rw above at c.in-Ok.ensures.line in
    let after : above_line (length (lines ++ new ∷ [])) (after_reading c.loop-rest.readings new) (after_line c.loop-rest.opens new)
    ≡ above_line (length lines + 1) (after_reading c.loop-rest.readings new) (after_line c.loop-rest.opens new) = rw one refl in
    rw (c.in_ok-push-in-Ok.ensures.items, c.after_reading-readings.ensures, c.in_ok-take-in-Ok.ensures) (record {
      reads = reads-line c.cut_line.ensures.line c.cut_line.ensures.shorter (sym c.is_skipped.ensures ∙ c.if-not-is_skipped.true) read after c.loop-rest.invariant.reads;
      few_readings = omega (arith, one, few_after (is_reading new) c.loop-rest.readings (length lines) c.loop-rest.invariant.few_readings);
      kept = record {
        few = omega (arith, one, c.len.ensures, c.in-Ok.ensures.few.0);
        threads = All-push (λ l. l.thread < THREADS) lines new kept.threads c.in-Ok.ensures.few.1;
        counts = All-push (λ l. count_of l.call < 2 ^ 32) lines new kept.counts c.in-Ok.ensures.count;
      };
    })

pub loop-rest-preserved : goal.loop-rest-preserved
loop-rest-preserved c = record {
  reads = reads-skipped c.cut_line.ensures.line c.cut_line.ensures.shorter (sym c.is_skipped.ensures ∙ c.if-not-is_skipped.false) c.loop-rest.invariant.reads;
  few_readings = c.loop-rest.invariant.few_readings;
  kept = c.loop-rest.invariant.kept;
}

pub returns-in-Err : goal.returns-in-Err
unfolding regions_of
returns-in-Err c =
    let above : c.len.result ≡ length c.loop-rest.lines.items = omega (arith, c.len.ensures) in
    rw c.fault_at.ensures (reads-fault c.cut_line.result.1.now c.in-Err.refusal c.cut_line.ensures.line (sym c.is_skipped.ensures ∙ c.if-not-is_skipped.true) (rw above at c.in-Err.ensures.line) c.loop-rest.invariant.reads)

abbrev at_end : ℕ → List RegionLine → Bool → Result (List RegionLine) (Refused RegionCause)
at_end number lines none = put_before lines (if none then Ok [] else Err (record { line = number; cause = NotEnded }))

pub returns-then-not-all_ended : goal.returns-then-not-all_ended
unfolding regions_of
returns-then-not-all_ended c =
    reads-end c.loop-rest.rest.now c.loop-rest-test.false c.loop-rest.invariant.reads ∙ ap (at_end (c.loop-rest.number + 1) c.loop-rest.lines.items) (sym c.all_ended.ensures ∙ c.if-not-all_ended.true)

pub returns : goal.returns
unfolding regions_of
returns c =
    reads-end c.loop-rest.rest.now c.loop-rest-test.false c.loop-rest.invariant.reads ∙ ap (at_end (c.loop-rest.number + 1) c.loop-rest.lines.items) (sym c.all_ended.ensures ∙ c.if-not-all_ended.false)
    ∙ ap Ok (append-nil c.loop-rest.lines.items)
