use Rattle.preset_csv.proofs.Words.{◌≡◌, ◌∙◌, Err, List, ap₂, rules, Text, judged, uncomputed, line_of, lines_of, preset_fault, presets_in, Entry}
use Rattle.preset_csv.proofs.Judged.{judged-kept}
use Rattle.preset_csv.proofs.TableKept.{line-kept, lines-plain, presets-kept}
use Rattle.preset_csv.proofs.reading.read_presets.Goals as goal

pub returns-in_err-taken : goal.returns-in_err-taken
unfolding preset_fault
returns-in_err-taken c =
    let same : c.from_residual.result ≡ Err c.in_err-taken.field-0.0 = search rules in
    rw same c.in_err-taken.ensures

pub new-requires : goal.new-requires
new-requires c = rw (c.in_ok-from_str.ensures.ok, c.in_ok-taken.ensures.1.entries_are) (presets-kept judged (judged-kept uncomputed (λ f n r. tt)) c.args.cpu.now (lines_of c.args.bytes.now) (lines-plain line_of line-kept c.args.bytes.now))

pub returns : goal.returns
unfolding preset_fault presets_in
returns c = (
  c.in_ok-taken.ensures.0,
  c.new.ensures ∙ ap₂ (λ (n : Text) (es : List Entry). record { cpu = n; rows = es }) c.in_ok-from_str.ensures.ok c.in_ok-taken.ensures.1.entries_are,
)
