use Rattle.region_report.proofs.Words.{◌∙◌, ◌++◌, List, ap, append-nil, map, string_bytes, sym, ℕ, span_text}
use Rattle.region_report.proofs.Flags.{no_regions}
use Rattle.region_report.proofs.reports.push_regions.Goals as goal

pub returns-else-counts : goal.returns-else-counts
returns-else-counts c =
    let none = no_regions c.args.events (map span_text c.args.spans.now) c.args.thread (sym c.requires.counts ∙ c.if-counts.false) in
    sym (append-nil (string_bytes c.args.text.now)) ∙ ap (λ (t : List ℕ). string_bytes c.args.text.now ++ t) (sym none)
