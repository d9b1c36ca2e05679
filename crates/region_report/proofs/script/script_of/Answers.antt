use Rattle.region_report.proofs.Words.{◌∙◌, ap, script_of, script_text}
use Rattle.region_report.proofs.ScriptRead.{is_read}
use Rattle.region_report.proofs.script.script_of.Goals as goal

pub returns-clause-read : goal.returns-clause-read
returns-clause-read c =
    λ events. ap script_of (c.in_ok-text.ensures ∙ ap (λ lines. script_text lines c.args.events.now) c.lines-lines.ensures.lines)
    ∙ is_read c.args.regions.now c.args.events.now c.lines-lines.ensures.kept events
