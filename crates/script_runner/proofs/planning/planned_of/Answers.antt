use Rattle.script_runner.proofs.Words.{◌∙◌, ap, sym, planned_by, setting_of}
use Rattle.call_type.specs.declared.call.Asked.TheVariants as asked
use Rattle.script_runner.proofs.planning.planned_of.Goals as goal

pub returns-in-NameOf-clause-planned : goal.returns-in-NameOf-clause-planned
returns-in-NameOf-clause-planned c = ap asked.NameOf c.event_of_code.ensures ∙ ap (planned_by (setting_of c.args.catalog.now) c.args.codes.now) (sym c.in-NameOf.is)
