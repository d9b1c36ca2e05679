use Rattle.std.proofs.lemmas.List.{take-replicate}
use Rattle.papi_base.proofs.short_list.ShortList.repeated.Goals as goal

pub returns : goal.returns
returns g c = record { repeated = take-replicate c.args.n 32 c.args.x c.requires.room }
