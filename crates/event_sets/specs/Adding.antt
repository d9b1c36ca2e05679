-- When an event is not added to a set that does not run: the codes are those of PAPI_add_event(3), and when each comes,
-- and in which order, is a choice of this project.
use Rattle.std.specs.Prelude.{if◌then◌else◌, Option, Some}
use Rattle.std.specs.Option.{option_map}
use Rattle.papi_base.specs.declared.native.EventRef.{EventRef}
use Rattle.papi_base.specs.declared.code.Code.TheVariants.{Einval, Ecount}
use Rattle.postfix_rules.specs.Presets.{Book}
use Rattle.event_sets.specs.declared.refusal.Refusal.{Refusal}
use Rattle.event_sets.specs.declared.refusal.Refusal.TheVariants.{Plain, Conflict}
use Rattle.event_sets.specs.AtRest.{AtRest, cannot_take, clash_with, is_full}

-- the first refusal that comes, if one does
abbrev pub add_refusal : Book → EventRef → AtRest → Option Refusal
add_refusal book e s =
    if cannot_take book e s then Some (Plain Einval)
    else if is_full book e s then Some (Plain Ecount)
    else option_map Conflict (clash_with book e s)
