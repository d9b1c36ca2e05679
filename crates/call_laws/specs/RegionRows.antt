-- Worked region scripts: an outer region and two instances of an inner one, over two native events; and the same over an event that is
-- derived of them, with a second thread.
use Rattle.std.specs.Prelude.{ℕ, ◌≡◌, false, codes, List, [], ◌∷◌, ◌++◌, Some}
use Rattle.papi_base.specs.Streams.{Coming, Dry}
use Rattle.papi_base.specs.declared.native.EventRef.{EventRef}
use Rattle.papi_base.specs.declared.native.EventRef.TheVariants as event
use Rattle.papi_base.specs.declared.native.Mods.{Mods}
use Rattle.papi_base.specs.declared.native.Native.{Native}
use Rattle.papi_base.specs.declared.occurrence.Occ.{Occ}
use Rattle.postfix_rules.specs.Presets.{Book}
use Rattle.postfix_rules.specs.declared.rule.Rule.TheVariants as rule
use Rattle.region_report.specs.Reports.{report_text}
use Rattle.region_report.specs.declared.regions.RegionCall.{RegionCall}
use Rattle.region_report.specs.declared.regions.RegionCall.TheVariants.{Begin, Read, End, Run}
use Rattle.region_report.specs.declared.regions.RegionLine.{RegionLine}
use Rattle.call_laws.specs.Spans.{region_spans}

abbrev no_mods : Mods
no_mods = record { user = false; kernel = false; edge = false; invert = false; cmask = 0 }

-- instructions, on any of three counters
abbrev pub inst : Native
inst = record { comp = 0; event = 0; select = 0xc0; masks = 0; umask = 0; mods = no_mods; allowed = 7 }

-- cycles, on the first two counters
abbrev pub cycles : Native
cycles = record { comp = 0; event = 1; select = 0x3c; masks = 0; umask = 0; mods = no_mods; allowed = 3 }

-- the events of the report: instructions, then cycles
abbrev pub events : List EventRef
events = event.Native inst ∷ event.Native cycles ∷ []

-- an occurrence of mode user
abbrev occ : ℕ → ℕ → ℕ → Occ
occ select amount stamp = record { comp = 0; select = select; umask = 0; kernel = false; amount = amount; pc = 1; stamp = stamp }

-- one thread, whose stream has instructions and cycles by turns
abbrev pub streams : List Coming
streams = record { rest = occ 0xc0 3 0 ∷ occ 0x3c 10 1 ∷ occ 0xc0 4 2 ∷ occ 0x3c 1 3 ∷ []; mark = Dry } ∷ []

-- a line of a thread, with the number of the reading at which its region begins
abbrev line_of : ℕ → ℕ → RegionCall → ℕ → RegionLine
line_of thread number call begun = record { line = number; thread = thread; call = call; begun = begun }

abbrev line : ℕ → RegionCall → ℕ → RegionLine
line number call begun = line_of 0 number call begun

abbrev outer : List ℕ
outer = codes "outer"

abbrev inner : List ℕ
inner = codes "inner"

-- an outer region, and in it two instances of an inner one, of which the first is read once
abbrev pub lines : List RegionLine
lines =
    line 1 (Begin outer) 0 ∷ line 2 (Run 1) 1 ∷ line 3 (Begin inner) 1 ∷ line 4 (Run 1) 2 ∷ line 5 (Read inner) 1 ∷ line 6 (Run 1) 3
    ∷ line 7 (End inner) 1 ∷ line 8 (Begin inner) 4 ∷ line 9 (Run 1) 5 ∷ line 10 (End inner) 4 ∷ line 11 (End outer) 0 ∷ []

-- what was counted in the inner region up to its `read`, and then in each region
abbrev pub WorkedRows : Type 0
WorkedRows = report_text 2 (region_spans [] streams events lines) ≡ codes "5 0 inner 0 10\n0 outer 1 7 11\n0 inner 2 4 11\n"

-- ---- a derived event, and a second thread

-- instructions less cycles
abbrev pub spare : Book
spare = Some (record { natives = inst ∷ cycles ∷ []; rule = rule.Sub }) ∷ []

-- a second thread, whose stream has one occurrence
abbrev pub two_streams : List Coming
two_streams = streams ++ record { rest = occ 0x3c 2 0 ∷ []; mark = Dry } ∷ []

-- the second thread asks for more than there is
abbrev pub two_threads : List RegionLine
two_threads = lines ++ line_of 1 12 (Begin (codes "a")) 7 ∷ line_of 1 13 (Run 5) 8 ∷ line_of 1 14 (End (codes "a")) 7 ∷ []

-- a derived event falls below 0 if more cycles than instructions are counted; a second thread has lines of its own
abbrev pub DerivedRows : Type 0
DerivedRows = report_text 1 (region_spans spare two_streams (event.Preset 0 ∷ []) two_threads) ≡ codes "5 0 inner -10\n0 outer 1 -4\n0 inner 2 -7\n1 a 1 -2\n"
