-- What a program's words ask for: the first names the tool.
use Rattle.std.specs.Prelude.{List, [], ◌∷◌, Option, codes, find, option_and_then, option_map}
use Rattle.std.specs.Str.{bytes_eq}
use Rattle.clap.specs.Words.{Text}
use Rattle.tool_words.specs.declared.command.Command.{Command}
-- tools/make_tools: begin uses
use Rattle.tool_words.specs.declared.command.Command.TheVariants.{Run, Profil, Regions, Avail, NativeAvail, EventChooser, Decode, Encode, Soak}
use Rattle.tool_words.specs.RunForm.{run_form}
use Rattle.tool_words.specs.ProfilForm.{profil_form}
use Rattle.tool_words.specs.RegionsForm.{regions_form}
use Rattle.tool_words.specs.AvailForm.{avail_form}
use Rattle.tool_words.specs.NativeAvailForm.{native_avail_form}
use Rattle.tool_words.specs.ChooserForm.{chooser_form}
use Rattle.tool_words.specs.DecodeForm.{decode_form}
use Rattle.tool_words.specs.EncodeForm.{encode_form}
use Rattle.tool_words.specs.SoakForm.{soak_form}
-- tools/make_tools: end uses
use Rattle.tool_words.specs.Words.{ToolForm, read_by}

-- a tool: its name, and the command that words ask for which begin with it
pub record Tool : Type 0 where
  pub name : Text
  pub asks : List Text → Option Command

-- by the form of its words
abbrev pub tool : {A : Type 0} → Text → (A → Command) → ToolForm A → Tool
tool name command form = record { name = name; asks = λ words. option_map command (read_by form words) }

-- tools/make_tools: begin rows
-- the tools, a row each
abbrev pub tools : List Tool
tools =
    tool (codes "papi_run") Run run_form
    ∷ tool (codes "papi_profil") Profil profil_form
    ∷ tool (codes "papi_regions") Regions regions_form
    ∷ tool (codes "papi_avail") Avail avail_form
    ∷ tool (codes "papi_native_avail") NativeAvail native_avail_form
    ∷ tool (codes "papi_event_chooser") EventChooser chooser_form
    ∷ tool (codes "papi_decode") Decode decode_form
    ∷ tool (codes "papi_encode") Encode encode_form
    ∷ tool (codes "papi_soak") Soak soak_form
    ∷ []

-- tools/make_tools: end rows

-- the tool that the words name
abbrev pub tool_of : List Text → Text
tool_of [] = []
tool_of (tool ∷ words) = tool

-- the command that the words ask for, if they are of a tool's form
abbrev pub form : List Text → Option Command
form words = option_and_then (λ t. t.asks words) (find (λ t. bytes_eq (tool_of words) t.name) tools)
