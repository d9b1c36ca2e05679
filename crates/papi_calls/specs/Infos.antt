-- What is told of an event: PAPI_get_event_info(3), papi_avail(1).
use Rattle.std.specs.Prelude.{ℕ, List, [], Option, None, slice_get}
use Rattle.std.specs.Option.{option_map_or}
use Rattle.component_table.specs.Books.{kind_of}
use Rattle.component_table.specs.Catalogs.{CatalogView}
use Rattle.component_table.specs.EventNames.{event_name}
use Rattle.event_tables.specs.Tables.{ComponentText, event_at}
use Rattle.name_encoder.specs.Canonical.{canonical}
use Rattle.papi_base.specs.declared.native.EventRef.{EventRef}
use Rattle.papi_base.specs.declared.native.EventRef.TheVariants as event
use Rattle.papi_base.specs.declared.native.Native.{Native}
use Rattle.papi_calls.specs.declared.infos.InfoPart.{InfoPart}
use Rattle.papi_calls.specs.declared.infos.InfoPart.TheVariants as part
use Rattle.postfix_rules.specs.Presets.{Book, entry}
use Rattle.postfix_rules.specs.Rules.{DerivedView}
use Rattle.postfix_rules.specs.Tokens.{formula_text}
use Rattle.postfix_rules.specs.declared.rule.Rule.{Rule}
use Rattle.postfix_rules.specs.declared.rule.Rule.TheVariants as rule
use Rattle.preset_csv.specs.Kinds.{kind_text}
use Rattle.preset_csv.specs.Symbols.{description_at}
use Rattle.table_rows.specs.Texts.{Text}

-- the formula of a rule that has one
abbrev pub rule_formula : Rule → Text
rule_formula (rule.Postfix formula) = formula_text formula.tokens
rule_formula rule.Plain = []
rule_formula rule.Sum = []
rule_formula rule.Sub = []

-- a native event by its canonical name, if there is one
abbrev pub native_name : List ComponentText → Option Native → Text
native_name tables native = option_map_or (canonical tables) native []

-- the preset table describes its rows; a user event has no description
abbrev pub row_description : ℕ → Text
row_description row = description_at row

-- what the table of native events says of an event, in the words that papi_native_avail(1) shows
abbrev pub native_description : List ComponentText → Native → Text
native_description tables n = option_map_or (λ e. e.text) (event_at tables n.comp n.event) []

-- the description of an event, as papi_avail(1) and papi_native_avail(1) show it
abbrev pub description : CatalogView → EventRef → Text
description catalog (event.Preset row) = row_description row
description catalog (event.Native n) = native_description catalog.tables n

-- what an available preset or user event derives
abbrev pub derived_in : Book → EventRef → Option DerivedView
derived_in book (event.Preset row) = entry book row
derived_in book (event.Native n) = None

-- the derived type, the formula, and the native events by their places
abbrev pub derived_part : List ComponentText → InfoPart → DerivedView → Text
derived_part tables part.DerivedType d = kind_text (kind_of d.rule)
derived_part tables part.Formula d = rule_formula d.rule
derived_part tables (part.Native place) d = native_name tables (slice_get d.natives place)
derived_part tables part.Name d = []
derived_part tables part.Description d = []

-- a part of what is told of an event, which is empty if there is none
abbrev pub info_of : CatalogView → InfoPart → EventRef → Text
info_of catalog part.Name e = event_name catalog e
info_of catalog part.Description e = description catalog e
info_of catalog p e = option_map_or (derived_part catalog.tables p) (derived_in catalog.book e) []
