-- The parts of a text and a found event, as the code has them.
use Rattle.std.specs.Prelude.{List, [], ◌==◌, Option, Some, None, option_map}
use Rattle.std.specs.Borrow.{Bor}
use Rattle.std.specs.List.{slice_split}
use Rattle.table_rows.specs.Texts.{Text}
use Rattle.event_tables.specs.Views.{component_text, event_text}
use Rattle.name_encoder.specs.Split.{Split}
use Rattle.name_encoder.specs.Names as Names
use Rattle.name_encoder.specs.declared.parts.Parts.{Parts}
use Rattle.name_encoder.specs.declared.found.Found.{Found}

-- the parts between colons, of a text that may not be there
abbrev pub between_colons : Option Text → List Text
between_colons None = []
between_colons (Some t) = slice_split (λ b. b == 58) t

-- a text, if there is one
abbrev pub text_of : Option (Bor Text) → Option Text
text_of o = option_map (λ t. t.now) o

-- the parts of a text
abbrev pub parts_split : Parts → Split
parts_split p = record { comp = text_of p.comp; pmu = text_of p.pmu; event = p.event.now; attributes = between_colons (text_of p.attributes) }

-- a found event
abbrev pub found_text : Found → Names.Found
found_text f = record { comp = f.comp; row = f.row; component = component_text f.component.now; event = event_text f.event.now }
