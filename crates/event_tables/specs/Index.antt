-- A component's index of its events, by their names in lower case.
use Rattle.std.specs.Prelude.{◌≡◌, List, map}
use Rattle.std.specs.HashMap.{get_by_text}
use Rattle.std.specs.List.{AllByRecursion}
use Rattle.table_rows.specs.Texts.{Text}
use Rattle.event_tables.specs.Kept.{IsTables}
use Rattle.event_tables.specs.Lines.{Line}
use Rattle.event_tables.specs.Tables.{row_of_lower}
use Rattle.event_tables.specs.Unit.{components_in}
use Rattle.event_tables.specs.Views.{component_text, event_text}
use Rattle.event_tables.specs.declared.component.Component.{Component}

-- looking up by the index finds the row that the definition finds
pub record IsIndexed (c : Component) : Type 0 where
  pub rows : (lower : Text) → get_by_text c.rows lower ≡ row_of_lower (map event_text c.events.items) lower

-- what the tables keep of their components
pub record AreKept (components : List Component) : Type 0 where
  pub tables : IsTables (map component_text components)
  pub indexed : AllByRecursion IsIndexed components

-- the components of these rows, with what the tables keep
abbrev pub GiveComponents : List Line → List Component → Type 0
GiveComponents lines components = (map component_text components ≡ components_in lines) × AreKept components
