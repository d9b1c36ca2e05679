-- What the rows of a preset file gave so far.
use Rattle.std.specs.Prelude.{◌≡◌, List}
use Rattle.table_rows.specs.Texts.{Text}
use Rattle.preset_csv.specs.Lines.{Line}
use Rattle.preset_csv.specs.Presets.{Judging, presets}
use Rattle.preset_csv.specs.Steps.{group_at}
use Rattle.preset_csv.specs.declared.entry.Entry.{Entry}
use Rattle.preset_csv.specs.declared.group.Group.{Group}

-- the group of CPU rows at the end of these rows, and the entries that they give for a cpu
pub record GivePresets (judge : Judging) (name : Text) (lines : List Line) (g : Group) (entries : List Entry) : Type 0 where
  pub group : g ≡ group_at name lines
  pub entries_are : entries ≡ presets judge name lines
