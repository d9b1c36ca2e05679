-- What the definitions of the listings say in other words.
use Rattle.std.specs.Prelude.{◌↔◌, ℕ, List, IsTrue}
use Rattle.std.specs.Str.Iter.{HasSubslice}
use Rattle.tool_output.specs.NativeLists.{stands_in}

-- a text stands in another one exactly if that is something, the text, and something
abbrev pub StandsIn : Type 0
StandsIn = (part text : List ℕ) → IsTrue (stands_in part text) ↔ HasSubslice text part
