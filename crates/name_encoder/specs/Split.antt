-- The parts of an event's text: `[component:::][pmu::]event[:attribute]..`.
use Rattle.std.specs.Prelude.{◌==◌, List, [], ◌∷◌, length, drop, Option, Some, None, if◌then◌else◌, nat_eq, option_map, codes}
use Rattle.std.specs.List.{slice_split, starts_with}
use Rattle.std.specs.Option.{option_map_or}
use Rattle.table_rows.specs.Texts.{Text}

-- the text before the first place where it goes on with the mark, and the text after that mark
unfoldable pub cut_at : Text → Text → Option (Text × Text)
cut_at mark [] = None
cut_at mark (b ∷ rest) =
    if starts_with nat_eq (b ∷ rest) mark then Some ([], drop (length mark) (b ∷ rest))
    else option_map (λ p. (b ∷ p.0, p.1)) (cut_at mark rest)

-- what stands before the mark, if the text has it, and the rest
abbrev pub prefix_of : Text → Text → Option Text × Text
prefix_of mark text = option_map_or (λ p. (Some p.0, p.1)) (cut_at mark text) (None, text)

-- an event's text in parts
pub record Split : Type 0 where
  pub comp : Option Text
  pub pmu : Option Text
  pub event : Text
  pub attributes : List Text

-- the parts of a text that colons cut into these pieces
abbrev pub split_at : Option Text → Option Text → List Text → Split
split_at comp pmu [] = record { comp = comp; pmu = pmu; event = []; attributes = [] }
split_at comp pmu (event ∷ attributes) = record { comp = comp; pmu = pmu; event = event; attributes = attributes }

-- the parts of a text, of which the component is known
abbrev pub split_after : Option Text → Option Text × Text → Split
split_after comp p = split_at comp p.0 (slice_split (λ b. b == 58) p.1)

-- the parts of an event's text
unfoldable pub split : Text → Split
split text = split_after (prefix_of (codes ":::") text).0 (prefix_of (codes "::") (prefix_of (codes ":::") text).1)

-- an attribute: a name, and a value if a `=` stands
pub record Attribute : Type 0 where
  pub name : Text
  pub value : Option Text

-- an attribute with a name, and a value if `=` stands
abbrev pub attribute : Text → Option Text → Attribute
attribute name value = record { name = name; value = value }

-- an attribute that was cut at `=`, or one without it
abbrev pub attribute_at : Text → Option (Text × Text) → Attribute
attribute_at text None = attribute text None
attribute_at text (Some p) = attribute p.0 (Some p.1)

-- an attribute by its text
unfoldable pub attribute_of : Text → Attribute
attribute_of text = attribute_at text (cut_at (codes "=") text)
