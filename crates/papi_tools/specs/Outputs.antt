-- The bytes of an output.
use Rattle.std.specs.Prelude.{ℕ, List, ◌++◌}
use Rattle.script_runner.specs.Replies.{notes_text, replies_text}
use Rattle.papi_tools.specs.declared.output.Content.{Content}
use Rattle.papi_tools.specs.declared.output.Content.TheVariants.{Text, Replies}

-- a text, or the replies and the notes after them as text
abbrev pub content_bytes : Content → List ℕ
content_bytes (Text text) = text
content_bytes (Replies lines catalog shown) = replies_text catalog lines ++ notes_text shown.items
