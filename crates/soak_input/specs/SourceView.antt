-- What contracts see of a source of the soak.
use Rattle.soak_input.specs.Source.{left_text}
use Rattle.soak_input.specs.Streams.{Text}
use Rattle.soak_input.specs.declared.source.SoakSource.{SoakSource}

-- the bytes that a source of the soak still gives
abbrev pub text_left : SoakSource → Text
text_left s = left_text s.line.items s.given s.left s.generator
