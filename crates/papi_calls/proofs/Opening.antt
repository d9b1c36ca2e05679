-- An empty stream has ended, and says nothing.
use Rattle.std.proofs.Common.{◌≡◌, ℕ, true, List, [], ◌∷◌, Some, ap, refl}
use Rattle.papi_base.specs.Numerals.{is_empty}
use Rattle.papi_base.specs.Streams.{Coming}
use Rattle.papi_base.specs.declared.outside.Ending.TheVariants.{End}
use Rattle.stream_reader.specs.Lines.{lines_of, tape_lines}
use Rattle.stream_reader.specs.Occurs.{occurs_from, occurs_of}
use Rattle.stream_reader.specs.Reader.{nothing}

nothing_said : nothing ≡ occurs_of End []
unfolding occurs_of occurs_from tape_lines lines_of
nothing_said = refl

pub ended_says : (bytes : List ℕ) → is_empty bytes ≡ true → Some nothing ≡ Some (occurs_of End bytes)
ended_says [] none = ap (λ (c : Coming). Some c) nothing_said
ended_says (b ∷ bytes) none = absurd cc
