use Rattle.std.proofs.Common.{◌≡◌, ◌∙◌, Option, [], ◌+◌, ◌∷◌, ◌++◌, ap, codes, decimal, string_bytes, sym}
use Rattle.tool_output.proofs.Words.{range_with_len, option_map_or, canonical, Native, range_more, Text, native_line}
use Rattle.std.specs.Prelude.{slice_get}
use Rattle.tool_output.proofs.Listed.{pushed}
use Rattle.tool_output.proofs.listings.preset_events.push_natives.Goals as goal

pub loop-place-preserved : goal.loop-place-preserved
loop-place-preserved c =
    let k = c.loop-place.place-counter in
    let line = string_bytes c.loop-place.text in
    let name : string_bytes c.in_ok-name.name ≡ option_map_or (canonical c.args.tables.now) (slice_get c.args.natives.now k) [] =
    c.in_ok-name.ensures.name ∙ ap (λ (o : Option Native). option_map_or (canonical c.args.tables.now) o []) (sym c.at.ensures.item) in
    pushed (native_line c.args.tables.now c.args.natives.now) (range_with_len 0 k) (range_with_len 0 (k + 1)) k (string_bytes c.args.text.now) line _ (range_more k) c.loop-place.invariant
    (c.in_ok-writeln.ensures.bytes ∙ ap (λ (t : Text). line ++ (codes "Native " ++ (decimal k ++ (codes ": " ++ (t ++ 10 ∷ []))))) name)
