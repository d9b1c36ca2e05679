use Rattle.preset_csv.proofs.Words.{◌∙◌, ◌∷◌, [], arith, map, string_bytes, sym, length-map, take-append-le, take_all, MOST_NATIVES}
use Rattle.preset_csv.proofs.natives.keep.Goals as goal

pub returns-else-len : goal.returns-else-len
returns-else-len c =
    let held = map string_bytes c.args.natives.now.items in
    let count = length-map c.args.natives.now.items string_bytes in
    sym (take-append-le MOST_NATIVES held (c.args.text.now ∷ []) (omega (arith, count, c.if-len.false, c.len.ensures)) ∙ take_all MOST_NATIVES held (omega (arith, count, c.requires)))
