use Rattle.preset_csv.proofs.WrittenParts.{def-put, missing-put, uncomputed-put}
use Rattle.preset_csv.proofs.writing.put_entry.Goals as goal

pub returns-in-Missing : goal.returns-in-Missing
returns-in-Missing c = missing-put c.args.word.now c.args.name.now c.args.entry.now c.args.text.now.items c.in-Missing.is

pub returns-in_ok-extend_from_slice-in-Uncomputed : goal.returns-in_ok-extend_from_slice-in-Uncomputed
returns-in_ok-extend_from_slice-in-Uncomputed c =
    uncomputed-put c.args.word.now c.args.name.now c.args.entry.now c.args.text.now.items _ _ c.in-Uncomputed.is c.in_ok-put_head-in-Uncomputed.ensures
    c.in_ok-extend_from_slice-in-Uncomputed.ensures.items

pub returns-in_ok-push-in-Def : goal.returns-in_ok-push-in-Def
returns-in_ok-push-in-Def c =
    def-put c.args.word.now c.args.name.now c.args.entry.now c.in-Def.def c.args.text.now.items _ _ _ c.in-Def.is c.in_ok-put_head-in-Def.ensures
    c.in_ok-put_def-in-Def.ensures c.in_ok-push-in-Def.ensures.items
