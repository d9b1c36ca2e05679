use Rattle.std.proofs.Common.{string_bytes}
use Rattle.preset_csv.proofs.WrittenParts.{fields-more}
use Rattle.preset_csv.proofs.writing.put_natives.Goals as goal

pub loop-native-preserved : goal.loop-native-preserved
loop-native-preserved c =
    fields-more string_bytes c.args.natives.now c.loop-native.native-index c.native-item.result c.args.text.now.items _ _ _ c.loop-native-test.true c.native-item.is c.as_bytes.ensures.value c.loop-native.invariant c.in_ok-put_field.ensures
