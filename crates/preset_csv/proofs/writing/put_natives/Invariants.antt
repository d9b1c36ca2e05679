use Rattle.preset_csv.proofs.Words.{◌≡◌, ◌++◌, map, take, string_bytes, after_commas}
use Rattle.preset_csv.proofs.writing.put_natives.Given as goal

abbrev pub invariant-loop-native : goal.invariant-loop-native
invariant-loop-native l = l.text.items ≡ l.initial.text.items ++ after_commas (map string_bytes (take l.native-index l.natives))
