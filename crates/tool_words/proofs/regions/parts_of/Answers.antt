use Rattle.tool_words.proofs.Words.{◌<◌, arith, map_from_collect, YieldsList-from_str_split, parts_of}
use Rattle.tool_words.proofs.regions.parts_of.Goals as goal

pub returns : goal.returns
unfolding parts_of
returns c = map_from_collect _ c.collect.ensures.ran (YieldsList-from_str_split 44 c.args.list.now (let small : 44 < 128 = omega arith in small) c.split.ensures.text c.split.ensures.has_more c.split.ensures.pattern)
