use Rattle.component_table.proofs.Words.{◌∙◌, native_self, natives_same}
use Rattle.component_table.proofs.Mentions.{code-mentioned, mentioned-by}
use Rattle.component_table.proofs.native_codes.NativeCodes.mention.Goals as goal

pub returns-clause-code : goal.returns-clause-code
returns-clause-code c =
    code-mentioned _ _ c.args.native c.in_ok-rank.rank (natives_same c.args.native c.args.native ∙ native_self c.args.native) c.in_ok-rank.ensures.keys c.in_ok-rank.ensures.index

pub returns-clause-mentioned : goal.returns-clause-mentioned
returns-clause-mentioned c = c.in_ok-rank.ensures.keys ∙ mentioned-by _ _ c.args.native c.self.view_is
