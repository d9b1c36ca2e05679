use Rattle.std.proofs.Common.{◌+◌, ◌∙◌, sym, ap, option_map}
use Rattle.component_table.proofs.Mentions.{code-at}
use Rattle.component_table.proofs.native_codes.NativeCodes.code_of.Goals as goal

pub returns-in-Some : goal.returns-in-Some
returns-in-Some c = record {
  code = ap (option_map (λ k. 0x40000000 + k)) (sym c.in-Some.is)
      ∙ code-at _ _ c.args.native.now _ c.self.view_is c.get_index_of.ensures.index c.get_index_of.ensures.found;
}

pub returns-in-None : goal.returns-in-None
returns-in-None c = record {
  code = ap (option_map (λ k. 0x40000000 + k)) (sym c.in-None.is)
      ∙ code-at _ _ c.args.native.now _ c.self.view_is c.get_index_of.ensures.index c.get_index_of.ensures.found;
}
