use Rattle.preset_csv.proofs.Words.{◌≡◌, ℕ, Some, Ok, map, length, string_bytes, subst, arith, length-map, formula_of}
use Rattle.preset_csv.specs.declared.kind.Kind.TheVariants as kind
use Rattle.preset_csv.proofs.Judged.{def-kept, read-agrees}
use Rattle.preset_csv.proofs.judging.postfix_entry.Goals as goal

pub new-requires : goal.new-requires
new-requires c =
    let natives = map string_bytes c.args.natives.items in
    let count : c.len.result ≡ length natives = omega (arith, length-map c.args.natives.items string_bytes, c.len.ensures) in
    let read = subst (λ (k : ℕ). formula_of k c.args.formula.now ≡ Ok c.in-Ok.formula) count c.in-Ok.ensures.read in
    def-kept natives kind.Postfix (Some c.in-Ok.formula) c.requires (read-agrees natives c.args.formula.now c.in-Ok.formula read)
