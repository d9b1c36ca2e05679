use Rattle.name_encoder.proofs.Words.{◌≡◌, List, ℕ, Ok, sym, subst, string_bytes, canonical, names, IfOk-weaker}
use Rattle.name_encoder.proofs.Back.{names-back}
use Rattle.name_encoder.proofs.canonical.write_name.Goals as goal

pub returns-clause-back : goal.returns-clause-back
returns-clause-back c =
    IfOk-weaker c.canonical_name.result (λ s. string_bytes s ≡ canonical c.args.t.now c.args.n.now) _
    (λ s e text k. subst (λ (t : List ℕ). names c.args.t.now t ≡ Ok c.args.n.now) (sym e) (names-back c.args.t.now text c.args.n.now c.canonical_name.ensures.kept k))
    c.canonical_name.ensures.name
