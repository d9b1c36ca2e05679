use Rattle.table_rows.proofs.Words.{◌≡◌, ◌∙◌, ◌-◌, List, ℕ, [], take, sym, ap, refl, arith, reverse, without_front}
use Rattle.table_rows.proofs.Trimming.{back-blank, back-plain, front-none}
use Rattle.table_rows.proofs.field.without_back.Goals as goal

pub returns-then-not-is_blank : goal.returns-then-not-is_blank
returns-then-not-is_blank c =
    let s = c.args.bytes.now in
    let n = c.loop-n.n in
    let plain = back-plain s n (n - 1) (omega arith) (omega arith) (sym c.is_blank.ensures ∙ c.if-not-is_blank.true) in
    sym (ap reverse c.loop-n.invariant.same ∙ plain)

pub loop-n-preserved : goal.loop-n-preserved
loop-n-preserved c =
    let s = c.args.bytes.now in
    let n = c.loop-n.n in
    record {
      inside = omega arith;
      same = c.loop-n.invariant.same ∙ back-blank s n (n - 1) (omega arith) (omega arith) (sym c.is_blank.ensures ∙ c.if-not-is_blank.false);
    }

pub returns : goal.returns
returns c =
    let zero : c.loop-n.n ≡ 0 = omega arith in
    let none : take c.loop-n.n c.args.bytes.now ≡ [] = rw zero refl in
    sym (ap reverse (c.loop-n.invariant.same ∙ ap (λ (t : List ℕ). without_front (reverse t)) none ∙ front-none))
