use Rattle.preset_csv.proofs.Words.{◌≡◌, ◌∙◌, ◌∷◌, ◌++◌, [], true, false, map, string_bytes, take, sym, ap, subst, arith, IfOk-weaker}
use Rattle.preset_csv.proofs.Words.{MatchResult-weaker, not_given, is_given, fields_of, MOST_NATIVES, Text, is_printable, ends_natives}
use Rattle.preset_csv.proofs.FoundNatives.{broken, ends-here, ends-last, held-more, over, within}
use Rattle.preset_csv.proofs.natives.row_natives.Goals as goal

pub returns-then-ends_natives-clause-natives : goal.returns-then-ends_natives-clause-natives
returns-then-ends_natives-clause-natives c =
    let fields = fields_of c.args.row.now in
    let ends = ends-here fields c.args.first c.loop-i.i (omega arith) (subst (λ (t : Text). ends_natives t ≡ true) c.text_at-field.ensures (sym c.ends_natives.ensures ∙ c.if-ends_natives.true)) in
    IfOk-weaker c.within_limit.result _ _ (λ v h. rw h.0 (within fields c.args.first c.loop-i.i c.loop-i.count _ ends c.loop-i.invariant h.1)) c.within_limit.ensures.within

pub returns-then-ends_natives-clause-refused : goal.returns-then-ends_natives-clause-refused
returns-then-ends_natives-clause-refused c =
    let fields = fields_of c.args.row.now in
    let ends = ends-here fields c.args.first c.loop-i.i (omega arith) (subst (λ (t : Text). ends_natives t ≡ true) c.text_at-field.ensures (sym c.ends_natives.ensures ∙ c.if-ends_natives.true)) in
    MatchResult-weaker c.within_limit.result c.within_limit.ensures.over (λ v h. h) (λ refused h. rw h.0 (over fields c.args.first c.loop-i.i c.loop-i.count _ ends c.loop-i.invariant h.1))

pub returns-in_default-clause-refused : goal.returns-in_default-clause-refused
returns-in_default-clause-refused c =
    broken (fields_of c.args.row.now) c.args.first c.loop-i.i c.loop-i.count _ (omega arith) c.loop-i.invariant
    (subst (λ (t : Text). ends_natives t ≡ false) c.text_at-field.ensures (sym c.ends_natives.ensures ∙ c.if-ends_natives.false))
    (subst (λ (t : Text). is_printable t ≡ false) c.text_at-field.ensures (not_given (is_printable c.text_at-field.result.now) c.text_at-field.result.now c.in_default.ensures))

pub overflow_add-count : goal.overflow_add-count
overflow_add-count c = record { fits = omega (arith, c.loop-i.invariant.placed) }

pub loop-i-preserved : goal.loop-i-preserved
loop-i-preserved c =
    let p = is_given (is_printable c.text_at-field.result.now) c.text_at-field.result.now c.in-Some.text.now c.in-Some.ensures in
    held-more (fields_of c.args.row.now) c.args.first c.loop-i.i c.loop-i.count _ _ (omega arith) c.loop-i.invariant
    (subst (λ (t : Text). ends_natives t ≡ false) c.text_at-field.ensures (sym c.ends_natives.ensures ∙ c.if-ends_natives.false))
    (subst (λ (t : Text). is_printable t ≡ true) c.text_at-field.ensures p.0)
    (c.in_ok-keep.ensures ∙ ap (λ (t : Text). take MOST_NATIVES (map string_bytes c.loop-i.natives.items ++ (t ∷ []))) (p.1 ∙ c.text_at-field.ensures))

pub returns-clause-natives : goal.returns-clause-natives
returns-clause-natives c =
    let fields = fields_of c.args.row.now in
    let ends = ends-last fields c.args.first c.loop-i.i (omega arith) in
    IfOk-weaker c.within_limit-2.result _ _ (λ v h. rw h.0 (within fields c.args.first c.loop-i.i c.loop-i.count _ ends c.loop-i.invariant h.1)) c.within_limit-2.ensures.within

pub returns-clause-refused : goal.returns-clause-refused
returns-clause-refused c =
    let fields = fields_of c.args.row.now in
    let ends = ends-last fields c.args.first c.loop-i.i (omega arith) in
    MatchResult-weaker c.within_limit-2.result c.within_limit-2.ensures.over (λ v h. h) (λ refused h. rw h.0 (over fields c.args.first c.loop-i.i c.loop-i.count _ ends c.loop-i.invariant h.1))
