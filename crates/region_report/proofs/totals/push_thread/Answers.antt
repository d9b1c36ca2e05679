use Rattle.region_report.proofs.Words.{◌∙◌, ◌++◌, ap, map, string_bytes, sym, on_ok_weaker, span_text, total_of}
use Rattle.region_report.proofs.TotalsKept.{as_many, lines_told}
use Rattle.region_report.proofs.totals.push_thread.Goals as goal

pub push_totals-requires : goal.push_totals-requires
push_totals-requires c =
    let spans = map span_text c.args.spans.now in
    as_many c.args.events c.args.thread spans (λ n. n.now) _ _
    (c.as_slice-2.ensures.value ∙ c.in_ok-totals.ensures ∙ ap (λ names. map (total_of c.args.events c.args.thread spans) (map (λ n. n.now) names)) (sym c.as_slice.ensures.keys))

pub returns : goal.returns
returns c =
    let spans = map span_text c.args.spans.now in
    let named = ap (map (λ n. n.now)) c.as_slice.ensures.keys ∙ c.in_ok-names.ensures in
    let counted = c.as_slice-2.ensures.value ∙ c.in_ok-totals.ensures ∙ ap (λ names. map (total_of c.args.events c.args.thread spans) (map (λ n. n.now) names)) (sym c.as_slice.ensures.keys) in
    on_ok_weaker c.push_totals.result (λ e. e ∙ ap (λ t. string_bytes c.args.text.now ++ t) (lines_told c.args.events c.args.thread spans (λ n. n.now) c.as_slice.result.now c.as_slice-2.result.now named counted))
    c.push_totals.ensures
