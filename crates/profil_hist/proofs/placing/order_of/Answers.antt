use Rattle.profil_hist.proofs.Words.{ℕ, map, length, subst, sym, rules, length-map, IsNonDecreasingBy-from_sort_by_key, ArePlacesOf, range_text}
use Rattle.profil_hist.proofs.Words.{RangeStart}
use Rattle.profil_hist.proofs.InOrder.{places-moved}
use Rattle.profil_hist.proofs.placing.order_of.Goals as goal

pub returns : goal.returns
returns c =
    let P : ℕ → Type 0 = λ n. ArePlacesOf (map range_text c.args.ranges.now) n c.in_ok-places.places.items in
    let all = subst P (sym (length-map c.args.ranges.now range_text)) c.in_ok-places.ensures in
    record {
      all = places-moved (map range_text c.args.ranges.now) (length (map range_text c.args.ranges.now)) c.in_ok-places.places.items c.sort_by_key.new.self.items c.sort_by_key.ensures.permutation all;
      rising = IsNonDecreasingBy-from_sort_by_key (λ (p : RangeStart). p.start) c.sort_by_key.new.self.items c.in_ok-sort_by_key.ensures.sorted (λ a r f k. search rules);
    }
