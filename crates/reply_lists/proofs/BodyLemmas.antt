-- Bodies that are kept, as the lists grow.
use Rattle.std.proofs.Common.{◌≡◌, ℕ, suc, zero, ◌<◌, List, [], ◌∷◌, ◌++◌, map, get_or, sym, ◌∙◌, ap, ap₂, refl, subst, arith}
use Rattle.std.proofs.lemmas.List.{map-append}
use Rattle.std.proofs.lemmas.List.Elements.{All-append}
use Rattle.papi_base.specs.declared.native.EventRef.TheVariants as event
use Rattle.papi_base.specs.declared.native.Native.{Native}
use Rattle.event_sets.specs.declared.refusal.Clash.{Clash}
use Rattle.session_model.specs.declared.reply.Assigned.{Assigned}
use Rattle.session_model.specs.declared.reply.Body.{Body}
use Rattle.session_model.specs.declared.reply.Body.TheVariants as body
use Rattle.session_model.specs.declared.reply.Reply.{Reply}
use Rattle.reply_lists.specs.declared.kept.Head.{Head}
use Rattle.reply_lists.specs.declared.kept.Kept.{Kept}
use Rattle.reply_lists.specs.declared.kept.Kept.TheVariants as kept
use Rattle.reply_lists.specs.declared.kept.Span.{Span}
use Rattle.reply_lists.specs.declared.kept.Store.{Store}
use Rattle.reply_lists.specs.Bodies.{AllHaveParts, Grew, HasParts, IsKeptAs, body_of, native_in, reply_of}
use Rattle.reply_lists.specs.Parts.{HoldsAt, IsPart, part}
use Rattle.reply_lists.proofs.PartLemmas.{part-append, part-stays}

natives_back : (ns : List Native) → map native_in (map (λ n. event.Native n) ns) ≡ ns
natives_back [] = refl
natives_back (n ∷ ns) = ap (λ v. n ∷ v) (natives_back ns)

back_from : (s : Span) (store : Store) (ns : List Native) → HoldsAt s store.events (map (λ n. event.Native n) ns) → map native_in (part s store.events) ≡ ns
back_from s store ns h = ap (map native_in) h.has ∙ natives_back ns

-- an assignment that was kept
pub kept_assigned : (store : Store) (ns cs : Span) (x : Assigned) (b : Body) → HoldsAt ns store.events (map (λ n. event.Native n) x.natives) → HoldsAt cs store.counters.items x.counters → b ≡ body.Assigned x
    → IsKeptAs store (kept.Assigned ns cs) b
kept_assigned store ns cs x b h k is =
    record {
      parts = (h.lies, k.lies);
      body = ap₂ (λ u v. body.Assigned (record { natives = u; counters = v })) (back_from ns store x.natives h) k.has ∙ sym is;
    }

-- a conflict that was kept
pub kept_clash : (store : Store) (ns : Span) (x : Clash) (b : Body) → HoldsAt ns store.events (map (λ n. event.Native n) x.natives) → b ≡ body.Clash x → IsKeptAs store (kept.Clash ns x.counters) b
kept_clash store ns x b h is = record { parts = h.lies; body = ap (λ u. body.Clash (record { natives = u; counters = x.counters })) (back_from ns store x.natives h) ∙ sym is }

-- a part of the lists stays
part_grew : {X : Type 0} (s : Span) (xs ys : List X) (more : List X) → ys ≡ xs ++ more → IsPart s xs → part s ys ≡ part s xs
part_grew s xs ys more is p = ap (part s) is ∙ part-append s xs more p

lies_grew : {X : Type 0} (s : Span) (xs ys : List X) (more : List X) → ys ≡ xs ++ more → IsPart s xs → IsPart s ys
lies_grew s xs ys more is p = subst (IsPart s) (sym is) (part-stays s xs more p)

parts_grew : (a b : Store) (k : Kept) → Grew a b → HasParts a k → HasParts b k
parts_grew a b kept.Nothing g p = p
parts_grew a b (kept.SetNumber n) g p = p
parts_grew a b (kept.Values s) g p = lies_grew s a.values.items b.values.items g.values.0 g.values.1 p
parts_grew a b (kept.State bits) g p = p
parts_grew a b (kept.Events s) g p = lies_grew s a.events b.events g.events.0 g.events.1 p
parts_grew a b (kept.Assigned ns cs) g p = (lies_grew ns a.events b.events g.events.0 g.events.1 p.0, lies_grew cs a.counters.items b.counters.items g.counters.0 g.counters.1 p.1)
parts_grew a b (kept.Clash ns counters) g p = lies_grew ns a.events b.events g.events.0 g.events.1 p
parts_grew a b (kept.Register value) g p = p
parts_grew a b (kept.Ran ran) g p = p
parts_grew a b (kept.EventCode code) g p = p
parts_grew a b (kept.EventName e) g p = p
parts_grew a b (kept.Threads threads) g p = p

body_grew : (a b : Store) (k : Kept) → Grew a b → HasParts a k → body_of b k ≡ body_of a k
body_grew a b kept.Nothing g p = refl
body_grew a b (kept.SetNumber n) g p = refl
body_grew a b (kept.Values s) g p = ap body.Values (part_grew s a.values.items b.values.items g.values.0 g.values.1 p)
body_grew a b (kept.State bits) g p = refl
body_grew a b (kept.Events s) g p = ap body.Events (part_grew s a.events b.events g.events.0 g.events.1 p)
body_grew a b (kept.Assigned ns cs) g p =
    ap₂ (λ u v. body.Assigned (record { natives = map native_in u; counters = v })) (part_grew ns a.events b.events g.events.0 g.events.1 p.0) (part_grew cs a.counters.items b.counters.items g.counters.0 g.counters.1 p.1)
body_grew a b (kept.Clash ns counters) g p = ap (λ u. body.Clash (record { natives = map native_in u; counters = counters })) (part_grew ns a.events b.events g.events.0 g.events.1 p)
body_grew a b (kept.Register value) g p = refl
body_grew a b (kept.Ran ran) g p = refl
body_grew a b (kept.EventCode code) g p = refl
body_grew a b (kept.EventName e) g p = refl
body_grew a b (kept.Threads threads) g p = refl

-- the replies stay
pub replies_stay : (a b : Store) (hs : List Head) → Grew a b → AllHaveParts a hs → map (reply_of b) hs ≡ map (reply_of a) hs
replies_stay a b [] g all = refl
replies_stay a b (h ∷ hs) g all =
    ap₂ (λ x xs. x ∷ xs) (ap (λ y. record { code = h.code; body = y }) (body_grew a b h.kept g (all 0 h (omega arith)))) (replies_stay a b hs g (λ i d lt. all (suc i) d (omega (arith, lt))))

pub parts_stay : (a b : Store) (hs : List Head) → Grew a b → AllHaveParts a hs → AllHaveParts b hs
parts_stay a b hs g all = λ i d lt. parts_grew a b (get_or hs i d).kept g (all i d lt)

-- one reply more
pub replies_more : (a b : Store) (hs : List Head) (k : Kept) (r : Reply) → Grew a b → AllHaveParts a hs → IsKeptAs b k r.body
    → map (reply_of b) (hs ++ record { code = r.code; kept = k } ∷ []) ≡ map (reply_of a) hs ++ r ∷ []
replies_more a b hs k r g all is =
    map-append (reply_of b) hs (record { code = r.code; kept = k } ∷ [])
    ∙ ap₂ (λ x y. x ++ record { code = r.code; body = y } ∷ []) (replies_stay a b hs g all) is.body

pub parts_more : (a b : Store) (hs : List Head) (h : Head) → Grew a b → AllHaveParts a hs → HasParts b h.kept → AllHaveParts b (hs ++ h ∷ [])
parts_more a b hs h g all is = All-append (λ h. HasParts b h.kept) hs (h ∷ []) (parts_stay a b hs g all) one
  where
    one : (i : ℕ) (d : Head) → i < 1 → HasParts b (get_or (h ∷ []) i d).kept
    one zero d lt = is
    one (suc i) d lt = absurd (omega (arith, lt))
