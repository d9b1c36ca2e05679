-- What a reader that tells has given, one occurrence after another.
use Rattle.std.proofs.Common.{◌≡◌, List, [], ◌∷◌, ◌++◌, refl, ap, sym, ◌∙◌, subst, append_assoc, append-nil, Option, Some}
use Rattle.stream_reader.proofs.Words.{Occ, NextGives, at_mark, nothing}
use Rattle.papi_base.specs.Streams.{Coming, Mark, Dry, Bad, Fault}
use Rattle.stream_reader.specs.declared.next.Next.TheVariants as next

-- these were given of what was to come, and this comes later
pub record GaveAll (c : Coming) (os : List Occ) (now : Option Coming) : Type 0 where
  pub later : List Occ
  pub rest : c.rest ≡ os ++ later
  pub left : now ≡ Some (record { rest = later; mark = c.mark })

-- nothing more was to come, and the mark was given
pub record Closed (c : Coming) (os : List Occ) (m : Mark) (now : Option Coming) : Type 0 where
  pub rest : c.rest ≡ os
  pub mark : c.mark ≡ m
  pub left : now ≡ Some nothing

pub gave_none : (c : Coming) (now : Option Coming) → now ≡ Some c → GaveAll c [] now
gave_none c now e = record { later = c.rest; rest = refl; left = e }

not_at_mark : (mark : Mark) (o : Occ) → next.Occ o ≡ at_mark mark → ⊥
not_at_mark Dry o e = cc
not_at_mark (Bad n c) o e = cc
not_at_mark Fault o e = cc

same_mark : (m mark : Mark) → at_mark m ≡ at_mark mark → mark ≡ m
same_mark Dry Dry e = refl
same_mark Dry (Bad n c) e = cc
same_mark Dry Fault e = cc
same_mark (Bad n c) Dry e = cc
same_mark (Bad n c) (Bad k d) e = cc
same_mark (Bad n c) Fault e = cc
same_mark Fault Dry e = cc
same_mark Fault (Bad n c) e = cc
same_mark Fault Fault e = refl

pub gave_more : (c : Coming) (os : List Occ) (was now : Option Coming) (o : Occ) → GaveAll c os was → NextGives was (next.Occ o) now → GaveAll c (os ++ o ∷ []) now
gave_more c os was now o gave gives = go gave.later gave.rest (subst (λ x. NextGives x (next.Occ o) now) gave.left gives) where
  go : (later : List Occ) → c.rest ≡ os ++ later → NextGives (Some (record { rest = later; mark = c.mark })) (next.Occ o) now → GaveAll c (os ++ o ∷ []) now
  go [] e g = absurd (not_at_mark c.mark o g.0)
  go (x ∷ xs) e g =
      let same : x ≡ o = (let h : next.Occ o ≡ next.Occ x = g.0 in cc) in
      record { later = xs; rest = e ∙ ap (λ (y : Occ). os ++ y ∷ xs) same ∙ sym (append_assoc os (o ∷ []) xs); left = g.1 }

pub gave_mark : (c : Coming) (os : List Occ) (was now : Option Coming) (m : Mark) → GaveAll c os was → NextGives was (at_mark m) now → Closed c os m now
gave_mark c os was now m gave gives = go gave.later gave.rest (subst (λ x. NextGives x (at_mark m) now) gave.left gives) where
  go : (later : List Occ) → c.rest ≡ os ++ later → NextGives (Some (record { rest = later; mark = c.mark })) (at_mark m) now → Closed c os m now
  go [] e g = record { rest = e ∙ append-nil os; mark = same_mark m c.mark g.0; left = g.1 }
  go (x ∷ xs) e g = absurd (not_at_mark m x (sym g.0))
