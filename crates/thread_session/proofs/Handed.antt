-- What a method owes that hands its call on to the core, and leaves the reader.
use Rattle.thread_session.proofs.Words.{◌≡◌, ◌≤◌, ◌∙◌, false, ap, sym, subst, Option, option_map, Occ, MOST_OCCURRENCES, Book, Call, Reply, ReaderView, CoreView}
use Rattle.thread_session.proofs.Words.{Follows, AgreesWith, Does, is_run, AreInStep, SessionView, IsReady}
use Rattle.thread_session.proofs.Calling.{call_does}

module _ (book : Book) (core : CoreView) (reader : ReaderView) where
  -- the sets agree with the book
  pub may_call : {was : SessionView} → record { core = core; reader = reader } ≡ was → IsReady book was → AgreesWith book core
  may_call is ready = subst (λ (v : SessionView). AgreesWith book v.core) (sym is) ready.agrees

  module _ (made : Call) (reply : Reply) where
    -- the core is still in step with the reader
    pub still_in_step : (now : CoreView) → Follows book core now made reply → AreInStep core reader → AreInStep now reader
    still_in_step now f s = record {
      few = subst (λ k. k ≤ MOST_OCCURRENCES) (sym f.taken) s.few;
      taken = λ gives. f.taken ∙ s.taken gives;
      last = λ gives. ap (λ (last : Option Occ). option_map (λ (o : Occ). o.stamp) last) f.last ∙ s.last gives;
    }

    pub handed : (now : CoreView) → is_run made ≡ false → Follows book core now made reply → {was : SessionView} → record { core = core; reader = reader } ≡ was
        → Does book was (record { core = now; reader = reader }) made reply
    handed now still f is =
        subst (λ (v : SessionView). Does book v (record { core = now; reader = reader }) made reply) is (call_does book (record { core = core; reader = reader }) now made reply still f)

    -- a call that leaves the core too
    pub handed_still : is_run made ≡ false → Follows book core core made reply → {was : SessionView} → record { core = core; reader = reader } ≡ was → Does book was was made reply
    handed_still still f is = subst (λ (v : SessionView). Does book v v made reply) is (call_does book (record { core = core; reader = reader }) core made reply still f)
