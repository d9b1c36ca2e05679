-- A call on the session under the catalog's book is one on the library.
use Rattle.std.proofs.Common.{◌≡◌, ◌∙◌, ℕ, List, ap, refl, subst, sym}
use Rattle.std.specs.Prelude.{ℤ, Result}
use Rattle.call_type.specs.declared.call.Call.TheVariants as call
use Rattle.component_table.specs.Catalogs.{CatalogView}
use Rattle.papi_base.specs.declared.code.Code.{Code}
use Rattle.papi_base.specs.declared.native.EventRef.{EventRef}
use Rattle.papi_base.specs.declared.native.Native.{Native}
use Rattle.papi_calls.specs.Calls.{Made, values_told}
use Rattle.papi_calls.specs.Libraries.{IsWhole, LibraryView}
use Rattle.postfix_rules.specs.Fitting.{IsNamed}
use Rattle.postfix_rules.specs.Presets.{Book}
use Rattle.postfix_rules.specs.Sameness.{joined_by}
use Rattle.session_model.specs.World.{mentions_of_call}
use Rattle.session_model.specs.CallTypes.{Call}
use Rattle.session_model.specs.declared.reply.Body.TheVariants as body
use Rattle.session_model.specs.declared.reply.Reply.{Reply}
use Rattle.thread_core.specs.Following.{reply_of}
use Rattle.thread_core.specs.Stands.{AgreesWith}
use Rattle.thread_core.specs.Told.{values_in}
use Rattle.thread_session.specs.Follows.{Does}
use Rattle.thread_session.specs.SessionView.{SessionView}
use Rattle.thread_session.specs.Stands.{IsReady}
use Rattle.papi_calls.proofs.Known.{armed_mentions}

module _ (catalog : CatalogView) (mentioned : List Native) (book : Book) where
  -- the session is ready for it
  pub may_call : (session : SessionView) → book ≡ catalog.book → IsWhole catalog mentioned session → IsReady book session
  may_call session is whole = subst (λ (b : Book). IsReady b session) (sym is) whole.ready

  module _ (old new : SessionView) (call : Call) (given : Reply) (is : book ≡ catalog.book) (does : Does book old new call given) where
    -- and stays so
    pub still_whole : IsWhole catalog mentioned old → IsWhole catalog mentioned new
    still_whole whole = record {
      ready = record { agrees = subst (λ (b : Book). AgreesWith b new.core) is does.kept.agrees };
      shape = does.kept.shape ∙ whole.shape;
      fit = whole.fit;
    }

    -- if it mentions nothing new
    pub made : (before : LibraryView) → record { catalog = catalog; mentioned = mentioned; session = old } ≡ before → joined_by mentioned (mentions_of_call call) ≡ mentioned
        → Made before (record { catalog = catalog; mentioned = mentioned; session = new }) call given
    made before view known =
        subst (λ (l : LibraryView). Made l (record { catalog = catalog; mentioned = mentioned; session = new }) call given) view
        (record { does = subst (λ (b : Book). Does b old new call given) is does; catalog = refl; mentioned = sym known })

  -- one that changes nothing
  pub made_still : (session : SessionView) (call : Call) (given : Reply) → book ≡ catalog.book → Does book session session call given → (before : LibraryView)
      → record { catalog = catalog; mentioned = mentioned; session = session } ≡ before → joined_by mentioned (mentions_of_call call) ≡ mentioned → Made before before call given
  made_still session call given is does before view known =
      subst (λ (l : LibraryView). Made l l call given) view
      (record { does = subst (λ (b : Book). Does b session session call given) is does; catalog = refl; mentioned = sym known })

  -- the values that the session tells are the library's
  pub told : (session : SessionView) (set : ℕ) → book ≡ catalog.book → (before : LibraryView) → record { catalog = catalog; mentioned = mentioned; session = session } ≡ before
      → values_in book session.core set ≡ values_told before set
  told session set is before view = ap (λ (b : Book). values_in b session.core set) is ∙ ap (λ (l : LibraryView). values_told l set) view

  pub read_still : (session : SessionView) (set : ℕ) (answer : Result ℕ Code) → book ≡ catalog.book
      → Does book session session (call.Read set) (reply_of (λ n. body.Values (values_in book session.core set)) answer) → (before : LibraryView)
      → record { catalog = catalog; mentioned = mentioned; session = session } ≡ before → joined_by mentioned (mentions_of_call (call.Read set)) ≡ mentioned
      → Made before before (call.Read set) (reply_of (λ n. body.Values (values_told before set)) answer)
  read_still session set answer is does before view known =
      subst (λ (values : List ℤ). Made before before (call.Read set) (reply_of (λ n. body.Values values) answer)) (told session set is before view)
      (made_still session (call.Read set) (reply_of (λ n. body.Values (values_in book session.core set)) answer) is does before view known)

  -- ---- with an event

  -- it was looked up in the catalog
  pub may_take : (session : SessionView) (first before : LibraryView) (named : Result EventRef Code) → book ≡ catalog.book → record { catalog = catalog; mentioned = mentioned; session = session } ≡ before
      → before.catalog ≡ first.catalog → before.session ≡ first.session → IsNamed first.catalog.book first.session.core.shape named → IsNamed book session.core.shape named
  may_take session first before named is view same_catalog same_session good =
      subst (λ (b : Book). IsNamed b session.core.shape named) (sym (is ∙ ap (λ (l : LibraryView). l.catalog.book) view ∙ ap (λ (c : CatalogView). c.book) same_catalog))
      (subst (λ (s : SessionView). IsNamed first.catalog.book s.core.shape named) (sym (ap (λ (l : LibraryView). l.session) view ∙ same_session)) good)

  -- the library may have mentioned it just before, and it is the one that is asked for
  pub named_made : (old new : SessionView) (given : Reply) (first before : LibraryView) (taken asked : Call) → book ≡ catalog.book
      → Does book old new taken given → record { catalog = catalog; mentioned = mentioned; session = old } ≡ before → before.catalog ≡ first.catalog → before.session ≡ first.session
      → before.mentioned ≡ joined_by first.mentioned (mentions_of_call taken) → taken ≡ asked
      → Made first (record { catalog = catalog; mentioned = mentioned; session = new }) asked given
  named_made old new given first before taken asked is does view same_catalog same_session more found =
      let own_catalog : catalog ≡ first.catalog = ap (λ (l : LibraryView). l.catalog) view ∙ same_catalog in
      let own_session : old ≡ first.session = ap (λ (l : LibraryView). l.session) view ∙ same_session in
      subst (λ (c : Call). Made first (record { catalog = catalog; mentioned = mentioned; session = new }) c given) found record {
        does =
            subst (λ (b : Book). Does b first.session new taken given) (is ∙ ap (λ (c : CatalogView). c.book) own_catalog)
            (subst (λ (s : SessionView). Does book s new taken given) own_session does);
        catalog = own_catalog;
        mentioned = ap (λ (l : LibraryView). l.mentioned) view ∙ more;
      }

pub ruleset calling = (may_call, still_whole, made, made_still)

pub ruleset naming = (may_call, may_take, still_whole, named_made, armed_mentions)
