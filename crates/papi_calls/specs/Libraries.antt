-- A catalog, the native events that were mentioned, and a session over the catalog's shape.
use Rattle.std.specs.Prelude.{ℕ, ◌≡◌, List, [], All}
use Rattle.papi_base.specs.declared.native.Native.{Native}
use Rattle.papi_base.specs.declared.outside.Ending.TheVariants.{End}
use Rattle.papi_base.specs.Numerals.{is_empty}
use Rattle.stream_reader.specs.Occurs.{occurs_of}
use Rattle.postfix_rules.specs.Fitting.{Fits}
use Rattle.session_model.specs.Account.{opening}
use Rattle.component_table.specs.Catalogs.{CatalogView, shape_of}
use Rattle.thread_session.specs.SessionView.{SessionView}
use Rattle.thread_session.specs.Stands.{IsReady, Stands}

-- What contracts see of an open library: the events that there are, the native events whose codes were given, and the session of its thread.
pub record LibraryView : Type 0 where
  pub catalog : CatalogView
  pub mentioned : List Native
  pub session : SessionView

-- calls can be made on the session with the catalog's book, also on the events that were mentioned
pub record IsWhole (catalog : CatalogView) (mentioned : List Native) (session : SessionView) : Type 0 where
  pub ready : IsReady catalog.book session
  pub shape : session.core.shape ≡ shape_of catalog.tables
  pub fit : All (Fits (shape_of catalog.tables)) mentioned

-- A library before any call: nothing is mentioned, and the thread's whole stream is to come. An empty one has ended.
pub record IsOpened (given : CatalogView) (thread : ℕ) (stream : List ℕ) (l : LibraryView) : Type 0 where
  pub catalog : l.catalog ≡ given
  pub mentioned : l.mentioned ≡ []
  pub stands : Stands l.catalog.book l.session (opening thread (occurs_of End stream).rest (occurs_of End stream).mark)
  pub over : l.session.reader.over ≡ is_empty stream
