-- When a session stands for an account, and when calls may be made on it.
use Rattle.std.specs.Prelude.{◌≡◌, Some}
use Rattle.papi_base.specs.Streams.{Coming}
use Rattle.postfix_rules.specs.Presets.{Book}
use Rattle.session_model.specs.Account.{Account}
use Rattle.session_model.specs.Fitness.{IsShape}
use Rattle.stream_reader.specs.Reader.{coming}
use Rattle.thread_core.specs.CoreView.{CoreView, opening_core}
use Rattle.thread_core.specs.Stands.{AgreesWith, CoreStands}
use Rattle.thread_session.specs.SessionView.{SessionView}

-- what is to come of an account's stream
abbrev pub to_come : Account → Coming
to_come a = record { rest = a.rest; mark = a.mark }

-- The core keeps what the account says, and the reader tells what is to come.
pub record Stands (book : Book) (s : SessionView) (a : Account) : Type 0 where
  pub kept : CoreStands book s.core a
  pub told : coming s.reader ≡ Some (to_come a)

-- The book fits the core's shape, and the sets agree with it.
pub record IsReady (book : Book) (s : SessionView) : Type 0 where
  pub agrees : AgreesWith book s.core

-- a core without sets, as it is made for units of a shape
pub record IsNew (core : CoreView) : Type 0 where
  pub opening : core ≡ opening_core core.thread core.shape
  pub shaped : IsShape core.shape
