-- What a call on a library does.
use Rattle.std.specs.Prelude.{ℕ, ℤ, ◌≡◌, List}
use Rattle.postfix_rules.specs.Sameness.{joined_by}
use Rattle.session_model.specs.Account.{Account}
use Rattle.session_model.specs.World.{answer, mentions_of, mentions_of_call}
use Rattle.session_model.specs.CallTypes.{Asked}
use Rattle.session_model.specs.CallTypes.{Call}
use Rattle.session_model.specs.declared.reply.Reply.{Reply}
use Rattle.thread_core.specs.Told.{values_in}
use Rattle.thread_session.specs.Follows.{Does}
use Rattle.papi_calls.specs.Codes.{setting_of}
use Rattle.papi_calls.specs.Libraries.{LibraryView}

-- The session does and replies what the model's step does; the call's native event is mentioned, and the catalog stays.
pub record Made (old new : LibraryView) (made : Call) (answer : Reply) : Type 0 where
  pub does : Does old.catalog.book old.session new.session made answer
  pub catalog : new.catalog ≡ old.catalog
  pub mentioned : new.mentioned ≡ joined_by old.mentioned (mentions_of_call made)

-- The reply is the model's answer, if the native event of the question is mentioned; nothing else changes.
pub record Answered (old new : LibraryView) (made : Asked) (given : Reply) : Type 0 where
  pub reply : (accounts : List Account) → given ≡ answer (setting_of old.catalog) accounts new.mentioned made
  pub mentioned : new.mentioned ≡ joined_by old.mentioned (mentions_of made)
  pub catalog : new.catalog ≡ old.catalog
  pub session : new.session ≡ old.session

-- the value of each event of the set under a number, and none if there is no set: PAPI_read(3)
abbrev pub values_told : LibraryView → ℕ → List ℤ
values_told l set = values_in l.catalog.book l.session.core set
