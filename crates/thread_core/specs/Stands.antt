-- When a core stands for an account.
use Rattle.std.specs.Prelude.{◌+◌, ◌≤◌, ◌≡◌, ◌&&◌, ℕ, Bool, nat_lt, nat_le, [], ◌∷◌, ◌++◌, length, Option, Some, None, if◌then◌else◌}
use Rattle.papi_base.specs.declared.occurrence.Occ.{Occ}
use Rattle.papi_base.specs.declared.limits.TheConstants.{LAST_STAMP, MOST_OCCURRENCES, MOST_SETS}
use Rattle.postfix_rules.specs.Presets.{Book}
use Rattle.postfix_rules.specs.Fitting.{BookFits}
use Rattle.session_model.specs.Account.{Account, last_after, time_after}
use Rattle.session_model.specs.Bounds.{AllWithin, AreApart, Rises}
use Rattle.session_model.specs.Fitness.{AreFit, IsShape}
use Rattle.session_model.specs.Faces.{faces_of}
use Rattle.thread_core.specs.CoreView.{CoreView}
use Rattle.thread_core.specs.Holding.{slots_of}
use Rattle.thread_slots.specs.Units.{units_of}

-- the core keeps what the account says, and took no more occurrences than a thread may
pub record CoreStands (book : Book) (core : CoreView) (a : Account) : Type 0 where
  pub thread : core.thread ≡ a.thread
  pub registered : core.registered ≡ a.registered
  pub slots : core.slots ≡ slots_of book core.shape a.past a.sets
  pub units : core.units ≡ units_of book core.shape a.past a.sets
  pub taken : core.taken ≡ length a.past
  pub last : core.last ≡ last_after None a.past
  pub places : length a.sets ≡ MOST_SETS
  pub rises : Rises 0 a.past
  pub within : AllWithin (length a.past) a.sets
  pub apart : AreApart (faces_of a.sets)
  pub fit : AreFit book core.shape a.sets
  pub shape : IsShape core.shape
  pub in_limits : core.taken ≤ MOST_OCCURRENCES

-- The book fits the core's shape, and under it there is an account for which the core stands: its sets agree with this book.
pub record AgreesWith (book : Book) (core : CoreView) : Type 0 where
  pub fits : BookFits core.shape book
  pub account : Account
  pub stands : CoreStands book core account
  pub in_time : time_after core.last ≤ LAST_STAMP + 1

-- so there is under some book
pub record IsBacked (core : CoreView) : Type 0 where
  pub book : Book
  pub agrees : AgreesWith book core

-- the core can take one occurrence more, and there is a stamp for it
abbrev pub has_stamp : CoreView → Bool
has_stamp core = nat_lt core.taken MOST_OCCURRENCES && nat_le (time_after core.last) LAST_STAMP

-- the stamp of an occurrence that comes now, if it can be taken
abbrev pub next_stamp : CoreView → Option ℕ
next_stamp core = if has_stamp core then Some (time_after core.last) else None

-- the account after one occurrence more
abbrev pub consumed : Account → Occ → Account
consumed a o = record a { past = a.past ++ o ∷ [] }
