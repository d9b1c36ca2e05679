-- What is shown of a reply where it is kept.
use Rattle.std.specs.Prelude.{◌≡◌, ◌≤◌, ⊤, length}
use Rattle.papi_base.specs.declared.limits.TheConstants.{MOST_ITEMS}
use Rattle.session_model.specs.declared.reply.Body.TheVariants as body
use Rattle.session_model.specs.declared.reply.Reply.{Reply}
use Rattle.session_model.specs.Replies.{plain}
use Rattle.reply_lists.specs.declared.shown.Shown.{Shown}
use Rattle.reply_lists.specs.declared.shown.Shown.TheVariants as shown

-- the reply is the code with these values, which are few; the code alone; or the code with what a run did
abbrev pub IsShownOf : Shown → Reply → Type 0
IsShownOf (shown.Values c values) reply = (length values.now ≤ MOST_ITEMS) × (reply ≡ record { code = c; body = body.Values values.now })
IsShownOf (shown.Plain c) reply = reply ≡ plain c
IsShownOf (shown.Ran c ran) reply = reply ≡ record { code = c; body = body.Ran ran }
IsShownOf shown.Other reply = ⊤
