-- How often the source of a session has failed.
use Rattle.std.specs.Prelude.{ℕ, ◌≤◌, ◌≡◌, ⊤, Option, Some, None}
use Rattle.std.specs.Option.{option_map}
use Rattle.papi_base.specs.Outside.{Rose}
use Rattle.session_model.specs.declared.reply.Body.{Body}
use Rattle.session_model.specs.declared.reply.Body.TheVariants as body
use Rattle.session_model.specs.declared.reply.Ended.TheVariants.{Fault}
use Rattle.session_model.specs.declared.reply.Reply.{Reply}
use Rattle.stream_reader.specs.Reader.{ReaderView, SourceView}

-- the count of a reader's source, if it has one
abbrev pub fault_count : ReaderView → Option ℕ
fault_count reader = option_map (λ (s : SourceView). s.faults) reader.source

-- there is a source as before, and its count has not fallen
abbrev pub FaultsKept : Option ℕ → Option ℕ → Type 0
FaultsKept None None = ⊤
FaultsKept None (Some new) = ⊥
FaultsKept (Some old) None = ⊥
FaultsKept (Some old) (Some new) = old ≤ new

-- there is a source, and its count rose
abbrev pub FaultsRose : Option ℕ → Option ℕ → Type 0
FaultsRose (Some old) (Some new) = Rose old new
FaultsRose (Some old) None = ⊥
FaultsRose None new = ⊥

-- a run that ended where the source of its stream failed
abbrev pub IsFaultBody : Body → Type 0
IsFaultBody (body.Ran ran) = ran.ended ≡ Fault
IsFaultBody b = ⊥

-- the reply of a run that the source's fault ended
abbrev pub IsFaultReply : Reply → Type 0
IsFaultReply reply = IsFaultBody reply.body
