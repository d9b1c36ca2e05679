-- The words of a script's calls: this project's own format, docs/FORMATS.md.
use Rattle.std.specs.Prelude.{ℕ, List, codes}
use Rattle.call_type.specs.declared.call_name.CallName.{CallName}
use Rattle.call_type.specs.declared.call_name.CallName.TheVariants as name

-- the word of a call
abbrev pub word_of : CallName → List ℕ
-- tools/make_calls: begin
word_of name.Register = codes "register"
word_of name.Unregister = codes "unregister"
word_of name.Threads = codes "threads"
word_of name.Create = codes "create"
word_of name.Destroy = codes "destroy"
word_of name.Cleanup = codes "cleanup"
word_of name.Add = codes "add"
word_of name.Remove = codes "remove"
word_of name.Component = codes "component"
word_of name.Domain = codes "domain"
word_of name.Multiplex = codes "multiplex"
word_of name.Overflow = codes "overflow"
word_of name.Start = codes "start"
word_of name.Stop = codes "stop"
word_of name.Read = codes "read"
word_of name.Accum = codes "accum"
word_of name.Reset = codes "reset"
word_of name.State = codes "state"
word_of name.Events = codes "events"
word_of name.Assign = codes "assign"
word_of name.Raw = codes "raw"
word_of name.Run = codes "run"
word_of name.Code = codes "code"
word_of name.Name = codes "name"

-- tools/make_calls: end
