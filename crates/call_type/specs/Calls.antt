-- The names of calls, and calls with their events looked up: this project's own script, docs/FORMATS.md.
use Rattle.call_type.specs.declared.call.Asked.{Asked}
use Rattle.call_type.specs.declared.call.Asked.TheVariants as asked
use Rattle.call_type.specs.declared.call.Call.{Call}
use Rattle.call_type.specs.declared.call.Call.TheVariants as call
use Rattle.call_type.specs.declared.call_name.CallName.{CallName}
use Rattle.call_type.specs.declared.call_name.CallName.TheVariants as name

-- the name of a call on a session
abbrev pub name_of_call : {E : Type 0} → Call E → CallName
-- tools/make_calls: begin names
name_of_call call.Register = name.Register
name_of_call call.Unregister = name.Unregister
name_of_call call.Create = name.Create
name_of_call (call.Destroy set) = name.Destroy
name_of_call (call.Cleanup set) = name.Cleanup
name_of_call (call.Add set e) = name.Add
name_of_call (call.Remove set e) = name.Remove
name_of_call (call.AssignComponent set comp) = name.Component
name_of_call (call.SetDomain set bits) = name.Domain
name_of_call (call.SetMultiplex set slice) = name.Multiplex
name_of_call (call.Overflow set e t) = name.Overflow
name_of_call (call.Start set) = name.Start
name_of_call (call.Stop set) = name.Stop
name_of_call (call.Read set) = name.Read
name_of_call (call.Accum set) = name.Accum
name_of_call (call.Reset set) = name.Reset
name_of_call (call.State set) = name.State
name_of_call (call.ListEvents set) = name.Events
name_of_call (call.Assign set) = name.Assign
name_of_call (call.Raw set c) = name.Raw
name_of_call (call.Run n) = name.Run

-- tools/make_calls: end

-- the name of the call that a line makes
abbrev pub name_of : {E C N : Type 0} → Asked E C N → CallName
name_of (asked.Call made) = name_of_call made
name_of (asked.CodeOf c) = name.Code
name_of (asked.NameOf n) = name.Name
name_of asked.Threads = name.Threads

-- a call whose event has become this of it
abbrev pub call_with : {E F : Type 0} → (E → F) → Call E → Call F
-- tools/make_calls: begin events
call_with f call.Register = call.Register
call_with f call.Unregister = call.Unregister
call_with f call.Create = call.Create
call_with f (call.Destroy set) = call.Destroy set
call_with f (call.Cleanup set) = call.Cleanup set
call_with f (call.Add set e) = call.Add set (f e)
call_with f (call.Remove set e) = call.Remove set (f e)
call_with f (call.AssignComponent set comp) = call.AssignComponent set comp
call_with f (call.SetDomain set bits) = call.SetDomain set bits
call_with f (call.SetMultiplex set slice) = call.SetMultiplex set slice
call_with f (call.Overflow set e t) = call.Overflow set (f e) t
call_with f (call.Start set) = call.Start set
call_with f (call.Stop set) = call.Stop set
call_with f (call.Read set) = call.Read set
call_with f (call.Accum set) = call.Accum set
call_with f (call.Reset set) = call.Reset set
call_with f (call.State set) = call.State set
call_with f (call.ListEvents set) = call.ListEvents set
call_with f (call.Assign set) = call.Assign set
call_with f (call.Raw set c) = call.Raw set c
call_with f (call.Run n) = call.Run n

-- tools/make_calls: end

-- what a line asks for, whose events have become these of them
abbrev pub asked_with : {E F C D N : Type 0} → (E → F) → (C → D) → Asked E C N → Asked F D N
asked_with f g (asked.Call made) = asked.Call (call_with f made)
asked_with f g (asked.CodeOf c) = asked.CodeOf (g c)
asked_with f g (asked.NameOf n) = asked.NameOf n
asked_with f g asked.Threads = asked.Threads
