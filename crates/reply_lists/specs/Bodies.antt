-- What is kept of a reply, and the reply that it is.
use Rattle.std.specs.Prelude.{ℕ, ℤ, ◌≡◌, ◌++◌, ⊤, false, List, All, map}
use Rattle.papi_base.specs.declared.native.EventRef.{EventRef}
use Rattle.papi_base.specs.declared.native.EventRef.TheVariants as event
use Rattle.papi_base.specs.declared.native.Native.{Native}
use Rattle.session_model.specs.declared.reply.Body.{Body}
use Rattle.session_model.specs.declared.reply.Body.TheVariants as body
use Rattle.session_model.specs.declared.reply.Reply.{Reply}
use Rattle.reply_lists.specs.declared.kept.Head.{Head}
use Rattle.reply_lists.specs.declared.kept.Kept.{Kept}
use Rattle.reply_lists.specs.declared.kept.Kept.TheVariants as kept
use Rattle.reply_lists.specs.declared.kept.Store.{Store}
use Rattle.reply_lists.specs.Parts.{IsPart, part}

-- no native event
abbrev pub no_native : Native
no_native = record { comp = 0; event = 0; select = 0; masks = 0; umask = 0; mods = record { user = false; kernel = false; edge = false; invert = false; cmask = 0 }; allowed = 0 }

-- the native event that an event is
abbrev pub native_in : EventRef → Native
native_in (event.Native n) = n
native_in (event.Preset row) = no_native

-- the body of which this is kept
abbrev pub body_of : Store → Kept → Body
body_of store kept.Nothing = body.Nothing
body_of store (kept.SetNumber n) = body.SetNumber n
body_of store (kept.Values s) = body.Values (part s store.values.items)
body_of store (kept.State bits) = body.State bits
body_of store (kept.Events s) = body.Events (part s store.events)
body_of store (kept.Assigned ns cs) = body.Assigned (record { natives = map native_in (part ns store.events); counters = part cs store.counters.items })
body_of store (kept.Clash ns counters) = body.Clash (record { natives = map native_in (part ns store.events); counters = counters })
body_of store (kept.Register value) = body.Register value
body_of store (kept.Ran ran) = body.Ran ran
body_of store (kept.EventCode code) = body.EventCode code
body_of store (kept.EventName e) = body.EventName e
body_of store (kept.Threads threads) = body.Threads threads

-- the parts lie in the lists
abbrev pub HasParts : Store → Kept → Type 0
HasParts store (kept.Values s) = IsPart s store.values.items
HasParts store (kept.Events s) = IsPart s store.events
HasParts store (kept.Assigned ns cs) = IsPart ns store.events × IsPart cs store.counters.items
HasParts store (kept.Clash ns counters) = IsPart ns store.events
HasParts store k = ⊤

-- the parts lie in the lists, and are those of this body
pub record IsKeptAs (store : Store) (k : Kept) (b : Body) : Type 0 where
  pub parts : HasParts store k
  pub body : body_of store k ≡ b

-- the reply of a head
abbrev pub reply_of : Store → Head → Reply
reply_of store h = record { code = h.code; body = body_of store h.kept }

-- the parts of each head lie in the lists
abbrev pub AllHaveParts : Store → List Head → Type 0
AllHaveParts store heads = All (λ h. HasParts store h.kept) heads

-- nothing of the lists is lost
pub record Grew (before after : Store) : Type 0 where
  pub values : (more : List ℤ) × (after.values.items ≡ before.values.items ++ more)
  pub events : (more : List EventRef) × (after.events ≡ before.events ++ more)
  pub counters : (more : List ℕ) × (after.counters.items ≡ before.counters.items ++ more)
