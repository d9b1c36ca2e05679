-- What can be added to a set of given events, and the text that says it: PAPI's papi_event_chooser(1), docs/FORMATS.md.
use Rattle.std.specs.Prelude.{ℕ, Bool, List, [], ◌∷◌, ◌++◌, Option, Some, None, Result, Ok, Err, codes, decimal, filter, is_none, is_ok, length}
use Rattle.std.specs.List.{flat_map}
use Rattle.component_table.specs.Catalogs.{CatalogView, looked_up}
use Rattle.component_table.specs.EventNames.{event_name}
use Rattle.event_sets.specs.Adding.{add_refusal}
use Rattle.event_sets.specs.AtRest.{AtRest, new_set, with_event}
use Rattle.event_sets.specs.declared.refusal.Refusal.{Refusal}
use Rattle.event_sets.specs.declared.refusal.Refusal.TheVariants.{Plain}
use Rattle.papi_base.specs.declared.code.Code.{Code}
use Rattle.papi_base.specs.declared.native.EventRef.{EventRef}
use Rattle.tool_output.specs.Replies.{Text, reply_text}
use Rattle.session_model.specs.Replies.{refused}
use Rattle.tool_output.specs.declared.chooser.candidates.Candidates.{Candidates}
use Rattle.tool_output.specs.Candidates.{candidates}

-- ---- the given events

-- a text that was refused, and how
pub record RefusedText : Type 0 where
  pub text : Text
  pub refusal : Refusal

-- the set that holds the given events, or the first of their texts that was refused
abbrev pub GivenSet : Type 0
GivenSet = Result AtRest RefusedText

-- the event of a text is refused: nothing more is added
abbrev pub refused_by : Text → Refusal → GivenSet
refused_by text refusal = Err (record { text = text; refusal = refusal })

-- the set after PAPI_add_event(3), or the text with the refusal of that call
abbrev pub taken_unless : Option Refusal → Text → AtRest → GivenSet
taken_unless None text s = Ok s
taken_unless (Some refusal) text s = refused_by text refusal

-- PAPI_add_event(3), of the event that a text names
abbrev pub with_named : CatalogView → Text → AtRest → Result EventRef Code → GivenSet
with_named catalog text s (Ok e) = taken_unless (add_refusal catalog.book e s) text (with_event catalog.book e s)
with_named catalog text s (Err code) = refused_by text (Plain code)

-- one text more; the first refusal ends it
abbrev pub with_text : CatalogView → GivenSet → Text → GivenSet
with_text catalog (Err refused) text = Err refused
with_text catalog (Ok s) text = with_named catalog text s (looked_up catalog text)

-- all texts in their order, up to the first that is refused
unfoldable pub with_texts : CatalogView → GivenSet → List Text → GivenSet
with_texts catalog given [] = given
with_texts catalog given (text ∷ texts) = with_texts catalog (with_text catalog given text) texts

-- a new set to which the events that texts name are added in order, or the first refusal
abbrev pub given_set : CatalogView → List Text → GivenSet
given_set catalog texts = with_texts catalog (Ok new_set) texts

-- ---- what can be added to it

-- a set takes an event if none of the refusals of PAPI_add_event(3) comes
abbrev pub takes : CatalogView → AtRest → EventRef → Bool
takes catalog s e = is_none (add_refusal catalog.book e s)

-- the candidates that the set still takes, in their order
abbrev pub taken : CatalogView → AtRest → Candidates → List EventRef
taken catalog s which = filter (takes catalog s) (candidates catalog which)

-- ---- the text

-- a line for each event
abbrev pub names_text : CatalogView → List EventRef → Text
names_text catalog events = flat_map (λ e. event_name catalog e ++ 10 ∷ []) events

-- the last line of a list, which says how many events it has
abbrev pub total_text : ℕ → Text
total_text total = codes "Total events: " ++ (decimal total ++ 10 ∷ [])

-- the list of some events
abbrev pub list_text : CatalogView → List EventRef → Text
list_text catalog events = names_text catalog events ++ total_text (length events)

-- the text, a colon, and the refusal as a reply has it
abbrev pub refused_text : CatalogView → RefusedText → Text
refused_text catalog r = r.text ++ (58 ∷ (reply_text catalog (refused r.refusal) ++ 10 ∷ []))

-- the list of what the set still takes, or the line of the text that was refused
abbrev pub text_of : CatalogView → Candidates → GivenSet → Text
text_of catalog which (Ok s) = list_text catalog (taken catalog s which)
text_of catalog which (Err r) = refused_text catalog r

-- what is said of the given texts
abbrev pub chooser_text : CatalogView → Candidates → List Text → Text
chooser_text catalog which texts = text_of catalog which (given_set catalog texts)

-- whether none of the given texts was refused
abbrev pub all_taken : CatalogView → List Text → Bool
all_taken catalog texts = is_ok (given_set catalog texts)
