-- The text of user events, row by row.
use Rattle.user_events.proofs.Words.{◌≡◌, ◌∙◌, ◌+◌, ◌<◌, ◌≤◌, ◌∷◌, ◌++◌, ℕ, List, [], length, map, get_or, take, refl, sym, ap, append_assoc}
use Rattle.user_events.proofs.Words.{append-nil, map-append, take_all, take_more, rows_text, Text, TableView, table_text, rows-append, EventView}
use Rattle.user_events.proofs.Words.{ExtendedView, event_view, event_rows, extended_text, named_rows, UserEvent}

-- ---- the rows of some user events

events-append : (xs ys : List EventView) → event_rows (xs ++ ys) ≡ event_rows xs ++ event_rows ys
unfolding event_rows
events-append [] ys = refl
events-append (x ∷ xs) ys =
    ap (λ (rows : List (List Text)). named_rows x.name x.entry ++ rows) (events-append xs ys) ∙ sym (append_assoc (named_rows x.name x.entry) (event_rows xs) (event_rows ys))

one-event : (x : EventView) → event_rows (x ∷ []) ≡ named_rows x.name x.entry
unfolding event_rows
one-event x = append-nil (named_rows x.name x.entry)

-- the text of a table's presets and of its first user events
abbrev pub text_to : TableView → List UserEvent → ℕ → Text
text_to t events i = table_text t ++ rows_text (event_rows (map event_view (take i events)))

pub begun : (t : TableView) (events : List UserEvent) (text : Text) → text ≡ table_text t → text ≡ text_to t events 0
unfolding event_rows rows_text
begun t events text is = is ∙ sym (append-nil (table_text t))

pub one-more : (t : TableView) (events : List UserEvent) (i : ℕ) (e : UserEvent) (old new name : Text) → i < length events → e ≡ get_or events i e → name ≡ (event_view e).name
    → new ≡ old ++ rows_text (named_rows name e.entry) → old ≡ text_to t events i → new ≡ text_to t events (i + 1)
one-more t events i e old new name lt at named are before =
    let x = event_view e in
    let rows : event_rows (map event_view (take (i + 1) events)) ≡ event_rows (map event_view (take i events)) ++ named_rows x.name x.entry =
    ap (λ ys. event_rows (map event_view ys)) (take_more events i e lt ∙ ap (λ y. take i events ++ (y ∷ [])) (sym at))
    ∙ ap event_rows (map-append event_view (take i events) (e ∷ []))
    ∙ events-append (map event_view (take i events)) (x ∷ [])
    ∙ ap (λ (r : List (List Text)). event_rows (map event_view (take i events)) ++ r) (one-event x) in
    are ∙ ap (λ (n : Text). old ++ rows_text (named_rows n e.entry)) named
    ∙ ap (λ (t : Text). t ++ rows_text (named_rows x.name x.entry)) before
    ∙ append_assoc (table_text t) (rows_text (event_rows (map event_view (take i events)))) (rows_text (named_rows x.name x.entry))
    ∙ ap (λ (u : Text). table_text t ++ u) (sym (ap rows_text rows ∙ rows-append (event_rows (map event_view (take i events))) (named_rows x.name x.entry)))

pub ended : (x : ExtendedView) (t : TableView) (events : List UserEvent) (i : ℕ) (text : Text) → t ≡ x.presets → map event_view events ≡ x.events
    → length events ≤ i → text ≡ text_to t events i → text ≡ extended_text x
unfolding extended_text
ended x t events i text is are le h =
    h ∙ ap (λ (es : List UserEvent). table_text t ++ rows_text (event_rows (map event_view es))) (take_all i events le)
    ∙ ap (λ (es : List EventView). table_text t ++ rows_text (event_rows es)) are
    ∙ ap (λ (v : TableView). table_text v ++ rows_text (event_rows x.events)) is
