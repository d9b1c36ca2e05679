-- The tables of some rows and of one more.
use Rattle.event_tables.proofs.Words.{◌≡◌, ◌∙◌, ◌∷◌, ◌++◌, ℕ, List, [], refl, sym, ap, ap₂, append_assoc, append-nil, Text, ComponentText}
use Rattle.event_tables.proofs.Words.{CounterText, EventText, MaskText, Line, skipped, bad, component, counter, event, umask, umask_counters}
use Rattle.event_tables.proofs.Words.{umask_modifiers, bits_of, component_of, components_in, counter_row, counters_in, event_row, events_in, fixing}
use Rattle.event_tables.proofs.Words.{masks_in, on_last, restricted, grown, on_last_mask, with_line, with_mask}

-- what a row adds to the counters of its component
abbrev counter_of : Line → List CounterText
counter_of (counter n w f) = counter_row n w f ∷ []
counter_of _ = []

-- what a row makes of the umasks above it, which has these counters above it
abbrev masks_after : Line → List CounterText → List MaskText → List MaskText
masks_after (umask m) counters masks = masks ++ m ∷ []
masks_after (umask_counters ns) counters masks = on_last (restricted (bits_of counters ns)) masks
masks_after (umask_modifiers f) counters masks = on_last (fixing f) masks
masks_after _ counters masks = masks

counters-first : (rows : List Line) (line : Line) → components_in rows ≡ [] → counters_in (rows ++ line ∷ []) ≡ counters_in rows ++ counter_of line
unfolding components_in counters_in
counters-first [] skipped e = refl
counters-first [] line e = refl
counters-first (component n p ∷ rows) line e = cc e
counters-first (counter n w f ∷ rows) line e = ap (λ (t : List CounterText). counter_row n w f ∷ t) (counters-first rows line e)
counters-first (l ∷ rows) line e = counters-first rows line e

-- the umasks of an event that no other follows
masks-first : (above : List CounterText) (masks : List MaskText) (rows : List Line) (line : Line) → components_in rows ≡ [] → events_in above rows ≡ []
    → masks_in above masks (rows ++ line ∷ []) ≡ masks_after line (above ++ counters_in rows) (masks_in above masks rows)
unfolding components_in counters_in events_in masks_in
masks-first above masks [] (umask_counters ns) e q = ap (λ (cs : List CounterText). on_last (restricted (bits_of cs ns)) masks) (sym (append-nil above))
masks-first above masks [] line e q = refl
masks-first above masks (component n p ∷ rows) line e q = cc e
masks-first above masks (counter n w f ∷ rows) line e q =
    masks-first (above ++ counter_row n w f ∷ []) masks rows line e q
    ∙ ap (λ (cs : List CounterText). masks_after line cs (masks_in (above ++ counter_row n w f ∷ []) masks rows)) (append_assoc above (counter_row n w f ∷ []) (counters_in rows))
masks-first above masks (event n s ns t ∷ rows) line e q = cc q
masks-first above masks (umask m ∷ rows) line e q = masks-first above (masks ++ m ∷ []) rows line e q
masks-first above masks (umask_counters ns ∷ rows) line e q = masks-first above (on_last (restricted (bits_of above ns)) masks) rows line e q
masks-first above masks (umask_modifiers f ∷ rows) line e q = masks-first above (on_last (fixing f) masks) rows line e q
masks-first above masks (l ∷ rows) line e q = masks-first above masks rows line e q

masks-later : (above : List CounterText) (masks : List MaskText) (rows more : List Line) (x : EventText) (xs : List EventText) → events_in above rows ≡ x ∷ xs
    → masks_in above masks (rows ++ more) ≡ masks_in above masks rows
unfolding events_in masks_in
masks-later above masks [] more x xs q = cc q
masks-later above masks (skipped ∷ rows) more x xs q = masks-later above masks rows more x xs q
masks-later above masks (bad ∷ rows) more x xs q = masks-later above masks rows more x xs q
masks-later above masks (counter n w f ∷ rows) more x xs q = masks-later _ masks rows more x xs q
masks-later above masks (umask m ∷ rows) more x xs q = masks-later above (masks ++ m ∷ []) rows more x xs q
masks-later above masks (umask_counters ns ∷ rows) more x xs q = masks-later above (on_last (restricted (bits_of above ns)) masks) rows more x xs q
masks-later above masks (umask_modifiers f ∷ rows) more x xs q = masks-later above (on_last (fixing f) masks) rows more x xs q
masks-later above masks rows more x xs q = refl

-- what a row makes of the events of its component, which has these counters above it
abbrev events_after : Line → List CounterText → List EventText → List EventText
events_after (event n s ns t) counters events = events ++ event_row counters n s ns t [] ∷ []
events_after (umask m) counters events = on_last (with_mask m) events
events_after (umask_counters ns) counters events = on_last (on_last_mask (restricted (bits_of counters ns))) events
events_after (umask_modifiers f) counters events = on_last (on_last_mask (fixing f)) events
events_after _ counters events = events

-- an event in front, with its umasks, if a row joins those after it
front : (above : List CounterText) (rows : List Line) (line : Line) (n : Text) (s : ℕ) (ns : List Text) (t : Text) → components_in rows ≡ []
    → events_in above (rows ++ line ∷ []) ≡ events_after line (above ++ counters_in rows) (events_in above rows)
    → event_row above n s ns t (masks_in above [] (rows ++ line ∷ [])) ∷ events_in above (rows ++ line ∷ [])
    ≡ events_after line (above ++ counters_in rows) (event_row above n s ns t (masks_in above [] rows) ∷ events_in above rows)
unfolding on_last
front above rows line n s ns t e more = go line (events_in above rows) refl more
  where
    row : List MaskText → EventText
    row ms = event_row above n s ns t ms

    go : (l : Line) (es : List EventText) → events_in above rows ≡ es
        → events_in above (rows ++ l ∷ []) ≡ events_after l (above ++ counters_in rows) es
        → row (masks_in above [] (rows ++ l ∷ [])) ∷ events_in above (rows ++ l ∷ []) ≡ events_after l (above ++ counters_in rows) (row (masks_in above [] rows) ∷ es)
    go skipped [] q m = ap₂ (λ (ms : List MaskText) (t : List EventText). row ms ∷ t) (masks-first above [] rows skipped e q) m
    go l [] q m = ap₂ (λ (ms : List MaskText) (t : List EventText). row ms ∷ t) (masks-first above [] rows l e q) m
    go (umask k) (x ∷ xs) q m = ap₂ (λ (ms : List MaskText) (t : List EventText). row ms ∷ t) (masks-later above [] rows _ x xs q) m
    go l (x ∷ xs) q m = ap₂ (λ (ms : List MaskText) (t : List EventText). row ms ∷ t) (masks-later above [] rows _ x xs q) m

events-first : (above : List CounterText) (rows : List Line) (line : Line) → components_in rows ≡ []
    → events_in above (rows ++ line ∷ []) ≡ events_after line (above ++ counters_in rows) (events_in above rows)
unfolding components_in counters_in events_in masks_in on_last
events-first above [] (event n s ns t) e = ap (λ (cs : List CounterText). event_row cs n s ns t [] ∷ []) (sym (append-nil above))
events-first above [] line e = refl
events-first above (component n p ∷ rows) line e = cc e
events-first above (counter n w f ∷ rows) line e =
    events-first (above ++ counter_row n w f ∷ []) rows line e
    ∙ ap (λ (cs : List CounterText). events_after line cs (events_in (above ++ counter_row n w f ∷ []) rows)) (append_assoc above (counter_row n w f ∷ []) (counters_in rows))
events-first above (event n s ns t ∷ rows) line e = front above rows line n s ns t e (events-first above rows line e)
events-first above (l ∷ rows) line e = events-first above rows line e

-- rows after another component
counters-later : (rows more : List Line) (c : ComponentText) (cs : List ComponentText) → components_in rows ≡ c ∷ cs → counters_in (rows ++ more) ≡ counters_in rows
unfolding components_in counters_in
counters-later [] more c cs e = cc e
counters-later (component n p ∷ rows) more c cs e = refl
counters-later (counter n w f ∷ rows) more c cs e = ap (λ (t : List CounterText). counter_row n w f ∷ t) (counters-later rows more c cs e)
counters-later (l ∷ rows) more c cs e = counters-later rows more c cs e

masks-after : (above : List CounterText) (masks : List MaskText) (rows more : List Line) (c : ComponentText) (cs : List ComponentText) → components_in rows ≡ c ∷ cs
    → masks_in above masks (rows ++ more) ≡ masks_in above masks rows
unfolding components_in masks_in
masks-after above masks [] more c cs e = cc e
masks-after above masks (component n p ∷ rows) more c cs e = refl
masks-after above masks (counter n w f ∷ rows) more c cs e = masks-after _ masks rows more c cs e
masks-after above masks (event n s ns t ∷ rows) more c cs e = refl
masks-after above masks (umask m ∷ rows) more c cs e = masks-after above (masks ++ m ∷ []) rows more c cs e
masks-after above masks (umask_counters ns ∷ rows) more c cs e = masks-after above (on_last (restricted (bits_of above ns)) masks) rows more c cs e
masks-after above masks (umask_modifiers f ∷ rows) more c cs e = masks-after above (on_last (fixing f) masks) rows more c cs e
masks-after above masks (l ∷ rows) more c cs e = masks-after above masks rows more c cs e

events-later : (above : List CounterText) (rows more : List Line) (c : ComponentText) (cs : List ComponentText) → components_in rows ≡ c ∷ cs → events_in above (rows ++ more) ≡ events_in above rows
unfolding components_in events_in
events-later above [] more c cs e = cc e
events-later above (component n p ∷ rows) more c cs e = refl
events-later above (counter n w f ∷ rows) more c cs e = events-later _ rows more c cs e
events-later above (event n s ns t ∷ rows) more c cs e =
    ap₂ (λ (ms : List MaskText) (t' : List EventText). event_row above n s ns t ms ∷ t') (masks-after above [] rows more c cs e) (events-later above rows more c cs e)
events-later above (l ∷ rows) more c cs e = events-later above rows more c cs e

component_with : Text → Text → List CounterText → List EventText → ComponentText
component_with n p cs es = record { name = n; pmu = p; counters = cs; events = es }

grown-first : (n p : Text) (rows : List Line) (line : Line) → components_in rows ≡ [] → component_of n p (rows ++ line ∷ []) ≡ grown line (component_of n p rows)
unfolding component_with
grown-first n p rows (counter a b c) e = ap₂ (component_with n p) (counters-first rows (counter a b c) e) (events-first [] rows (counter a b c) e)
grown-first n p rows line e = ap₂ (component_with n p) (counters-first rows line e ∙ append-nil _) (events-first [] rows line e)

grown-later : (n p : Text) (rows more : List Line) (c : ComponentText) (cs : List ComponentText) → components_in rows ≡ c ∷ cs → component_of n p (rows ++ more) ≡ component_of n p rows
unfolding component_with
grown-later n p rows more c cs e = ap₂ (component_with n p) (counters-later rows more c cs e) (events-later [] rows more c cs e)

-- a row that is not a component
inner-more : (rows : List Line) (line : Line) → components_in (line ∷ []) ≡ [] → components_in (rows ++ line ∷ []) ≡ on_last (grown line) (components_in rows)
unfolding components_in on_last
inner-more [] line k = k
inner-more (component n p ∷ rows) line k = go (components_in rows) refl (inner-more rows line k)
  where
    go : (cs : List ComponentText) → components_in rows ≡ cs → components_in (rows ++ line ∷ []) ≡ on_last (grown line) cs
        → component_of n p (rows ++ line ∷ []) ∷ components_in (rows ++ line ∷ []) ≡ on_last (grown line) (component_of n p rows ∷ cs)
    go [] e m = ap₂ (λ (c : ComponentText) (t : List ComponentText). c ∷ t) (grown-first n p rows line e) m
    go (c ∷ cs) e m = ap₂ (λ (c : ComponentText) (t : List ComponentText). c ∷ t) (grown-later n p rows (line ∷ []) c cs e) m
inner-more (l ∷ rows) line k = inner-more rows line k

outer-more : (rows : List Line) (a b : Text) → components_in (rows ++ component a b ∷ []) ≡ components_in rows ++ component_of a b [] ∷ []
unfolding components_in
outer-more [] a b = refl
outer-more (component n p ∷ rows) a b = go (components_in rows) refl (outer-more rows a b)
  where
    go : (cs : List ComponentText) → components_in rows ≡ cs → components_in (rows ++ component a b ∷ []) ≡ cs ++ component_of a b [] ∷ []
        → component_of n p (rows ++ component a b ∷ []) ∷ components_in (rows ++ component a b ∷ []) ≡ component_of n p rows ∷ (cs ++ component_of a b [] ∷ [])
    go [] e m = ap₂ (λ (c : ComponentText) (t : List ComponentText). c ∷ t) (grown-first n p rows (component a b) e) m
    go (c ∷ cs) e m = ap₂ (λ (c : ComponentText) (t : List ComponentText). c ∷ t) (grown-later n p rows (component a b ∷ []) c cs e) m
outer-more (l ∷ rows) a b = outer-more rows a b

pub components-more : (rows : List Line) (line : Line) → components_in (rows ++ line ∷ []) ≡ with_line (components_in rows) line
unfolding components_in
components-more rows (component a b) = outer-more rows a b
components-more rows line = inner-more rows line refl
