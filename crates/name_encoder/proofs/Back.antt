-- A canonical name names its native.
use Rattle.name_encoder.proofs.Words.{◌≡◌, ◌∙◌, ◌+◌, ◌<◌, ◌≤◌, ◌==◌, ◌∷◌, ◌++◌, ℕ, Bool, true, false, List, [], Option, Some, None, Ok, length}
use Rattle.name_encoder.proofs.Words.{slice_get, refl, sym, ap, ap₂, subst, arith, codes, decimal, nat_lt, tests, AllByRecursion, map-append, IsEvent}
use Rattle.name_encoder.proofs.Words.{IsMask, IsTables, NoTwo, ComponentText, MaskText, Text, Digits, all-append, all-map, decimal-digits}
use Rattle.name_encoder.proofs.Words.{str_eq_ignore_ascii_case, passed_over, Mods, Native, NameFault, Split, attribute_of, split, bits_of, Found}
use Rattle.name_encoder.proofs.Words.{SaidAttribute, allowed_with, chosen, contradicts, event_allowed, event_fixed, fault_from, found_from, mods_of}
use Rattle.name_encoder.proofs.Words.{named_event, named_found, named_from, names, native_of, native_or, native_unless, said_of, saids_of}
use Rattle.name_encoder.proofs.Words.{umasks_fault, values_of, wanted_of, with_fixed, ReadsBack, canonical, free_mods, mods_text}
use Rattle.name_encoder.specs.declared.fault.NameFault.TheVariants as name_fault
use Rattle.name_encoder.proofs.Agreeing.{own-agrees}
use Rattle.name_encoder.proofs.Bounds.{cmask-bound}
use Rattle.name_encoder.proofs.Chosen.{Choice, choice-of, mods-own, named-own}
use Rattle.name_encoder.proofs.Faultless.{Lower, masks-faultless, mods-faultless}
use Rattle.name_encoder.proofs.Finds.{component-found, found-again, found-kept}
use Rattle.name_encoder.proofs.Fixing.{flags-back, mods-again, said-small, said_mods}
use Rattle.name_encoder.proofs.Saids.{chosen_words, mask_saids, masks-words, mod_saids, mod_words, mods-said, mods-words, word_if, words-said}
use Rattle.name_encoder.proofs.Splits.{InWord, IsWord, name-word, split-name, tail-append, tail_text}

-- ---- the canonical text and its parts

abbrev own_mods : Found → List Bool → Mods → Mods
own_mods f flags mods = said_mods (event_fixed f.event flags) mods

abbrev own_words : Found → List Bool → Mods → List Text
own_words f flags mods = chosen_words flags f.event.masks ++ mod_words (own_mods f flags mods)

own-text : (tables : List ComponentText) (f : Found) (flags : List Bool) (mods : Mods) → length flags ≡ length f.event.masks → slice_get tables f.comp ≡ Some f.component → slice_get f.component.events f.row ≡ Some f.event
    → canonical tables (native_of f flags mods) ≡ f.component.pmu ++ (58 ∷ 58 ∷ (f.event.name ++ tail_text (own_words f flags mods)))
unfolding canonical
own-text tables f flags mods n c e =
    rw (c, e) (ap (λ (t : Text). f.component.pmu ++ (58 ∷ 58 ∷ (f.event.name ++ t)))
    (ap₂ (λ (x y : Text). x ++ y) (masks-words flags f.event.masks)
    (ap (λ (bs : List Bool). mods_text (free_mods (event_fixed f.event bs) (with_fixed (event_fixed f.event flags) mods))) (flags-back flags f.event.masks n)
    ∙ mods-words (own_mods f flags mods))
    ∙ sym (tail-append (chosen_words flags f.event.masks) (mod_words (own_mods f flags mods)))))

words-plain : (flags : List Bool) (masks : List MaskText) → AllByRecursion IsMask masks → AllByRecursion IsWord (chosen_words flags masks)
unfolding chosen_words
words-plain [] masks h = tt
words-plain (b ∷ flags) [] h = tt
words-plain (true ∷ flags) (m ∷ masks) h = (name-word m.name h.0.named, words-plain flags masks h.1)
words-plain (false ∷ flags) (m ∷ masks) h = words-plain flags masks h.1

digits-word : (t : Text) → Digits t → AllByRecursion InWord t
digits-word t h = all-map (λ b. (48 ≤ b) × (b ≤ 57)) InWord t (λ b r. (grind (arith, tests, r), grind (arith, tests, r))) h

count-word : (n : ℕ) → n < 256 → IsWord (99 ∷ 61 ∷ decimal n)
count-word n lt = ((refl, refl), ((refl, refl), digits-word (decimal n) (decimal-digits n (omega (arith, lt)))))

word-plain : (b : Bool) (w : Text) → IsWord w → AllByRecursion IsWord (word_if b w)
word-plain true w h = (h, tt)
word-plain false w h = tt

mods-plain : (m : Mods) → m.cmask < 256 → AllByRecursion IsWord (mod_words m)
mods-plain m lt =
    all-append IsWord _ _ (word-plain m.user (codes "u") ((refl, refl), tt))
    (all-append IsWord _ _ (word-plain m.kernel (codes "k") ((refl, refl), tt))
    (all-append IsWord _ _ (word-plain m.edge (codes "e") ((refl, refl), tt))
    (all-append IsWord _ _ (word-plain m.invert (codes "i") ((refl, refl), tt))
    (word-plain (nat_lt 0 m.cmask) (99 ∷ 61 ∷ decimal m.cmask) (count-word m.cmask lt)))))

-- ---- what the attributes of the canonical name are judged as

own-saids : (masks : List MaskText) (flags : List Bool) (mods : Mods) → AllByRecursion IsMask masks
    → NoTwo (λ (a b : MaskText). str_eq_ignore_ascii_case a.name b.name) masks → length flags ≡ length masks
    → saids_of masks (chosen_words flags masks ++ mod_words mods) ≡ mask_saids 0 flags ++ mod_saids mods
own-saids masks flags mods h d n =
    map-append (λ (a : Text). said_of masks (attribute_of a)) (chosen_words flags masks) (mod_words mods)
    ∙ ap₂ (λ (x y : List SaidAttribute). x ++ y) (words-said masks [] masks flags refl d h n) (mods-said masks mods h)

masks-lower : (k : ℕ) (flags : List Bool) → AllByRecursion (Lower 0) (mask_saids k flags)
unfolding mask_saids
masks-lower k [] = tt
masks-lower k (true ∷ flags) = (tt, masks-lower (k + 1) flags)
masks-lower k (false ∷ flags) = masks-lower (k + 1) flags

own-faultless : (masks : List MaskText) (flags : List Bool) (mods : Mods) → mods.cmask < 256 → Choice masks flags → fault_from masks [] (mask_saids 0 flags ++ mod_saids mods) ≡ None
own-faultless masks flags mods lt c =
    masks-faultless masks c.F [] 0 flags (mod_saids mods) c.pairs tt c.all ∙ mods-faultless masks (mask_saids 0 flags) mods lt (masks-lower 0 flags)

-- the native of the same umasks and of the modifiers that are said is the same
native-again : (f : Found) (flags : List Bool) (mods : Mods) → native_of f flags (own_mods f flags mods) ≡ native_of f flags mods
native-again f flags mods =
    let native : Mods → Native = λ own. record {
      comp = f.comp;
      event = f.row;
      select = f.event.select;
      masks = bits_of flags;
      umask = values_of flags f.event.masks;
      mods = own;
      allowed = allowed_with own f.component.counters (event_allowed f.event flags);
    } in
    ap native (mods-again (event_fixed f.event flags) mods)

own-event : (counters : ℕ) (f : Found) (flags : List Bool) (mods : Mods) → mods.cmask < 256 → IsEvent counters f.event → Choice f.event.masks flags
    → (event_allowed f.event flags == 0) ≡ false → named_event f (saids_of f.event.masks (own_words f flags mods)) ≡ Ok (native_of f flags mods)
own-event counters f flags mods lt e c some =
    let masks = f.event.masks in
    let fixed = event_fixed f.event flags in
    let said = own_mods f flags mods in
    let small = said-small fixed mods lt in
    let agrees : contradicts fixed (wanted_of (mask_saids 0 flags ++ mod_saids said)) ≡ false = own-agrees fixed flags mods in
    rw (own-saids masks flags said e.each e.distinct c.len)
    (rw (own-faultless masks flags said small c, named-own flags said masks c.len, c.again, agrees, some)
    (ap (λ (m : Mods). Ok (native_of f flags m)) (mods-own flags said small) ∙ ap (λ (n : Native). Ok n) (native-again f flags mods)))

-- the canonical name of what an event and a choice of umasks and modifiers give
own-back : (tables : List ComponentText) (s : Split) (f : Found) (flags : List Bool) (mods : Mods) → IsTables tables → found_from s 0 tables ≡ Some f → mods.cmask < 256 → Choice f.event.masks flags
    → (event_allowed f.event flags == 0) ≡ false → ReadsBack tables (native_of f flags mods)
unfolding names
own-back tables s f flags mods t found lt c some =
    let kept = found-kept s 0 tables f found t.each in
    let places = component-found s 0 tables f found in
    let comp_at : slice_get tables f.comp ≡ Some f.component = subst (λ (n : ℕ). slice_get tables n ≡ Some f.component) (sym (places.comp_is ∙ omega arith)) places.component_at in
    let ws = own_words f flags mods in
    let plain = all-append IsWord (chosen_words flags f.event.masks) (mod_words (own_mods f flags mods)) (words-plain flags f.event.masks kept.1.each)
    (mods-plain (own_mods f flags mods) (said-small (event_fixed f.event flags) mods lt)) in
    let parts = split-name f.component.pmu f.event.name ws (word-all f.component.pmu (name-word f.component.pmu kept.0.pmu_named)) (name-word f.event.name kept.1.named) plain in
    let again = found-again s ws 0 tables f found t.each t.pmus_distinct in
    rw (own-text tables f flags mods c.len comp_at places.event_at, parts, again) (own-event (length f.component.counters) f flags mods lt kept.1 c some)
  where
    word-all : (w : Text) → IsWord w → AllByRecursion InWord w
    word-all [] h = absurd h
    word-all (b ∷ w) h = h

-- a canonical name names its native, for each native that some text names
pub names-back : (tables : List ComponentText) (text : Text) (n : Native) → IsTables tables → names tables text ≡ Ok n → ReadsBack tables n
unfolding names
names-back tables text n t e = go (found_from (split text) 0 tables) refl e
  where
    go : (o : Option Found) → found_from (split text) 0 tables ≡ o → named_found (split text) o ≡ Ok n → ReadsBack tables n
    go None found q = cc q
    go (Some f) found q = judge (fault_from f.event.masks [] said) (chosen f.event.masks (named_from said 0 f.event.masks)) refl refl q
      where
        said : List SaidAttribute
        said = saids_of f.event.masks (split text).attributes

        judge : (a : Option NameFault) (b : Option (List Bool)) → fault_from f.event.masks [] said ≡ a → chosen f.event.masks (named_from said 0 f.event.masks) ≡ b
            → native_or f (wanted_of said) (mods_of said) a b ≡ Ok n → ReadsBack tables n
        judge (Some x) b p r h = cc h
        judge None None p r h = cc h
        judge None (Some flags) p r h = together (umasks_fault f (wanted_of said) flags) refl h
          where
            together : (o : Option NameFault) → umasks_fault f (wanted_of said) flags ≡ o → native_unless f (mods_of said) flags o ≡ Ok n → ReadsBack tables n
            together (Some x) k q = cc q
            together None k q =
                let is : native_of f flags (mods_of said) ≡ n = cc q in
                let event = (found-kept (split text) 0 tables f found t.each).1 in
                let choice = choice-of f.event.masks said flags event.one_default p r in
                let agreed = passed_over (contradicts (event_fixed f.event flags) (wanted_of said)) name_fault.AttrSet _ k in
                let some = (passed_over (event_allowed f.event flags == 0) name_fault.FeatComb None agreed.1).0 in
                subst (ReadsBack tables) is (own-back tables (split text) f flags (mods_of said) t found (cmask-bound said) choice some)
