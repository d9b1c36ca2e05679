-- The worked names over the lab unit.
use Rattle.name_encoder.proofs.Words.{◌≡◌, ℕ, List, [], ◌∷◌, Ok, Err, None, Result, Bool, true, false, refl, codes, map, ComponentText, CounterText}
use Rattle.name_encoder.proofs.Words.{EventText, MaskText, Text, decimal_in, hex_in, is_decimal, is_numeral, bits_of, Native, NameFault, attribute_of}
use Rattle.name_encoder.proofs.Words.{cut_at, split, cmask_value, common_of, event_from, fault_from, fixed_of, flag_value, found_from, meaning_of}
use Rattle.name_encoder.proofs.Words.{modifier_of, named_from, names, set_to, values_of, canonical, code64, flags_in, masks_text, mods_text, digits}
use Rattle.name_encoder.specs.declared.fault.NameFault.TheVariants as name_fault

unfoldable pub on_names : Unit {0}
unfolding bits_of decimal_in hex_in is_decimal is_numeral attribute_of cut_at split cmask_value common_of event_from fault_from fixed_of flag_value flags_in found_from meaning_of modifier_of named_from names set_to values_of canonical code64 masks_text mods_text digits
on_names = tt

abbrev counter : Text → ℕ → Bool → CounterText
counter name width fixed = record { name = name; width = width; fixed = fixed }

abbrev event : Text → ℕ → ℕ → List MaskText → EventText
event name select allowed masks = record { name = name; select = select; allowed = allowed; text = []; masks = masks }

abbrev umask : Text → ℕ → Bool → Bool → MaskText
umask name bits choice alone = record { name = name; bits = bits; preset_choice = choice; alone = alone; text = []; counters = None; fixed = None }

abbrev pub lab : List ComponentText
lab = record {
  name = codes "cpu";
  pmu = codes "lab";
  counters = counter (codes "P0") 16 false ∷ counter (codes "P1") 16 false ∷ counter (codes "F0") 16 true ∷ [];
  events = event (codes "INST_RETIRED") 0xc0 7 [] ∷ event (codes "CYCLES") 0x3c 3 []
      ∷ event (codes "BR_INST") 0xc4 1 (umask (codes "ALL") 1 true true ∷ umask (codes "TAKEN") 2 false true ∷ [])
      ∷ event (codes "BR_MISP") 0xc5 1 [] ∷ event (codes "CACHE") 0x2e 2 []
      ∷ event (codes "MEM") 0xd0 2 (umask (codes "LOADS") 1 false false ∷ umask (codes "STORES") 2 false false ∷ [])
      ∷ event (codes "REF") 0 4 [] ∷ [];
} ∷ record {
  name = codes "net";
  pmu = codes "wire";
  counters = counter (codes "M0") 48 false ∷ [];
  events = event (codes "PACKETS") 0x10 1 [] ∷ [];
} ∷ []

-- a line of the tool: the canonical name and the code, or the fault
abbrev encoded : Text → Result (Text × ℕ) NameFault
encoded text = go (names lab text)
  where
    go : Result Native NameFault → Result (Text × ℕ) NameFault
    go (Ok n) = Ok (canonical lab n, code64 n)
    go (Err f) = Err f

-- names with their canonical names and codes, and names that are refused alike
abbrev encodes : List (Text × (Text × ℕ)) → Type 0
encodes rows = map (λ (r : Text × (Text × ℕ)). encoded r.0) rows ≡ map (λ (r : Text × (Text × ℕ)). Ok r.1) rows

abbrev refuses : List (NameFault × List Text) → Type 0
refuses rows = map (λ (r : NameFault × List Text). map encoded r.1) rows ≡ map (λ (r : NameFault × List Text). map (λ text. Err r.0) r.1) rows

given : encodes ((codes "lab::INST_RETIRED", (codes "lab::INST_RETIRED", 0x5300c0))
    ∷ (codes "lab::INST_RETIRED:u", (codes "lab::INST_RETIRED:u", 0x5100c0))
    ∷ (codes "lab::INST_RETIRED:c=2:i", (codes "lab::INST_RETIRED:i:c=2", 0x2d300c0))
    ∷ (codes "inst_retired", (codes "lab::INST_RETIRED", 0x5300c0))
    ∷ (codes "cpu:::BR_INST", (codes "lab::BR_INST:ALL", 0x5301c4))
    ∷ (codes "MEM:STORES:LOADS", (codes "lab::MEM:LOADS:STORES", 0x5303d0))
    ∷ (codes "CPU:::Lab::cycles:E=y:C=0x0F", (codes "lab::CYCLES:e:c=15", 0xf57003c))
    ∷ (codes "lab::REF:c=0:i=n:u=F", (codes "lab::REF", 0x530000))
    -- names by chance, as a separate program answers them
    ∷ (codes "wire::PACKETS", (codes "wire::PACKETS", 5439504))
    ∷ (codes "cycles:i=y:c=0", (codes "lab::CYCLES:i", 13828156))
    ∷ (codes "BR_INST:i:u=0", (codes "lab::BR_INST:ALL:i", 13828548))
    ∷ (codes "REF:u=0:c=0", (codes "lab::REF", 5439488))
    ∷ [])
unfolding on_names
given = refl

refused : refuses ((name_fault.Umask, codes "MEM" ∷ [])
    ∷ (name_fault.AttrVal, codes "INST_RETIRED:c=256" ∷ codes "BR_INST:ALL=" ∷ codes "BR_INST:all=1" ∷ codes "REF:c=01" ∷ codes "REF:c=0X1" ∷ [])
    ∷ (name_fault.AttrSet, codes "INST_RETIRED:u:u" ∷ codes "INST_RETIRED:u=0:u" ∷ [])
    ∷ (name_fault.FeatComb, codes "BR_INST:ALL:TAKEN" ∷ [])
    ∷ (name_fault.Attr, codes "INST_RETIRED:x" ∷ codes "INST_RETIRED:" ∷ codes "INST_RETIRED:=1" ∷ [])
    ∷ (name_fault.NotFound, codes "NOPE" ∷ codes "cpu::::CYCLES" ∷ codes "lab::PACKETS" ∷ codes "" ∷ [])
    -- names by chance, as a separate program answers them
    ∷ (
      name_fault.NotFound,
      codes "net:::BR_INST:x:k" ∷ codes "net:::INST_RETIRED:c=0xFf:k" ∷ codes "NOPE:e:c=0x" ∷ codes "::cycles:x" ∷
          codes "cpu:::wire::INST_RETIRED:STORES:u=N" ∷ codes ":::BR_INST:i=y" ∷ codes "::REF:i=f:" ∷ codes ":::cycles:k:LOADS=1" ∷
          codes "wire:::loads:i=y:K=t" ∷ codes "net::::e=2:u=0" ∷ codes "wire::cycles:C=255:TAKEN" ∷ codes "x::PACKETS:e=2:C=255:LOADS=1" ∷
          codes "net:::BR_INST:i=y:k" ∷ codes "cpu:::wire::cycles:STORES:c=1=2" ∷ codes "::" ∷ codes ":::=" ∷ codes "CPU:::LAB::PACKETS" ∷
          codes "x::PACKETS:LOADS=1" ∷ codes "wire::REF:u=" ∷ codes "wire::NOPE:ALL:e" ∷ codes "lab:::loads:c=007" ∷ codes "lab::NOPE:c=007:=" ∷
          codes "CPU:::LAB::PACKETS:u=N:c=0x:c=2" ∷ codes "cpu:::wire::MEM" ∷ codes "x::BR_INST:C=255" ∷ codes "::PACKETS:=" ∷
          codes ":::INST_RETIRED:K=t:" ∷ codes ":::NOPE:u=N:u=N" ∷ codes ":u=N:k:c=0xFf" ∷ codes "net:::INST_RETIRED" ∷ codes "::INST_RETIRED" ∷
          codes "wire::NOPE:x" ∷ codes "cpu:::PACKETS:u=0:ALL" ∷ codes "x::REF" ∷ codes "x::BR_INST:u:c=0xFf" ∷ codes ":::PACKETS:=" ∷
          codes ":::INST_RETIRED:C=255:x" ∷ codes "net:::MEM:loads:K=t" ∷ codes ":::PACKETS:c=0x:LOADS=1:c=1=2" ∷ codes "wire::MEM:u=:c=1=2" ∷
          codes "wire::MEM:ALL:u=0" ∷ [],
    )
    ∷ (name_fault.Umask, codes "mem" ∷ codes "mem:k:i=f" ∷ codes "lab::mem" ∷ codes "MEM:c=0:i" ∷ [])
    ∷ (
      name_fault.Attr,
      codes "lab::cycles:STORES:x" ∷ codes "cpu:::MEM:=" ∷ codes "net:::PACKETS:u=0:LOADS=1:ALL" ∷ codes "REF:=:" ∷
          codes "INST_RETIRED:=:C=255:x" ∷ codes "BR_INST:loads:u=0" ∷ [],
    )
    ∷ (name_fault.AttrVal, codes "BR_INST:c=0x" ∷ codes "cycles:e=2:ALL" ∷ codes "lab::cycles:c:u=:c=007" ∷ [])
    ∷ [])
unfolding on_names
refused = refl
