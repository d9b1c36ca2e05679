-- Unit files that are written out, each with its tables or its first fault.
use Rattle.event_tables.proofs.Words.{◌≡◌, ℕ, List, [], ◌∷◌, Option, Some, None, true, false, refl, codes, map, csv_on_literals, rows_of, Text}
use Rattle.event_tables.proofs.Words.{decimal_in, hex_in, is_decimal, is_name, is_numeral, text_at, trimmed, without_front, fixed_mods, fixed_mods_of}
use Rattle.event_tables.proofs.Words.{flags_of, line_of, words_of, first_fault, cause_in, components_in, counters_in, events_in, masks_in, on_last}
use Rattle.event_tables.proofs.Words.{unit_fault, unit_tables, RowCause}
use Rattle.event_tables.specs.declared.fault.RowCause.TheVariants as cause

unfoldable on_units : Unit {0}
unfolding csv_on_literals rows_of decimal_in hex_in is_decimal is_name is_numeral text_at trimmed without_front fixed_mods_of flags_of line_of words_of cause_in components_in counters_in events_in first_fault masks_in on_last unit_fault unit_tables
on_units = tt

-- the rows of the file are numbered, and a blank line or a comment is not one; a quote is a plain byte
numbers : rows_of (codes "a\n\n# b\n\r\n ,c\n # d\n\"e,f\"\n")
    ≡ (codes "a" ∷ []) ∷ (codes " " ∷ codes "c" ∷ []) ∷ (codes " # d" ∷ []) ∷ (codes "\"e" ∷ codes "f\"" ∷ []) ∷ []
unfolding on_units
numbers = refl

lab : unit_tables (codes "COMPONENT,cpu,lab\nCOUNTER, P0 ,16,P\n# c\nCOUNTER,F0,16,F\nEVENT,BR,c4,P0  F0,Branches\nUMASK,ALL,01,dn,All\nUMASK_COUNTERS,F0\nUMASK,TAKEN,02,-,\nUMASK_MODIFIERS,e,2\nCOMPONENT,net,wire\n")
    ≡ record {
      name = codes "cpu";
      pmu = codes "lab";
      counters = record { name = codes "P0"; width = 16; fixed = false } ∷ record { name = codes "F0"; width = 16; fixed = true } ∷ [];
      events = record {
        name = codes "BR";
        select = 0xc4;
        allowed = 3;
        text = codes "Branches";
        masks = record { name = codes "ALL"; bits = 1; preset_choice = true; alone = true; text = codes "All"; counters = Some 2; fixed = None }
            ∷ record { name = codes "TAKEN"; bits = 2; preset_choice = false; alone = false; text = []; counters = None; fixed = Some (fixed_mods true false 2) } ∷ [];
      } ∷ [];
    } ∷ record { name = codes "net"; pmu = codes "wire"; counters = []; events = [] } ∷ []
unfolding on_units
lab = refl

-- units with their first fault
abbrev Row : Type 0
Row = Text × Option (ℕ × RowCause)

-- a skipped row is numbered, a comment and a blank line are not; a umask belongs to an event of the last component; a repeated counter takes precedence over its width;
-- component names are compared without regard to case, counter names are not
faults : (let rows : List Row = (codes "COMPONENT,cpu,lab\nCOUNTER,P0,8,P\n", Some (2, cause.BadWidth))
    ∷ (codes "COMPONENT,cpu,lab\n\n# x\n # y\nCOUNTER,P0,08,P\n", Some (3, cause.BadRow))
    ∷ (codes "COUNTER,P0,8,P\n", Some (1, cause.BadRow))
    ∷ (codes "COMPONENT,a,b\nCOUNTER,P,16,P\nEVENT,E,1,P,\nCOMPONENT,c,d\nUMASK,M,1,-,\n", Some (5, cause.BadRow))
    ∷ (codes "COMPONENT,cpu,lab\nCOUNTER,P0,16,P\nCOUNTER,P0,8,P\n", Some (3, cause.RepeatedName))
    ∷ (codes "COMPONENT,cpu,lab\nCOUNTER,P0,16,P\nCOUNTER,p0,16,P\nCOMPONENT,CPU,x\n", Some (4, cause.RepeatedName))
    ∷ (codes "COMPONENT,cpu,lab\nCOUNTER,P0,16,P\nEVENT,E,1,p0,\n", Some (3, cause.UnknownCounter))
    ∷ (codes "COMPONENT,cpu,lab\nCOUNTER,P0,16,P\nEVENT,E,1,P0\tP0,\n", Some (3, cause.BadRow))
    ∷ (codes "COMPONENT,cpu,lab\nCOUNTER,P0,16,P\nEVENT,E,1,P0,\nUMASK,U,1,-,\n", Some (4, cause.RepeatedName))
    ∷ (codes "COMPONENT,cpu,lab\nCOUNTER,P0,16,P\nEVENT,E,1,P0,\nUMASK,A,1,d,\nUMASK,A,1,nd,\n", Some (5, cause.BadRow))
    -- a row of a umask's counters or modifiers stands below it, once, and its counters are of its event
    ∷ (codes "COMPONENT,cpu,lab\nCOUNTER,P0,16,P\nEVENT,E,1,P0,\nUMASK_COUNTERS,P0\n", Some (4, cause.BadRow))
    ∷ (codes "COMPONENT,cpu,lab\nCOUNTER,P0,16,P\nEVENT,E,1,P0,\nUMASK,A,1,d,\nUMASK_COUNTERS,P0\nUMASK_MODIFIERS,-,1\nUMASK_COUNTERS,P0\n", Some (7, cause.BadRow))
    ∷ (codes "COMPONENT,cpu,lab\nCOUNTER,P0,16,P\nCOUNTER,P1,16,P\nEVENT,E,1,P0,\nUMASK,A,1,d,\nUMASK_COUNTERS,P1\n", Some (6, cause.UnknownCounter))
    ∷ (codes "COMPONENT,cpu,lab\nCOUNTER,P0,16,P\nEVENT,E,1,P0,\nUMASK,A,1,d,\nUMASK_COUNTERS,P0 P2\n", Some (5, cause.UnknownCounter))
    ∷ (codes "COMPONENT,cpu,lab\nCOUNTER,P0,16,P\nEVENT,E,1,P0,\nUMASK,A,1,d,\nUMASK_MODIFIERS,e,1\nUMASK_MODIFIERS,i,1\n", Some (6, cause.BadRow))
    ∷ (codes "COMPONENT,cpu,lab\nCOUNTER,P0,16,P\nEVENT,E,1,P0,\nUMASK,A,1,d,\nUMASK_MODIFIERS,ee,1\n", Some (5, cause.BadRow))
    ∷ (codes "COMPONENT,cpu,lab\nCOUNTER,P0,16,P\nEVENT,E,1,P0,\nUMASK,A,1,d,\nUMASK_MODIFIERS,-,0\n", Some (5, cause.BadRow))
    ∷ (codes "COMPONENT,cpu,lab\nCOUNTER,P0,16,P\nEVENT,E,1,P0,\nUMASK,A,1,d,\nUMASK_MODIFIERS,e,256\n", Some (5, cause.BadRow))
    ∷ ([], None)
    ∷ [] in map (λ (r : Row). unit_fault r.0) rows ≡ map (λ (r : Row). r.1) rows)
unfolding on_units
faults = refl
