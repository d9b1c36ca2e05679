-- The unit of the soak, a unit file: docs/FORMATS.md.
use Rattle.std.specs.Prelude.{List, [], ◌∷◌, ◌++◌, codes}
use Rattle.std.specs.List.{flat_map}
use Rattle.soak_input.specs.Streams.{Text}

-- the rows of examples/lab.unit: `cpu` with three counters and seven events, and `net` with one of each
unfoldable pub unit_rows : List Text
unit_rows =
    codes "COMPONENT,cpu,lab"
    ∷ codes "COUNTER,P0,16,P"
    ∷ codes "COUNTER,P1,16,P"
    ∷ codes "COUNTER,F0,16,F"
    ∷ codes "EVENT,INST_RETIRED,c0,P0 P1 F0,Instructions retired"
    ∷ codes "EVENT,CYCLES,3c,P0 P1,Core cycles"
    ∷ codes "EVENT,BR_INST,c4,P0,Branch instructions"
    ∷ codes "UMASK,ALL,01,dn,All branches"
    ∷ codes "UMASK,TAKEN,02,n,Taken branches"
    ∷ codes "EVENT,BR_MISP,c5,P0,Mispredicted branches"
    ∷ codes "EVENT,CACHE,2e,P1,Cache references"
    ∷ codes "EVENT,MEM,d0,P1,Memory operations"
    ∷ codes "UMASK,LOADS,01,-,Loads"
    ∷ codes "UMASK,STORES,02,-,Stores"
    ∷ codes "EVENT,REF,00,F0,Reference cycles"
    ∷ codes "COMPONENT,net,wire"
    ∷ codes "COUNTER,M0,48,P"
    ∷ codes "EVENT,PACKETS,10,M0,Packets seen"
    ∷ []

-- each row with a newline
unfoldable pub unit_text : Text
unit_text = flat_map (λ row. row ++ codes "\n") unit_rows
