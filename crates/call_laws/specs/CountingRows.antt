-- What sets count. Worked rows over the lab unit, for PAPI_read(3), PAPI_set_domain(3).
use Rattle.std.specs.Prelude.{pos, [], ◌∷◌, ◌≡◌}
use Rattle.call_type.specs.declared.call.Call.TheVariants.{Create, Add, SetDomain, Start, Stop, Read, Accum, Reset, Raw, Run}
use Rattle.call_laws.specs.Lab.{inst, inst_k, cycles, masked, inverted, edged, named, occ_at, occ, kernel_occ, steady, ok, number, values, ran, register, replies}

-- one event: create, add, start, run, read, stop
abbrev pub FirstRun : Type 0
FirstRun = replies (occ_at 0xc0 0 1 0x400000 0 ∷ occ_at 0xc0 0 1 0x400004 1 ∷ [])
    (Create ∷ Add 0 (named inst) ∷ Start 0 ∷ Run 3 ∷ Read 0 ∷ Run 1 ∷ Stop 0 ∷ [])
    ≡ number 0 ∷ ok ∷ ok ∷ ran 2 0 ∷ values (pos 2 ∷ []) ∷ ran 0 0 ∷ values (pos 2 ∷ []) ∷ []

-- a register of 16 bits wraps, and the count does not
abbrev pub RegisterWraps : Type 0
RegisterWraps = replies (steady 300 0xc0 255 1 0)
    (Create ∷ Add 0 (named inst) ∷ Start 0 ∷ Run 280 ∷ Run 20 ∷ Raw 0 0 ∷ Read 0 ∷ Stop 0 ∷ [])
    ≡ number 0 ∷ ok ∷ ok ∷ ran 280 0 ∷ ran 20 0 ∷ register 10964 ∷ values (pos 76500 ∷ []) ∷ values (pos 76500 ∷ []) ∷ []

-- read leaves the counts; accum and reset zero them
abbrev pub ReadAccumReset : Type 0
ReadAccumReset = replies (occ 0xc0 5 0 ∷ occ 0xc0 7 1 ∷ occ 0xc0 9 2 ∷ [])
    (Create ∷ Add 0 (named inst) ∷ Start 0 ∷ Run 1 ∷ Accum 0 ∷ Run 1 ∷ Accum 0 ∷ Run 1 ∷ Read 0 ∷ Stop 0 ∷ Read 0 ∷ Reset 0 ∷ Read 0 ∷ [])
    ≡ number 0 ∷ ok ∷ ok ∷ ran 1 0 ∷ values (pos 5 ∷ []) ∷ ran 1 0 ∷ values (pos 12 ∷ []) ∷ ran 1 0 ∷ values (pos 9 ∷ []) ∷ values (pos 9 ∷ [])
    ∷ values (pos 9 ∷ []) ∷ ok ∷ values (pos 0 ∷ []) ∷ []

-- a native with a privilege of its own, and one that follows the domain
abbrev pub Privilege : Type 0
Privilege = replies (occ 0xc0 1 0 ∷ kernel_occ 0xc0 2 1 ∷ occ 0xc0 1 2 ∷ kernel_occ 0xc0 2 3 ∷ [])
    (Create ∷ Add 0 (named inst) ∷ Add 0 (named inst_k) ∷ Start 0 ∷ Run 2 ∷ Stop 0 ∷ SetDomain 0 3 ∷ Read 0 ∷ Start 0 ∷ Run 2 ∷ Stop 0 ∷ [])
    ≡ number 0 ∷ ok ∷ ok ∷ ok ∷ ran 2 0 ∷ values (pos 1 ∷ pos 2 ∷ []) ∷ ok ∷ values (pos 0 ∷ pos 0 ∷ []) ∷ ok ∷ ran 2 0 ∷ values (pos 3 ∷ pos 2 ∷ [])
    ∷ []

-- a counter mask and its inversion
abbrev pub MasksAndInversion : Type 0
MasksAndInversion = replies (occ 0x3c 1 0 ∷ occ 0x3c 2 1 ∷ occ 0x3c 3 2 ∷ [])
    (Create ∷ Add 0 (named (masked cycles 2)) ∷ Add 0 (named (inverted (masked cycles 2))) ∷ Start 0 ∷ Run 3 ∷ Read 0 ∷ [])
    ≡ number 0 ∷ ok ∷ ok ∷ ok ∷ ran 3 0 ∷ values (pos 2 ∷ pos 1 ∷ []) ∷ []

-- how often the condition begins to hold
abbrev pub Edges : Type 0
Edges = replies (occ 0x3c 1 0 ∷ occ 0x3c 2 1 ∷ occ 0x3c 3 2 ∷ occ 0x3c 1 3 ∷ occ 0x3c 2 4 ∷ [])
    (Create ∷ Add 0 (named (edged (masked cycles 2))) ∷ Add 0 (named (masked cycles 2)) ∷ Start 0 ∷ Run 5 ∷ Read 0 ∷ [])
    ≡ number 0 ∷ ok ∷ ok ∷ ok ∷ ran 5 0 ∷ values (pos 2 ∷ pos 3 ∷ []) ∷ []

-- an occurrence before the window counts as the one before
abbrev pub EdgesFromBefore : Type 0
EdgesFromBefore = replies (occ 0x3c 1 0 ∷ occ 0x3c 2 1 ∷ occ 0x3c 3 2 ∷ occ 0x3c 1 3 ∷ occ 0x3c 2 4 ∷ [])
    (Create ∷ Add 0 (named (edged (masked cycles 2))) ∷ Add 0 (named (masked cycles 2)) ∷ Run 2 ∷ Start 0 ∷ Run 3 ∷ Read 0 ∷ [])
    ≡ number 0 ∷ ok ∷ ok ∷ ran 2 0 ∷ ok ∷ ran 3 0 ∷ values (pos 1 ∷ pos 2 ∷ []) ∷ []
