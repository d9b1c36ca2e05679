-- The preset events: symbols and codes of PAPI's list, PAPI_presets(3). The choice of rows and the descriptions are this project's own.
use Rattle.std.specs.Prelude.{ℕ, List, [], ◌∷◌, Option, codes, position, slice_get}
use Rattle.std.specs.Option.{option_map_or}
use Rattle.std.specs.Str.{bytes_eq}
use Rattle.preset_csv.specs.declared.symbols.TheConstants.{PRESETS}

-- a preset: its symbol, its code and what it counts
pub record PresetRow : Type 0 where
  pub symbol : List ℕ
  pub code : ℕ
  pub description : List ℕ

-- a row of the table
abbrev pub preset : List ℕ → ℕ → List ℕ → PresetRow
preset symbol code description = record { symbol = symbol; code = code; description = description }

-- tools/make_presets: begin
-- the rows, of which the first has the number 0
unfoldable pub preset_rows : List PresetRow
preset_rows =
    preset (codes "PAPI_L1_DCM") 0x80000000 (codes "Level 1 data cache misses")
    ∷ preset (codes "PAPI_L1_ICM") 0x80000001 (codes "Level 1 instruction cache misses")
    ∷ preset (codes "PAPI_L2_DCM") 0x80000002 (codes "Level 2 data cache misses")
    ∷ preset (codes "PAPI_L2_ICM") 0x80000003 (codes "Level 2 instruction cache misses")
    ∷ preset (codes "PAPI_L1_TCM") 0x80000006 (codes "Level 1 cache misses")
    ∷ preset (codes "PAPI_L2_TCM") 0x80000007 (codes "Level 2 cache misses")
    ∷ preset (codes "PAPI_L3_TCM") 0x80000008 (codes "Level 3 cache misses")
    ∷ preset (codes "PAPI_TLB_DM") 0x80000014 (codes "Data translation lookaside buffer misses")
    ∷ preset (codes "PAPI_TLB_IM") 0x80000015 (codes "Instruction translation lookaside buffer misses")
    ∷ preset (codes "PAPI_L1_LDM") 0x80000017 (codes "Level 1 load misses")
    ∷ preset (codes "PAPI_L1_STM") 0x80000018 (codes "Level 1 store misses")
    ∷ preset (codes "PAPI_BR_UCN") 0x8000002a (codes "Unconditional branches")
    ∷ preset (codes "PAPI_BR_CN") 0x8000002b (codes "Conditional branches")
    ∷ preset (codes "PAPI_BR_TKN") 0x8000002c (codes "Conditional branches taken")
    ∷ preset (codes "PAPI_BR_NTK") 0x8000002d (codes "Conditional branches not taken")
    ∷ preset (codes "PAPI_BR_MSP") 0x8000002e (codes "Conditional branches mispredicted")
    ∷ preset (codes "PAPI_BR_PRC") 0x8000002f (codes "Conditional branches predicted")
    ∷ preset (codes "PAPI_TOT_INS") 0x80000032 (codes "Instructions completed")
    ∷ preset (codes "PAPI_LD_INS") 0x80000035 (codes "Load instructions")
    ∷ preset (codes "PAPI_SR_INS") 0x80000036 (codes "Store instructions")
    ∷ preset (codes "PAPI_BR_INS") 0x80000037 (codes "Branch instructions")
    ∷ preset (codes "PAPI_RES_STL") 0x80000039 (codes "Cycles stalled on any resource")
    ∷ preset (codes "PAPI_TOT_CYC") 0x8000003b (codes "Total cycles")
    ∷ preset (codes "PAPI_LST_INS") 0x8000003c (codes "Load and store instructions")
    ∷ preset (codes "PAPI_FP_OPS") 0x80000066 (codes "Floating point operations")
    ∷ preset (codes "PAPI_REF_CYC") 0x8000006b (codes "Reference clock cycles")
    ∷ []

-- tools/make_presets: end

-- how many presets the table has
abbrev pub preset_count : ℕ
preset_count = PRESETS

-- the symbol of the preset in a row, or an empty one
unfoldable pub symbol_at : ℕ → List ℕ
symbol_at row = option_map_or (λ r. r.symbol) (slice_get preset_rows row) []

-- the code of the preset in a row, or 0
unfoldable pub code_at : ℕ → ℕ
code_at row = option_map_or (λ r. r.code) (slice_get preset_rows row) 0

-- the description of the preset in a row, or an empty one
unfoldable pub description_at : ℕ → List ℕ
description_at row = option_map_or (λ r. r.description) (slice_get preset_rows row) []

-- the row of a symbol, compared exactly
unfoldable pub row_of : List ℕ → Option ℕ
row_of symbol = position (λ r. bytes_eq r.symbol symbol) preset_rows
