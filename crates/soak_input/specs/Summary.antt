-- The summary of a soak: docs/FORMATS.md.
use Rattle.std.specs.Prelude.{◌+◌, ℕ, ℤ, pos, List, [], ◌∷◌, ◌++◌, codes, decimal, fold}
use Rattle.std.specs.Fmt.{signed_decimal}
use Rattle.std.specs.Int.{int_wrapping_add, w64}
use Rattle.std.specs.List.{flat_map}
use Rattle.soak_input.specs.Streams.{Text}
use Rattle.soak_input.specs.declared.summary.ThreadTotal.{ThreadTotal}

-- each value after a space
abbrev pub values_text : List ℤ → Text
values_text values = flat_map (λ value. 32 ∷ signed_decimal value) values

-- the values of a thread, and how many notes its handler was told
abbrev pub thread_line : ℕ → ThreadTotal → Text
thread_line thread total =
    codes "thread " ++ (decimal thread ++ (codes ":" ++ (values_text total.values ++ (codes " notes " ++ (decimal total.notes ++ codes "\n")))))

-- the lines of threads, of which this is the first
unfoldable pub thread_lines : ℕ → List ThreadTotal → Text
thread_lines thread [] = []
thread_lines thread (total ∷ totals) = thread_line thread total ++ thread_lines (thread + 1) totals

-- a sum, and these values added to it one after another, wrapped to signed 64 bits as every sum of values is
abbrev pub add_values : ℤ → List ℤ → ℤ
add_values sum values = fold (int_wrapping_add w64) sum values

-- the sum of all values, thread by thread
abbrev pub sum_of : List ThreadTotal → ℤ
sum_of totals = fold (λ sum total. add_values sum total.values) (pos 0) totals

-- the lines of the threads, how many replies the script had, and the sum of all values
unfoldable pub summary_text : List ThreadTotal → ℕ → Text
summary_text totals replies =
    thread_lines 0 totals ++ (codes "replies " ++ (decimal replies ++ (codes "\nsum " ++ (signed_decimal (sum_of totals) ++ codes "\n"))))
