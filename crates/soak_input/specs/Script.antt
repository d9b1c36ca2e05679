-- The script of the soak: docs/FORMATS.md.
use Rattle.std.specs.Prelude.{ℕ, List, [], ◌∷◌, ◌++◌, codes, decimal}
use Rattle.std.specs.List.{flat_map, range_with_len}
use Rattle.soak_input.specs.Streams.{Text}
use Rattle.soak_input.specs.declared.limits.TheConstants.{SOAK_THREADS}

-- a call of a thread
abbrev pub call_line : Text → ℕ → Text
call_line call thread = decimal thread ++ (codes " " ++ (call ++ codes "\n"))

-- calls of a thread, a line each
abbrev pub call_lines : List Text → ℕ → Text
call_lines calls thread = flat_map (λ call. call_line call thread) calls

-- the calls that make a set of three events, the first with a threshold, and start it
abbrev pub opening : List Text
opening =
    codes "create"
    ∷ codes "add 0 INST_RETIRED"
    ∷ codes "add 0 CYCLES"
    ∷ codes "add 0 BR_INST"
    ∷ codes "overflow 0 INST_RETIRED 1000"
    ∷ codes "start 0"
    ∷ []

-- the calls of a round
abbrev pub round : List Text
round = codes "run 100" ∷ codes "read 0" ∷ []

-- the call that stops the set of a thread; its reply gives the values that are summed up
abbrev pub stop : List Text
stop = codes "stop 0" ∷ []

-- these calls of each thread, thread by thread
unfoldable pub by_thread : List Text → Text
by_thread calls = flat_map (call_lines calls) (range_with_len 0 SOAK_THREADS)

-- the lines of n rounds
unfoldable pub rounds_lines : ℕ → Text
rounds_lines rounds = flat_map (λ _. by_thread round) (range_with_len 0 rounds)

-- the openings of all threads, the rounds and the stops
unfoldable pub script_text : ℕ → Text
script_text rounds = by_thread opening ++ (rounds_lines rounds ++ by_thread stop)
