use Rattle.std.specs.Prelude.{refl}
use Rattle.call_laws.proofs.Words.{int_wrap, blame_of, deficient_sets, shortest_prefix, assigns, choices, members, pile_from, divided, signed_sum}
use Rattle.call_laws.proofs.Words.{tree_value}
use Rattle.call_laws.proofs.rows.counting_rows.Goals as goal

pub returns : goal.returns
unfolding members choices assigns shortest_prefix deficient_sets blame_of lib.Count.ones pile_from tree_value divided signed_sum int_wrap
returns c = record { first_run = refl; register_wraps = refl; read_accum_reset = refl; privilege = refl; masks_and_inversion = refl; edges = refl; edges_from_before = refl }
