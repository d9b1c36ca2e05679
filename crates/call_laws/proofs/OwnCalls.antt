-- What a script of several threads replies and tells, by each thread's own calls.
use Rattle.std.proofs.Common.{arith}
use Rattle.call_laws.proofs.Words.{◌≡◌, ◌<◌, ℕ, zero, suc, List, [], ◌∷◌, ap, ◌∙◌, slice_get, take, Some, option_map, Coming, THREADS, Account}
use Rattle.call_laws.proofs.Words.{account_after, step, LineTold, Setting, World, account_at, calls_at, opening_world, told, turn_of, world_after}
use Rattle.call_laws.proofs.Words.{world_after_line, Line, account_by_thread, found, notes_by_thread, opens_by_thread, begun, NotesAreOfThreads}
use Rattle.call_laws.proofs.Words.{RepliesAreOfThreads, thread_in, line_of}
use Rattle.call_laws.proofs.Noted.{notes_are}

-- what is told of a line, in the world after those before it
abbrev told_of : Setting → World → Line → LineTold
told_of at w l = record { line = l; reply = (turn_of at w l).reply; notes = (turn_of at w l).notes }

told_at : (at : Setting) (w : World) (lines : List Line) (i : ℕ) (l : Line) → slice_get lines i ≡ Some l
    → slice_get (told at w lines) i ≡ Some (told_of at (world_after at w (take i lines)) l)
told_at at w [] i l e = cc
told_at at w (x ∷ lines) zero l e = let same : x ≡ l = cc in ap (λ k. Some (told_of at w k)) same
told_at at w (x ∷ lines) (suc i) l e = told_at at (world_after_line at w x) lines i l e

-- a thread's account after some lines
account_in : (at : Setting) (streams : List Coming) (lines : List Line) (t : ℕ) → t < THREADS
    → account_at (world_after at (opening_world streams) lines).accounts t ≡ account_after at.book at.shape (begun (thread_in at streams t)) (calls_at t lines)
account_in at streams lines t below = grind (arith, found, account_by_thread, opens_by_thread)

pub replies_are_of_threads : RepliesAreOfThreads
replies_are_of_threads at streams lines i t c below e =
    ap (option_map (λ (x : LineTold). x.reply)) (told_at at (opening_world streams) lines i (line_of t c) e)
    ∙ ap (λ (a : Account). Some (step at.book at.shape a c).reply) (account_in at streams (take i lines) t below)

pub notes_are_of_threads : NotesAreOfThreads
notes_are_of_threads at streams lines t below =
    notes_by_thread at (opening_world streams) lines t (begun (thread_in at streams t)) (opens_by_thread streams t below)
    ∙ notes_are (thread_in at streams t) (calls_at t lines)
