use Rattle.call_laws.proofs.OwnCalls.{notes_are_of_threads, replies_are_of_threads}
use Rattle.call_laws.proofs.threads.thread_laws.Goals as goal

pub returns : goal.returns
returns c = record { replies = replies_are_of_threads; notes = notes_are_of_threads }
