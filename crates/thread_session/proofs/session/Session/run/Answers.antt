use Rattle.thread_session.proofs.Cuts.{cut_part, cut_to}
use Rattle.thread_session.proofs.Endings.{follows_notes, follows_reply, follows_stands}
use Rattle.thread_session.specs.Follows.{run_reply}
use Rattle.thread_session.proofs.Growing.{grown_by}
use Rattle.thread_session.proofs.Results.{err_gives, ok_gives, ok_then}
use Rattle.thread_session.proofs.session.Session.run.Goals as goal

pub returns-clause-stands : goal.returns-clause-stands
returns-clause-stands g c a h = ok_gives c.consume.result (λ ran f. follows_stands _ _ _ _ _ _ _ a f h) c.consume.ensures.follows

pub returns-clause-reply : goal.returns-clause-reply
returns-clause-reply g c a h = ok_then c.consume.result (λ ran f. follows_reply _ _ _ _ _ _ _ a f h) c.consume.ensures.follows

pub returns-clause-notes : goal.returns-clause-notes
returns-clause-notes g c a h = ok_gives c.consume.result (λ ran f. follows_notes _ _ _ _ _ _ _ a f h) c.consume.ensures.follows

pub returns-clause-part : goal.returns-clause-part
returns-clause-part g c a h = err_gives c.consume.result (λ cut. cut_part _ _ _ _ _ _ a cut h) c.consume.ensures.cut

pub returns-clause-grown : goal.returns-clause-grown
returns-clause-grown g c = grown_by c.consume.result run_reply _ _ _ _ _ _ _ c.requires.ready c.consume.ensures.follows c.consume.ensures.cut

pub returns-clause-cut_to : goal.returns-clause-cut_to
returns-clause-cut_to g c left h = err_gives c.consume.result (λ cut. cut_to _ _ _ _ _ _ cut left h) c.consume.ensures.cut
