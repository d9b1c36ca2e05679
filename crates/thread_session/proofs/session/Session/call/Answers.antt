use Rattle.thread_session.proofs.Words.{sym, subst, ReaderView, FaultsKept, fault_count, is_run}
use Rattle.std.specs.Prelude.{false, ◌≡◌}
use Rattle.thread_session.proofs.Calling.{call_sound, does_follows, does_towards, part_of_call, still_by}
use Rattle.thread_session.proofs.Endings.{follows_notes}
use Rattle.thread_session.proofs.Failing.{kept_same}
use Rattle.thread_session.proofs.Growing.{grown_same}
use Rattle.thread_session.proofs.Results.{on_err}
use Rattle.thread_session.proofs.session.Session.call.Goals as goal

pub returns-in_err-ran-in-Run-clause-part : goal.returns-in_err-ran-in-Run-clause-part
returns-in_err-ran-in-Run-clause-part g c a h =
    on_err c.from_residual.result (part_of_call _ _ a _ _ _ _ c.in-Run.is (c.in_err-ran-in-Run.ensures.part a h))

pub returns-in_default : goal.returns-in_default
returns-in_default g c =
    let d = c.make.ensures in
    let old = c.args.self.now in
    let notes = (goal.Handler-dyn g c.args.h.now).notes c.args.h.now.1 in
    let still : is_run c.args.c.now ≡ false = still_by c.args.c.now c.in_default.not-Run in
    record {
      stands = d.stands;
      reply = d.reply;
      notes = λ a h. follows_notes _ _ _ _ _ _ _ a (does_follows c.args.book.now old c.make.new.self c.args.c.now c.make.result notes still d) h;
      part = λ a h. tt;
      follows = does_follows c.args.book.now old c.make.new.self c.args.c.now c.make.result notes still d;
      cut = tt;
      towards = does_towards c.args.book.now old c.make.new.self c.args.c.now c.make.result notes still d;
      cut_to = λ left h. tt;
      grown = grown_same notes;
      ready = record { agrees = d.kept.agrees };
      shape = d.kept.shape;
      faults = subst (λ (r : ReaderView). FaultsKept (fault_count old.reader) (fault_count r)) (sym d.reader) (kept_same old.reader);
      faulty = λ x. absurd (call_sound c.args.book.now old.core c.make.new.self.core c.args.c.now c.make.result still d.kept c.requires.ready.agrees x);
    }
