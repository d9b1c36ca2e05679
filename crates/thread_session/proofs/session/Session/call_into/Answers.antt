use Rattle.std.specs.Prelude.{false, ◌≡◌, ◌++◌, ◌∷◌, []}
use Rattle.papi_base.specs.declared.code.Code.{Code}
use Rattle.session_model.specs.declared.reply.Body.TheVariants as body
use Rattle.thread_session.proofs.Words.{sym, ap, ◌∙◌, subst, Reply, ReaderView, FaultsKept, fault_count, is_run, run_reply}
use Rattle.thread_session.proofs.Calling.{call_sound, does_follows, does_towards, still_by}
use Rattle.thread_session.proofs.Endings.{follows_notes}
use Rattle.thread_session.proofs.Failing.{kept_same}
use Rattle.thread_session.proofs.Growing.{grown_same}
use Rattle.thread_session.proofs.KeptReplies.{begun_all, on_ok, on_ok_then, run_begun, run_cut, run_noted, run_replied, run_unkept, starved_made}
use Rattle.thread_session.proofs.Results.{on_err}
use Rattle.thread_session.proofs.session.Session.call_into.Goals as goal

pub returns-in_err-ran-in-Run-clause-begun : goal.returns-in_err-ran-in-Run-clause-begun
returns-in_err-ran-in-Run-clause-begun g c a h =
    on_err c.from_residual.result (run_begun c.args.book.now c.args.self.now _ _ c.in-Run.is _ _ a (c.in_err-ran-in-Run.ensures.part a h))

pub returns-in_err-ran-in-Run-clause-starved : goal.returns-in_err-ran-in-Run-clause-starved
returns-in_err-ran-in-Run-clause-starved g c left h =
    on_err c.from_residual.result (run_cut _ _ _ _ c.in-Run.is _ _ left (c.in_err-ran-in-Run.ensures.cut_to left h))

pub returns-in_ok-ran-in-Run-clause-begun : goal.returns-in_ok-ran-in-Run-clause-begun
returns-in_ok-ran-in-Run-clause-begun g c a h =
    on_err c.push_ran.result (run_noted c.args.book.now c.args.self.now _ _ c.in-Run.is _ _ a (c.in_ok-ran-in-Run.ensures.notes a h))

pub returns-in_ok-ran-in-Run-clause-replied : goal.returns-in_ok-ran-in-Run-clause-replied
returns-in_ok-ran-in-Run-clause-replied g c =
    let ran = c.in_ok-ran-in-Run.ran in
    let did = c.in_ok-ran-in-Run.ensures in
    let coded : Code → Reply = λ k. record { code = k; body = body.Ran ran } in
    on_ok_then c.push_ran.result
    (λ kept. (
      run_reply ran,
      kept ∙ ap (λ (k : Code). c.args.replies.now ++ coded k ∷ []) c.code_of.ensures,
      run_replied _ _ _ _ c.in-Run.is _ _ c.run.new.self (run_reply ran) (record { follows = did.follows; towards = did.towards; faulty = did.faulty }),
    ))
    c.push_ran.ensures.ok

pub returns-in_ok-ran-in-Run-clause-starved : goal.returns-in_ok-ran-in-Run-clause-starved
returns-in_ok-ran-in-Run-clause-starved g c left h =
    on_err c.push_ran.result (run_unkept _ _ _ _ c.in-Run.is _ _ c.run.new.self (run_reply c.in_ok-ran-in-Run.ran) left (c.in_ok-ran-in-Run.ensures.towards left h))

pub returns-in_default : goal.returns-in_default
returns-in_default g c =
    let k = c.make_into.ensures in
    let d = k.does in
    let r = c.make_into.result in
    let old = c.args.self.now in
    let notes = (goal.Handler-dyn g c.args.h.now).notes c.args.h.now.1 in
    let still : is_run c.args.c.now ≡ false = still_by c.args.c.now c.in_default.not-Run in
    let follows = does_follows c.args.book.now old c.make_into.new.self c.args.c.now k.reply notes still d in
    let towards = does_towards c.args.book.now old c.make_into.new.self c.args.c.now k.reply notes still d in
    record {
      stands = λ a h. on_ok r (d.stands a h);
      reply = λ a h. on_ok_then r (λ kept. kept ∙ ap (λ (x : Reply). c.args.replies.now ++ x ∷ []) (d.reply a h)) k.kept.ok;
      notes = λ a h. on_ok r (follows_notes _ _ _ _ _ _ _ a follows h);
      begun = λ a h. on_err r (begun_all _ _ _ (follows_notes _ _ _ _ _ _ _ a follows h));
      err = k.kept.err;
      replied = on_ok_then r (λ kept. (
        k.reply,
        kept,
        record {
          follows = follows;
          towards = towards;
          faulty = λ x. absurd (call_sound c.args.book.now old.core c.make_into.new.self.core c.args.c.now k.reply still d.kept c.requires.ready.agrees x);
        },
      )) k.kept.ok;
      starved = λ left h. on_err r (starved_made _ _ _ _ k.reply _ _ left (towards left h));
      grown = grown_same notes;
      ready = record { agrees = d.kept.agrees };
      shape = d.kept.shape;
      faults = subst (λ (v : ReaderView). FaultsKept (fault_count old.reader) (fault_count v)) (sym d.reader) (kept_same old.reader);
    }
