use Rattle.std.proofs.Common.{refl, pos, replicate, ◌≡◌, ◌++◌, ◌∷◌, [], List, OnOk, subst, take}
use Rattle.std.specs.Prelude.{ℤ}
use Rattle.papi_base.specs.declared.code.Code.TheVariants as code
use Rattle.session_model.specs.declared.reply.Body.TheVariants as body
use Rattle.session_model.specs.declared.reply.Reply.{Reply}
use Rattle.thread_session.proofs.Words.{values_in}
use Rattle.thread_session.proofs.KeptReplies.{given_first}
use Rattle.thread_session.proofs.keeping.read_into.Goals as goal

pub returns-in-Ok : goal.returns-in-Ok
returns-in-Ok c =
    let values = values_in c.args.book.now c.args.core.now c.args.set in
    let with_values : List ℤ → Reply = λ vs. record { code = code.Ok; body = body.Values vs } in
    let first : take c.in-Ok.count c.read_into.new.out ≡ values = given_first values (replicate 32 (pos 0)) _ c.in-Ok.count c.in-Ok.ensures.given c.in-Ok.ensures.count c.in-Ok.ensures.few refl in
    record {
      reply = with_values values;
      follows = c.in-Ok.ensures.follows;
      kept = record {
        ok = subst (λ (vs : List ℤ). OnOk c.push_values.result (c.push_values.new.self ≡ c.args.replies.now ++ with_values vs ∷ [])) first c.push_values.ensures.ok;
        err = c.push_values.ensures.err;
      };
    }
