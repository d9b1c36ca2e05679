-- Values that a call wrote where they belong.
use Rattle.std.proofs.Common.{◌≡◌, ◌∙◌, ℕ, zero, suc, List, [], ◌∷◌, ◌++◌, ap, refl, subst, sym, length, take}
use Rattle.papi_c.proofs.Words.{ℤ, IfErr, IfOk, OnErr, OnOk, Result, Ok, Err, number_of, Code, Made, LibraryView, Call, reply_of, AreGiven}
use Rattle.papi_c.proofs.Words.{GaveValues, code_of, count_of}
use Rattle.papi_base.specs.declared.code.Code.TheVariants as papi
use Rattle.session_model.specs.declared.reply.Body.TheVariants as body
use Rattle.session_model.specs.Replies.{plain}

take-none : (n : ℕ) (xs : List ℤ) → xs ≡ [] → take n xs ≡ []
take-none zero xs e = refl
take-none (suc n) [] e = refl
take-none (suc n) (x ∷ xs) e = absurd cc

-- a refused call wrote none
pub gave : (old new : LibraryView) (made : Call) (answer : Result ℕ Code) (values before after : List ℤ) (n : ℤ) (count : ℕ)
    → Made old new made (reply_of (λ m. body.Values values) answer) → IfOk answer (λ m. m ≡ length values) → OnOk answer (AreGiven values before after)
    → IfErr answer (λ c. c ≡ papi.Enoevst) → OnErr answer (after ≡ before) → n ≡ number_of (code_of answer) → count ≡ count_of answer
    → GaveValues old new made n count before after
gave old new made (Ok m) values before after n count step long given refused kept number counted = record {
  code = papi.Ok;
  values = values;
  step = step;
  refused = λ e. absurd (e refl);
  number = number;
  counted = counted ∙ long;
  given = given;
}
gave old new made (Err c) values before after n count step long given refused kept number counted = record {
  code = papi.Enoevst;
  values = [];
  step = subst (λ (d : Code). Made old new made (plain d)) refused step;
  refused = λ e. refl;
  number = subst (λ (d : Code). n ≡ number_of d) refused number;
  counted = counted;
  given = kept ∙ sym (ap (λ (xs : List ℤ). xs ++ before) (take-none (length before) [] refl));
}
