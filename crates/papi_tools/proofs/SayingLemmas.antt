-- What has been written, from what each sink has taken.
use Rattle.papi_tools.proofs.Words.{◌≡◌, ◌≤◌, ◌-◌, ◌+◌, ℕ, List, length, take, refl, sym, ap, ◌∙◌, arith, Option, take_all, appended, status_of}
use Rattle.papi_tools.proofs.Words.{Wrote, WroteAll, Says, HasSinkCause, Outcome, Whole, Said}

-- the whole output and a prefix of the lines
pub out_whole : (said : Said) (out out' err err' : Option (List ℕ)) → out' ≡ appended out said.out → (k : ℕ) × (k ≤ length said.err) × (err' ≡ appended err (take k said.err)) → (k : ℕ) × Wrote said k out out' err err'
out_whole said out out' err err' o (k, small, e) =
    let back : length said.out + k - length said.out ≡ k = omega arith in (
      length said.out + k,
      record {
        out_is = o ∙ ap (appended out) (sym (take_all (length said.out + k) said.out (omega arith)));
        err_is = e ∙ ap (λ n. appended err (take n said.err)) (sym back);
      },
    )

by_outcome : (outcome : Outcome) (said : Said) (out out' err err' : Option (List ℕ)) → outcome ≡ said.outcome → WroteAll said out out' err err' → Says (status_of outcome) said out out' err err'
by_outcome Whole said out out' err err' e w = (ap status_of e, w)
by_outcome other said out out' err err' e w = (ap status_of e, w)

pub all_said : (said : Said) (out out' err err' : Option (List ℕ)) → WroteAll said out out' err err' → Says (status_of said.outcome) said out out' err err'
all_said said out out' err err' w = by_outcome said.outcome said out out' err err' refl w

pub no_fault : (outcome : Outcome) (out out' err err' : ℕ) → out' ≡ out → err' ≡ err → HasSinkCause (status_of outcome) out out' err err'
no_fault Whole out out' err err' o e = (o, e)
no_fault other out out' err err' o e = (o, e)
