use Rattle.tool_output.proofs.Words.{◌≡◌, ◌∙◌, ℕ, Bool, false, List, Ok, Option, Some, None, ap, refl, if◌then◌else◌, is_none, is_some}
use Rattle.tool_output.proofs.Words.{option_and_then, option_map, option_map_or, add_refusal, Widths, cannot_take, clash_with, is_full, Clash}
use Rattle.tool_output.proofs.Words.{Refusal, Conflict, Plain, Ecount, Einval, Eisrun, Enoevst, EventRef, Book, Face, at, conflict_of, refusal_of}
use Rattle.call_type.specs.declared.call.Call.TheVariants as call
use Rattle.tool_output.proofs.chooser.laws.refusal_law.Goals as goal

refuses : (book : Book) (shape : Widths) (registered : Bool) (faces : List (Option Face)) (k : ℕ) (e : EventRef) (f : Face) → at faces k ≡ Some f
    → f.running ≡ false → refusal_of book shape registered faces (call.Add k (Ok e)) ≡ add_refusal book e f.set
refuses book shape registered faces k e f here stopped =
    ap table here ∙ ap (λ b. if b then Some (Plain Eisrun) else rest) stopped ∙ ap (λ c. if cannot_take book e f.set then Some (Plain Einval) else if is_full book e f.set then Some (Plain Ecount) else c) (clash (clash_with book e f.set))
  where
    table : Option Face → Option Refusal
    table o = if is_none o then Some (Plain Enoevst) else if option_map_or (λ x. x.running) o false then Some (Plain Eisrun) else
        if option_map_or (λ x. cannot_take book e x.set) o false then Some (Plain Einval) else if option_map_or (λ x. is_full book e x.set) o false then Some (Plain Ecount) else
        if is_some (option_and_then (λ x. clash_with book e x.set) o) then Some (conflict_of (option_and_then (λ x. clash_with book e x.set) o)) else None

    rest : Option Refusal
    rest = if cannot_take book e f.set then Some (Plain Einval) else if is_full book e f.set then Some (Plain Ecount) else if is_some (clash_with book e f.set) then Some (conflict_of (clash_with book e f.set)) else None

    clash : (c : Option Clash) → (if is_some c then Some (conflict_of c) else None) ≡ option_map Conflict c
    clash None = refl
    clash (Some c) = refl

pub returns : goal.returns
returns c = refuses
