-- A text that is read line by line.
use Rattle.std.proofs.Common.{◌≡◌, ◌∙◌, ◌<◌, ◌≤◌, ◌+◌, ◌∷◌, ◌++◌, ℕ, true, false, List, [], length, refl, sym, ap, arith, append_assoc}
use Rattle.std.specs.Prelude.{Result, Ok, Err}
use Rattle.std.specs.Str.Lines.{lines}
use Rattle.table_rows.specs.Texts.{Text}
use Rattle.table_rows.specs.declared.fault.RowRefusal.{RowRefusal}
use Rattle.table_rows.specs.declared.fault.RowRefusal.TheVariants.{Cause, Memory}
use Rattle.script_lines.specs.Answers.{Answers}
use Rattle.script_lines.specs.ByLine.{Format, ReadsLines, Refused, lines_from, onto, put_before}
use Rattle.script_lines.specs.Causes.{fault_at}
use Rattle.script_lines.specs.Lines.{is_skipped}

abbrev whole : {S L C : Type 0} → Format S L C → S → List ℕ → Result (List L) (Refused C)
whole format first bytes = lines_from format 1 first (lines bytes)

-- The text gives what was read, and after it what is left gives.
pub record Reads {S L C : Type 0} (format : Format S L C) (first : S) (bytes rest : List ℕ) (number : ℕ) (above : S) (read : List L) : Type 0 where
  pub same : whole format first bytes ≡ put_before read (lines_from format (number + 1) above (lines rest))
  pub small : number + length rest ≤ length bytes

put_before-nothing : {L C : Type 0} (r : Result (List L) (Refused C)) → r ≡ put_before [] r
put_before-nothing (Ok below) = refl
put_before-nothing (Err refused) = refl

put_before-twice : {L C : Type 0} (above more : List L) (r : Result (List L) (Refused C)) → put_before above (put_before more r) ≡ put_before (above ++ more) r
put_before-twice above more (Ok below) = ap Ok (sym (append_assoc above more below))
put_before-twice above more (Err refused) = refl

pub reads-start : {S L C : Type 0} (format : Format S L C) (first : S) (bytes : List ℕ) → Reads format first bytes bytes 0 first []
reads-start format first bytes = record { same = put_before-nothing (whole format first bytes); small = omega arith }

skipped : {S L C : Type 0} (format : Format S L C) (number : ℕ) (above : S) (line : Text) (rest : List Text) → is_skipped line ≡ true
    → lines_from format number above (line ∷ rest) ≡ lines_from format (number + 1) above rest
unfolding lines_from
skipped format number above line rest s = rw s refl

pub said : {S L C : Type 0} (format : Format S L C) (number : ℕ) (above : S) (line : Text) (rest : List Text) → is_skipped line ≡ false
    → lines_from format number above (line ∷ rest) ≡ onto number (format.line_of number above line) (λ read. lines_from format (number + 1) (format.after above read) rest)
unfolding lines_from
said format number above line rest s = rw s refl

pub no_more : {S L C : Type 0} (format : Format S L C) (number : ℕ) (above : S) → lines_from format number above [] ≡ format.at_end number above
unfolding lines_from
no_more format number above = refl

pub reads-skipped : {S L C : Type 0} {format : Format S L C} {first above : S} {bytes rest rest' line : List ℕ} {number : ℕ} {read : List L}
    → lines rest ≡ line ∷ lines rest' → length rest' < length rest → is_skipped line ≡ true → Reads format first bytes rest number above read
    → Reads format first bytes rest' (number + 1) above read
reads-skipped {S} {L} {C} {format} {first} {above} {bytes} {rest} {rest'} {line} {number} {read} cut less s r = record {
  same = r.same ∙ ap (λ (ls : List Text). put_before read (lines_from format (number + 1) above ls)) cut ∙ ap (put_before read) (skipped format (number + 1) above line (lines rest') s);
  small = omega (arith, r.small);
}

-- what the text gives where its next line says this
next : {S L C : Type 0} (format : Format S L C) (first above : S) (bytes rest rest' line : List ℕ) (number : ℕ) (read : List L) (says : Result L C)
    → lines rest ≡ line ∷ lines rest' → is_skipped line ≡ false → format.line_of (number + 1) above line ≡ says → Reads format first bytes rest number above read
    → whole format first bytes ≡ put_before read (onto (number + 1) says (λ l. lines_from format (number + 1 + 1) (format.after above l) (lines rest')))
next {S} {L} {C} format first above bytes rest rest' line number read says cut s is r =
    r.same ∙ ap (λ (ls : List Text). put_before read (lines_from format (number + 1) above ls)) cut
    ∙ ap (put_before read) (said format (number + 1) above line (lines rest') s
    ∙ ap (λ (l : Result L C). onto (number + 1) l (λ l. lines_from format (number + 1 + 1) (format.after above l) (lines rest'))) is)

pub reads-line : {S L C : Type 0} {format : Format S L C} {first above above' : S} {bytes rest rest' line : List ℕ} {number : ℕ} {read : List L} {new : L}
    → lines rest ≡ line ∷ lines rest' → length rest' < length rest → is_skipped line ≡ false → format.line_of (number + 1) above line ≡ Ok new → above' ≡ format.after above new
    → Reads format first bytes rest number above read → Reads format first bytes rest' (number + 1) above' (read ++ new ∷ [])
reads-line {S} {L} {C} {format} {first} {above} {above'} {bytes} {rest} {rest'} {line} {number} {read} {new} cut less s is after r = rw after (record {
  same = next format first above bytes rest rest' line number read (Ok new) cut s is r
      ∙ put_before-twice read (new ∷ []) (lines_from format (number + 1 + 1) (format.after above new) (lines rest'));
  small = omega (arith, r.small);
})

-- The answer if a line is refused.
pub reads-fault : {S L C : Type 0} {format : Format S L C} {first above : S} {bytes rest line : List ℕ} {number : ℕ} {read : List L} (rest' : List ℕ) (refusal : RowRefusal C)
    → lines rest ≡ line ∷ lines rest' → is_skipped line ≡ false → Answers (Err refusal) (format.line_of (number + 1) above line) → Reads format first bytes rest number above read
    → ReadsLines (Err (fault_at (number + 1) refusal)) (whole format first bytes)
reads-fault {S} {L} {C} {format} {first} {above} {bytes} {rest} {line} {number} {read} rest' (Cause cause) cut s is r = next format first above bytes rest rest' line number read (Err cause) cut s is r
reads-fault rest' Memory cut s is r = tt

pub reads-end : {S L C : Type 0} {format : Format S L C} {first above : S} {bytes : List ℕ} (rest : List ℕ) {number : ℕ} {read : List L} → length rest ≤ 0
    → Reads format first bytes rest number above read → whole format first bytes ≡ put_before read (format.at_end (number + 1) above)
reads-end {S} {L} {C} {format} {first} {above} {bytes} [] {number} {read} e r = r.same ∙ ap (put_before read) (no_more format (number + 1) above)
reads-end (b ∷ rest) e r = absurd (omega arith)
