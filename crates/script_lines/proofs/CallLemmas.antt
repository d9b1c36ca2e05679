-- Words that name no call.
use Rattle.std.proofs.Common.{◌≡◌, ◌<◌, ◌+◌, ℕ, false, List, drop, get_or, length, refl}
use Rattle.std.specs.Str.{bytes_eq}
use Rattle.std.proofs.lemmas.List.{drop_more}
use Rattle.call_type.specs.CallNames.{word_of}
use Rattle.table_rows.specs.Texts.{Text}
use Rattle.script_lines.specs.Calls.{CallRow, form_of}

-- a word that the next row does not name has its form in the rows below that
pub form_of-skips : (word : Text) (rows : List CallRow) (i : ℕ) (row : CallRow) → i < length rows → bytes_eq (word_of (get_or rows i row).name) word ≡ false
    → form_of word (drop i rows) ≡ form_of word (drop (i + 1) rows)
form_of-skips word rows i row inside other = rw (drop_more rows i row inside, other) refl
