-- A table of presets that loses the entries that are not available, row by row.
use Rattle.component_table.proofs.Words.{◌≡◌, ◌∙◌, ◌<◌, ◌≤◌, ◌+◌, ℕ, true, false, List, [], ◌∷◌, ◌++◌, length, take, drop, get_or, set, refl, sym, ap}
use Rattle.component_table.proofs.Words.{arith, append_assoc, length-set, if◌then◌else◌, append-nil, drop_all, drop_more, drop-set-lt, take_all}
use Rattle.component_table.proofs.Words.{take_more, take_more_set, Book, TableView, Entry, available_from, is_available, PRESETS}
use Rattle.preset_csv.specs.declared.entry.Entry.TheVariants as row

-- what a loop over the rows keeps: those before the next one are done
pub record Cleared (book : Book) (presets : TableView) (r : ℕ) (now : TableView) : Type 0 where
  pub same_cpu : now.cpu ≡ presets.cpu
  pub long : length now.rows ≡ PRESETS
  pub so_far : available_from book 0 presets.rows ≡ take r now.rows ++ available_from book r (drop r now.rows)

next : (book : Book) (r : ℕ) (e : Entry) (rest : List Entry) → available_from book r (e ∷ rest) ≡ (if is_available book r then e else row.Missing) ∷ available_from book (r + 1) rest
unfolding available_from
next book r e rest = refl

one_more : (done : List Entry) (e : Entry) (rest : List Entry) → done ++ e ∷ rest ≡ (done ++ e ∷ []) ++ rest
one_more done e rest = sym (append_assoc done (e ∷ []) rest)

here : (book : Book) (r : ℕ) (rows : List Entry) → r < length rows → take r rows ++ available_from book r (drop r rows)
    ≡ (take r rows ++ (if is_available book r then get_or rows r row.Missing else row.Missing) ∷ []) ++ available_from book (r + 1) (drop (r + 1) rows)
here book r rows small =
    ap (λ rest. take r rows ++ available_from book r rest) (drop_more rows r row.Missing small)
    ∙ ap (λ rest. take r rows ++ rest) (next book r (get_or rows r row.Missing) (drop (r + 1) rows))
    ∙ one_more (take r rows) (if is_available book r then get_or rows r row.Missing else row.Missing) (available_from book (r + 1) (drop (r + 1) rows))

-- an available row stays
pub cleared-kept : (book : Book) (presets : TableView) (r : ℕ) (now : TableView) → r < PRESETS → is_available book r ≡ true → Cleared book presets r now → Cleared book presets (r + 1) now
cleared-kept book presets r now small available c =
    let within : r < length now.rows = omega (arith, c.long) in
    record {
      same_cpu = c.same_cpu;
      long = c.long;
      so_far =
          c.so_far
          ∙ here book r now.rows within
          ∙ ap (λ b. (take r now.rows ++ (if b then get_or now.rows r row.Missing else row.Missing) ∷ []) ++ available_from book (r + 1) (drop (r + 1) now.rows)) available
          ∙ ap (λ rows. rows ++ available_from book (r + 1) (drop (r + 1) now.rows)) (sym (take_more now.rows r row.Missing within));
    }

-- another one is missing
pub cleared-missing : (book : Book) (presets : TableView) (r : ℕ) (now : TableView) → r < PRESETS → is_available book r ≡ false → Cleared book presets r now
    → Cleared book presets (r + 1) (record now { rows = set now.rows r row.Missing })
cleared-missing book presets r now small available c =
    let within : r < length now.rows = omega (arith, c.long) in
    record {
      same_cpu = c.same_cpu;
      long = length-set now.rows r row.Missing ∙ c.long;
      so_far =
          c.so_far
          ∙ here book r now.rows within
          ∙ ap (λ b. (take r now.rows ++ (if b then get_or now.rows r row.Missing else row.Missing) ∷ []) ++ available_from book (r + 1) (drop (r + 1) now.rows)) available
          ∙ ap (λ rows. rows ++ available_from book (r + 1) (drop (r + 1) now.rows)) (sym (take_more_set now.rows r row.Missing within))
          ∙ ap (λ rest. take (r + 1) (set now.rows r row.Missing) ++ available_from book (r + 1) rest) (sym (drop-set-lt (r + 1) now.rows r row.Missing (omega arith)));
    }

done : (book : Book) (r : ℕ) → available_from book r [] ≡ []
unfolding available_from
done book r = refl

pub cleared-all : (book : Book) (presets : TableView) (r : ℕ) (now : TableView) → PRESETS ≤ r → Cleared book presets r now → now ≡ record { cpu = presets.cpu; rows = available_from book 0 presets.rows }
cleared-all book presets r now all c =
    let rows : now.rows ≡ available_from book 0 presets.rows =
    sym (c.so_far
    ∙ ap (λ rest. take r now.rows ++ available_from book r rest) (drop_all r now.rows (omega (arith, c.long)))
    ∙ ap (λ rest. take r now.rows ++ rest) (done book r)
    ∙ append-nil (take r now.rows)
    ∙ take_all r now.rows (omega (arith, c.long))) in
    λ i. record { cpu = c.same_cpu i; rows = rows i }
