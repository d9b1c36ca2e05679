-- What handlers have been told: all of their notes, or a prefix of them.
use Rattle.papi_tools.proofs.Words.{◌≡◌, List, [], ◌++◌, append-nil, length, Result, Ok, Err, refl, sym, ap, ◌∙◌, arith, slice_index_or, take_all}
use Rattle.papi_tools.proofs.Words.{Note, EachAdded, EachBegun, EachGrown, TellsNotes, Verdict, ended, notes_in, Refusal, Status}
use Rattle.papi_tools.specs.declared.status.Status.TheVariants.{Memory}

-- all notes are a prefix of them
pub added_begun : (before given after : List (List Note)) → EachAdded before given after → EachBegun before given after
added_begun before given after h = record {
  same_length = h.same_length;
  begun = λ t small. (
    length (slice_index_or given t []),
    omega arith,
    h.added t small ∙ ap (λ ns. slice_index_or before t [] ++ ns) (sym (take_all (length (slice_index_or given t [])) (slice_index_or given t []) (omega arith))),
  );
}

-- all notes are told, whatever was written
pub all_told : (s : Status) (before given after : List (List Note)) → EachAdded before given after → TellsNotes s given before after
all_told Memory before given after h = added_begun before given after h
all_told other before given after h = h

-- the notes of what is expected
pub same_notes : (expected : Result Verdict Refusal) → notes_in expected ≡ (ended expected).notes
same_notes (Ok verdict) = refl
same_notes (Err refusal) = refl

-- lists to which nothing was added
pub none_added : (lists given : List (List Note)) → given ≡ [] → EachAdded lists given lists
none_added lists given e = rw e (record { same_length = refl; added = λ t small. sym (append-nil _) })

pub none_begun : (lists given : List (List Note)) → EachBegun lists given lists
none_begun lists given = record { same_length = refl; begun = λ t small. (0, omega arith, sym (append-nil _)) }

pub none_grown : (lists : List (List Note)) → EachGrown lists lists
none_grown lists = record { same_length = refl; grown = λ t small. ([], sym (append-nil _)) }
