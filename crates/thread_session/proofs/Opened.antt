-- A session of a new core.
use Rattle.thread_session.proofs.Words.{◌≡◌, ℕ, [], ap, sym, ◌∙◌, subst, Coming, Dry, Book, BookFits, Widths, opening, IsShape, ReaderView, coming}
use Rattle.thread_session.proofs.Words.{CoreView, opening_core, AgreesWith, CoreStands, opening_agrees, opening_stands, IsNew, IsReady, Stands}
use Rattle.std.specs.Prelude.{Some}

pub new_ready : (book : Book) (core : CoreView) (reader : ReaderView) → IsNew core → BookFits core.shape book → IsReady book (record { core = core; reader = reader })
new_ready book core reader new fits = record { agrees = subst (AgreesWith book) (sym new.opening) (opening_agrees book core.thread core.shape [] Dry new.shaped fits) }

pub new_stands : (book : Book) (core : CoreView) (reader : ReaderView) (stream : Coming) → IsNew core → coming reader ≡ Some stream → Stands book (record { core = core; reader = reader }) (opening core.thread stream.rest stream.mark)
new_stands book core reader stream new told = record {
  kept = subst (λ (c : CoreView). CoreStands book c (opening core.thread stream.rest stream.mark)) (sym new.opening) (opening_stands book core.thread core.shape stream.rest stream.mark new.shaped);
  told = told;
}

-- as a core is made
pub made_new : (core : CoreView) (thread : ℕ) (shape : Widths) → core ≡ opening_core thread shape → IsShape core.shape → IsNew core
made_new core thread shape e shaped = record { opening = e ∙ sym (ap (λ (c : CoreView). opening_core c.thread c.shape) e); shaped = shaped }
