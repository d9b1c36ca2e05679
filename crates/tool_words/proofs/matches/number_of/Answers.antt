use Rattle.tool_words.proofs.Words.{◌≡◌, ◌∙◌, Option, Some, None, refl, ap, option_and_then, ExplainsUnsignedError, HasUnsignedDigitsIfOk}
use Rattle.tool_words.proofs.Words.{ParsesUnsigned, one_text-rows, Text, found_of, one_text, unsigned_of}
use Rattle.tool_words.proofs.NumberLemmas.{reads_unsigned}
use Rattle.tool_words.proofs.matches.number_of.Goals as goal

pub returns : goal.returns
returns c = go (one_text (found_of c.args.matches.now) c.args.id.now) refl ∙ ap (option_and_then (unsigned_of 32)) (one_text-rows (found_of c.args.matches.now) c.args.id.now)
  where
    go : (text : Option Text) → one_text (found_of c.args.matches.now) c.args.id.now ≡ text → c.get_one.result ≡ option_and_then (unsigned_of 32) (one_text (found_of c.args.matches.now) c.args.id.now)
    go None e = rw e (c.get_one.ensures.none e)
    go (Some text) e =
        rw e (reads_unsigned _ (λ bs r. ParsesUnsigned 32 10 bs r × ExplainsUnsignedError 10 bs r × HasUnsignedDigitsIfOk bs r) 32 text c.get_one.result
        (λ u x g. g.0) (c.get_one.ensures.value text e))
