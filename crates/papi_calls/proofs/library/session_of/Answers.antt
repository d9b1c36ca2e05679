-- The reader tells the occurrences of the stream.
use Rattle.papi_base.specs.declared.outside.Ending.TheVariants.{End}
use Rattle.stream_reader.specs.Occurs.{occurs_of}
use Rattle.papi_calls.proofs.library.session_of.Goals as goal

pub returns-clause-stands : goal.returns-clause-stands
returns-clause-stands c = c.new.ensures.stands c.args.catalog.now.book (occurs_of End c.args.stream.items) c.reader_of-reader.ensures.coming
