use Rattle.thread_session.proofs.Opened.{new_ready, new_stands}
use Rattle.thread_session.proofs.session.Session.over.Goals as goal

pub returns-clause-ready : goal.returns-clause-ready
returns-clause-ready g c book fits = new_ready book c.args.core c.args.reader c.requires.new fits

pub returns-clause-stands : goal.returns-clause-stands
returns-clause-stands g c book stream told = new_stands book c.args.core c.args.reader stream c.requires.new told
