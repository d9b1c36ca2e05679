use Rattle.stream_reader.proofs.Words.{◌≡◌, ◌∙◌, ap, arith, drop, subst, sym, IfSome, Gives, tape_after, ReaderView, faults_of}
use Rattle.std.specs.Option.{is_some, option_map_or}
use Rattle.stream_reader.proofs.Room.{size_held}
use Rattle.stream_reader.proofs.Refilling.{refills, view-faults, view-some, view-tape}
use Rattle.stream_reader.proofs.reader.StreamReader.refill.Goals as goal

pub returns-clause-refills : goal.returns-clause-refills
returns-clause-refills g c =
    let size = size_held c.self.invariant c.self.view_is in
    let old = view-tape g.S.Source.tape g.S.Source.faults c.self.inside.source in
    let new = view-tape g.S.Source.tape g.S.Source.faults c.fill-read.new.source in
    rw c.unwrap_or.ensures (refills c.self.invariant c.self.view_is c.fill-read.result c.fill-read.new.bytes _ (record { short = omega arith; room = c.fill-read.ensures.room; moves = c.fill-read.ensures.front ∙ c.move_rest.ensures }) c.fill-read.ensures.bound
    (new ∙ c.fill-read.ensures.tape ∙ ap (tape_after c.fill-read.result) (sym old)) (subst (λ o. IfSome o (λ t. Gives t c.fill-read.result (drop 128 c.fill-read.new.bytes))) (sym old) c.fill-read.ensures.gives))

pub returns-clause-kept : goal.returns-clause-kept
returns-clause-kept g c =
    view-some _ c.fill-read.new.source ∙ c.fill-read.ensures.kept ∙ sym (view-some _ c.self.inside.source) ∙ ap (λ (v : ReaderView). is_some v.source) c.self.view_is

pub returns-clause-faults : goal.returns-clause-faults
returns-clause-faults g c =
    let old : faults_of c.args.self.now ≡ option_map_or g.S.Source.faults c.self.inside.source 0 = ap faults_of (sym c.self.view_is) ∙ view-faults g.S.Source.tape g.S.Source.faults c.self.inside.source in
    let new = view-faults g.S.Source.tape g.S.Source.faults c.fill-read.new.source in
    omega (arith, old, new, c.fill-read.ensures.falls_never)

pub returns-clause-failed : goal.returns-clause-failed
returns-clause-failed g c =
    let old : faults_of c.args.self.now ≡ option_map_or g.S.Source.faults c.self.inside.source 0 = ap faults_of (sym c.self.view_is) ∙ view-faults g.S.Source.tape g.S.Source.faults c.self.inside.source in
    let new = view-faults g.S.Source.tape g.S.Source.faults c.fill-read.new.source in
    rw (old, new) c.fill-read.ensures.failed
