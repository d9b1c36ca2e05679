use Rattle.stream_reader.proofs.Words.{◌∙◌, arith, subst, sym, IfSome, ℕ, List, take-put_mid_below, option_and_then, Gives}
use Rattle.stream_reader.proofs.Room.{drop-put_end, length-put_end, part-long}
use Rattle.stream_reader.proofs.piece.fill.Goals as goal

pub returns-clause-front : goal.returns-clause-front
returns-clause-front g c = take-put_mid_below 128 4096 c.args.bytes.now c.read_piece.new.piece 128 (omega arith) (omega (arith, c.told-bytes))

pub returns-clause-gives : goal.returns-clause-gives
returns-clause-gives g c =
    let P : List ℕ → Type 0 = λ bytes. IfSome (option_and_then g.S.Source.tape c.args.source.now) (λ tape. Gives tape c.read_piece.result bytes) in
    subst P (sym (drop-put_end 128 4096 c.args.bytes.now c.read_piece.new.piece (omega (arith, c.told-bytes)))) c.read_piece.ensures.gives

pub returns-clause-room : goal.returns-clause-room
returns-clause-room g c = length-put_end 128 4096 c.args.bytes.now c.read_piece.new.piece c.told-bytes (c.read_piece.auto.piece ∙ part-long 128 4096 c.args.bytes.now c.told-bytes)
