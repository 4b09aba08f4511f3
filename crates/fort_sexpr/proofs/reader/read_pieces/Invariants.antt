use Rattle.std.proofs.Common.{◌≡◌, None, take, flat_map}
use Rattle.fort_sexpr.proofs.reader.read_pieces.Given as goal

abbrev pub invariant-loop-piece : goal.invariant-loop-piece
invariant-loop-piece l = l.reader ≡ record { bytes = flat_map (λ p. p.now) (take l.piece-index l.pieces); fault = None }
