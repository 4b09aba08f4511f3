use Rattle.std.proofs.Common.{◌+◌, ◌≤◌, ◌++◌, length, ap, arith}
use Rattle.fort_sexpr.specs.Nodes.{opens_before}
use Rattle.fort_sexpr.proofs.Tallies.{opens_few}
use Rattle.fort_sexpr.proofs.front.Front.make_room.Goals as goal
use Rattle.fort_sexpr.proofs.front.Front.make_room.Goals.{then-piece-le-SHORT, else-piece-le-SHORT+in_ok-lists}

pub returns-in-Ok-clause-lists : goal.returns-in-Ok-clause-lists
returns-in-Ok-clause-lists c =
    let front = c.args.self.now in
    let text = front.bytes.items ++ c.args.piece.now in
    let more : opens_before text (length text) ≤ length front.walk.lists.items + c.if-piece-le-SHORT.lists =
    elim c.if-piece-le-SHORT.branch [
      | then-piece-le-SHORT w ↦ omega (arith, opens_few front c.requires.read c.args.piece.now, w.lists-is)
      | else-piece-le-SHORT+in_ok-lists w ↦ omega (arith, w.in_ok-lists.ensures.lists, w.lists-is)
    ] in
    let walk = c.reserve.new.self.walk in
    let same = ap (λ xs. length xs) c.reserve.ensures.same.walk_same.lists_same in
    record {
      open_room = c.in-Ok.ensures.open;
      lists_room = omega (arith, more, same, walk.lists.ok.0, c.in-Ok.ensures.lists);
    }
