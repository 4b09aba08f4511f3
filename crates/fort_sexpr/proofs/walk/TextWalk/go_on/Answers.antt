use Rattle.std.proofs.Common.{reverse, arith}
use Rattle.fort_sexpr.proofs.Fronts.{front_reading, goes_nowhere}
use Rattle.fort_sexpr.proofs.walk.TextWalk.go_on.Goals as goal

pub loop-at-preserved : goal.loop-at-preserved
loop-at-preserved c =
    let bytes = c.args.bytes.now in
    let walk = c.step.new.self in
    let next = c.in-Some.next in
    let read = rw c.in-Some.is at c.in_ok-next.ensures.read in
    record {
      read = read;
      goes = goes_nowhere bytes next (front_reading bytes (reverse walk.open.items) walk.lists.items walk.count next read).read.within;
      room = record {
        open_room = omega arith;
        lists_room = omega arith;
      };
    }
