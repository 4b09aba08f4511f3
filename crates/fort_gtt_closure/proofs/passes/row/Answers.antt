use Rattle.std.proofs.Common.{◌+◌, ◌*◌, refl, arith}
use Rattle.fort_gtt_closure.proofs.ProgressLaws.{Progress-at, Progress-visited}
use Rattle.fort_gtt_closure.proofs.passes.row.Goals as goal

pub loop-q-preserved : goal.loop-q-preserved
loop-q-preserved c =
    let agtt = c.args.agtt.now in
    let here = c.args.p * agtt.left.states + c.loop-q.q in
    let new = c.visit.new.listing.grid.entries.items in
    record {
      progress = λ start h. Progress-at agtt start new (here + 1) (c.args.p * agtt.left.states + (c.loop-q.q + 1)) (omega arith)
          (Progress-visited agtt c.args.p c.loop-q.q here refl c.requires.there c.loop-q-test.true start c.loop-q.listing.grid.entries.items new
          (c.loop-q.invariant.progress start h) c.in_ok-visit.ensures.visited);
      ready = c.in_ok-visit.ensures.ready;
    }
