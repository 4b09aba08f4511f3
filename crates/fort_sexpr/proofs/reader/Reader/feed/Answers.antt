use Rattle.fort_sexpr.proofs.Fronts.{end_faultless}
use Rattle.fort_sexpr.proofs.reader.Reader.feed.Goals as goal

pub returns-in-Some-clause-stays : goal.returns-in-Some-clause-stays
returns-in-Some-clause-stays c = λ _.
    let stopped = rw c.in-Some.is at c.self.invariant.stopped in
    rw (← c.self.view_is) (cc (stopped.nothing, c.in-Some.is))

pub returns-then-is_empty-clause-faultless : goal.returns-then-is_empty-clause-faultless
returns-then-is_empty-clause-faultless c =
    let front = c.self.inside.front in
    rw (← c.self.view_is) (end_faultless front.bytes.items _ _ _ front.at c.self.invariant.read.read c.self.invariant.read.seen)

pub returns-in-Ok-clause-faultless : goal.returns-in-Ok-clause-faultless
returns-in-Ok-clause-faultless c =
    let front = c.feed.new.self in
    end_faultless front.bytes.items _ _ _ front.at c.in-Ok.ensures.read.read c.in-Ok.ensures.read.seen
