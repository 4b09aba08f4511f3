use Rattle.fort_entry_walk.specs.WalkPlaces.{place, entry_at}
use Rattle.fort_lockstep.specs.MakerInside.{made_in}
use Rattle.fort_lockstep.proofs.MakingLaws.{standing_due}
use Rattle.fort_lockstep.proofs.maker.Maker.due_row.Goals as goal

pub returns-then-self-clause-some : goal.returns-then-self-clause-some
returns-then-self-clause-some c =
    let a = c.self.inside in
    let s = rw c.if-self.true at c.self.invariant.stands in
    rw (← c.self.view_is, c.self.invariant.row) (standing_due (made_in a) (entry_at (place a.walk)) s)

pub returns-else-self-clause-none : goal.returns-else-self-clause-none
returns-else-self-clause-none c =
    let s = rw c.if-self.false at c.self.invariant.stands in
    rw (← c.self.view_is) s
