use Rattle.fort_context_closure.proofs.normal.NormalBits.lefts.Goals as goal

pub returns : goal.returns
returns c = rw (← c.self.view_is, c.deref.ensures.value) c.self.invariant.numbers
