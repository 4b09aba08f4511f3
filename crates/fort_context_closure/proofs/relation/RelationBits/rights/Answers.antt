use Rattle.fort_context_closure.proofs.relation.RelationBits.rights.Goals as goal

pub returns : goal.returns
returns c = rw (← c.self.view_is, c.deref.ensures.value) c.self.invariant.right_numbers
