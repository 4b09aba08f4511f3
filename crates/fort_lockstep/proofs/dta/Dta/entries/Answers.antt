use Rattle.fort_lockstep.proofs.dta.Dta.entries.Goals as goal

pub returns-clause-finals : goal.returns-clause-finals
returns-clause-finals c = rw (← c.self.view_is) c.self.invariant.final_count
