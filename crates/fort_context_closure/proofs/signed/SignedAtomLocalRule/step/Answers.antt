use Rattle.fort_context_closure.proofs.signed.SignedAtomLocalRule.step.Goals as goal

pub returns-in-Is : goal.returns-in-Is
returns-in-Is c = rw c.in-Is.is (c.step-in-Is.ensures c.args.self.now.signature.now)

pub returns-in-Expression : goal.returns-in-Expression
returns-in-Expression c = rw c.in-Expression.is (c.step-in-Expression.ensures c.args.self.now.signature.now)
