use Rattle.std.proofs.lemmas.Result.{IfOk-weaker}
use Rattle.fort_explore.proofs.table.Exploration.give_all.Goals as goal

pub give_targets-requires-clause-exploring : goal.give_targets-requires-clause-exploring
give_targets-requires-clause-exploring g c = (c.args.self.now.maker.signature, c.requires.served, c.requires.exploring)

pub returns-clause-whole : goal.returns-clause-whole
returns-clause-whole g c = IfOk-weaker c.give_targets.result _ _ (λ b h. h c.args.self.now.maker.signature c.requires.served c.requires.exploring) c.give_targets.ensures.whole

pub returns-clause-over : goal.returns-clause-over
returns-clause-over g c = IfOk-weaker c.give_targets.result _ _ (λ b h. h c.args.self.now.maker.signature c.requires.served c.requires.exploring) c.give_targets.ensures.over
