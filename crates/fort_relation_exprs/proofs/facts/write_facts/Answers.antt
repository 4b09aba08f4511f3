use Rattle.fort_relation_exprs.proofs.facts.write_facts.Goals as goal

pub returns-in-Root : goal.returns-in-Root
returns-in-Root c = rw c.in-Root.is (c.write_at_root.ensures c.args.root)
