use Rattle.std.proofs.Common.{sym, ◌∙◌}
use Rattle.fort_formulas.proofs.CoreMembers.{pushed_once, there_once}
use Rattle.fort_formulas.proofs.subformulas.push_new.Goals as goal

pub returns-in_ok-_added : goal.returns-in_ok-_added
returns-in_ok-_added c = λ before once.
    pushed_once before c.args.found.now.keys c.insert.new.self.keys c.args.core.now c.in_ok-copy.field-0 c.in_ok-copy.ensures (sym c.contains.ensures ∙ c.if-not-contains.true) c.in_ok-_added.ensures.keys once

pub returns-else-not-contains : goal.returns-else-not-contains
returns-else-not-contains c = λ before once. there_once before c.args.found.now.keys c.args.core.now (sym c.contains.ensures ∙ c.if-not-contains.false) once
