use Rattle.fort_formulas.specs.CoreView.{as_core}
use Rattle.fort_formulas.specs.FormulaView.{as_formula}
use Rattle.fort_run.proofs.Deciding.{decided_core}
use Rattle.fort_run.proofs.verdict.core_for.Goals as goal

pub returns-in-Ok-clause-decided : goal.returns-in-Ok-clause-decided
returns-in-Ok-clause-decided c =
    decided_core (as_formula c.args.formula.now) c.args.system.now c.args.terms.now (as_core c.in-Ok.core) c.number-number.ensures.lawful c.requires
    c.in-Ok.ensures.well_formed c.in-Ok.ensures.ok
