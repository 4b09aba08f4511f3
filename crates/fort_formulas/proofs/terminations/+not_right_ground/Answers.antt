use Rattle.fort_theory.specs.RightGround.{HasRightGroundPairsAt}
use Rattle.fort_formulas.proofs.FormulaTerminations.{terminations-two, first-left, first-right}
use Rattle.fort_formulas.proofs.terminations.+not_right_ground.Goals as goal

pub returns-in-None-clause-first : goal.returns-in-None-clause-first
returns-in-None-clause-first t c =
    rw (terminations-two c.args.formula.now c.in-And.f c.in-And.g c.in-And.is, ← c.as_formula.ensures, ← c.as_formula-in-None.ensures)
    (first-right (HasRightGroundPairsAt c.args.system.now) _ _ c.not_right_ground-in-None.result c.in-None.ensures.right c.not_right_ground-in-None.ensures.first)

pub returns-in_default-clause-first : goal.returns-in_default-clause-first
returns-in_default-clause-first t c =
    rw (terminations-two c.args.formula.now c.in-And.f c.in-And.g c.in-And.is, ← c.as_formula.ensures)
    (first-left (HasRightGroundPairsAt c.args.system.now) _ _ c.not_right_ground.result c.not_right_ground.ensures.first)
