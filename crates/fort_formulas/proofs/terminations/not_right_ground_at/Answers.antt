use Rattle.std.proofs.Common.{◌<◌, length, arith, sym, ◌∙◌, true≢false}
use Rattle.fort_theory.specs.RightGround.{HasRightGroundPairsAt}
use Rattle.fort_logic.proofs.TerminationMentions.{AreAll-one, IsFirstWithout-one}
use Rattle.fort_formulas.proofs.FormulaTerminations.{right_ground-zero, right_ground-past}
use Rattle.fort_formulas.proofs.terminations.not_right_ground_at.Goals as goal
use Rattle.fort_formulas.proofs.terminations.not_right_ground_at.Goals.{then-index-eq0-via-then-index-eq0, then-index-eq0-via-else-index-eq0+then-index-number}

pub returns-then-index-eq0-clause-right : goal.returns-then-index-eq0-clause-right
returns-then-index-eq0-clause-right c =
    elim c.then-index-eq0.branch [
      | then-index-eq0-via-then-index-eq0 w ↦
          AreAll-one (HasRightGroundPairsAt c.args.system.now) c.args.index (right_ground-zero c.args.system.now c.args.index w.if-index-eq0.true)
      | then-index-eq0-via-else-index-eq0+then-index-number w ↦
          let past : length c.args.system.now.rules < c.args.index = omega (arith, w.number.ensures.count, w.if-index-number.true) in
          AreAll-one (HasRightGroundPairsAt c.args.system.now) c.args.index (right_ground-past c.args.system.now c.args.index past)
    ]

pub returns-else-right_ground-clause-first : goal.returns-else-right_ground-clause-first
returns-else-right_ground-clause-first c =
    IsFirstWithout-one (HasRightGroundPairsAt c.args.system.now) c.args.index
    (λ right. true≢false (sym (c.right_ground.ensures.1 right) ∙ c.if-right_ground.false))
