use Rattle.std.proofs.Common.{length, ap, subst, arith}
use Rattle.fort_theory.specs.PatternStructures.{pattern_structure}
use Rattle.fort_parts.specs.PartAnswers.{IsAnswerTo}
use Rattle.fort_engine.specs.AnswerView.{as_answer}
use Rattle.fort_run.proofs.synth.is_true_over.Goals as goal

pub unreachable-requires : goal.unreachable-requires
unreachable-requires c =
    let root = c.requires.0 in
    let is = subst (λ l. IsAnswerTo (pattern_structure c.args.system.now) root (as_answer l)) c.in-Auto.is (c.in-Ok.ensures.truth root c.requires.1) in
    let some = is.over.some in
    let none = ap length c.requires.2 in
    omega (arith, some, none)
