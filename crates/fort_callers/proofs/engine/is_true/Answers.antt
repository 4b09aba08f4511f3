use Rattle.std.proofs.Common.{subst}
use Rattle.fort_theory.specs.PatternStructures.{pattern_structure}
use Rattle.fort_tables.specs.Tables.{listed_table}
use Rattle.fort_formulas.specs.CoreView.{as_core}
use Rattle.fort_parts.specs.PartAnswers.{IsAnswerTo}
use Rattle.fort_engine.specs.AnswerView.{as_answer}
use Rattle.fort_callers.proofs.ClosedTruths.{no_table}
use Rattle.fort_callers.proofs.engine.is_true.Goals as goal

pub unreachable-requires : goal.unreachable-requires
unreachable-requires c =
    let structure = pattern_structure c.args.system.now in
    let f = as_core c.args.core.now in
    no_table c.args.system.now f (listed_table c.in-Auto.field-0) c.requires.closed
    (subst (λ a. IsAnswerTo structure f (as_answer a)) c.in-Auto.is c.in-Ok.ensures.truth)
