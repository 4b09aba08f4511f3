use Rattle.std.proofs.Common.{◌≡◌, ◌++◌, List, take, length}
use Rattle.fort_theory.specs.Trees.{Tree}
use Rattle.fort_logic.specs.FreeNames.{free_names}
use Rattle.fort_formulas.specs.FormulaView.{as_formula}
use Rattle.fort_answers.specs.SolutionTerms.{count_line, solution_lines}
use Rattle.fort_run.specs.Witnesses.{AreAllTermsAt}
use Rattle.fort_run.proofs.solutions.solutions_text.Given as goal

abbrev pub invariant-loop-k : goal.invariant-loop-k
invariant-loop-k l =
    (tss : List (List Tree)) → AreAllTermsAt l.signature (free_names (as_formula l.formula)) l.found.dag l.found.nodes.items tss
    → l.text.items ≡ count_line (length l.found.nodes.items) l.found.more ++ solution_lines l.signature (free_names (as_formula l.formula)) (take l.k tss)
