use Rattle.std.proofs.Common.{◌≡◌, ◌++◌, List, take}
use Rattle.fort_theory.specs.Trees.{Tree}
use Rattle.fort_answers.specs.SolutionTerms.{solution_text}
use Rattle.fort_run.specs.Witnesses.{AreTermsAt}
use Rattle.fort_run.proofs.solutions.push_solution.Given as goal

abbrev pub invariant-loop-column : goal.invariant-loop-column
invariant-loop-column l =
    (ts : List Tree) → AreTermsAt l.signature l.names l.dag l.node ts
    → l.text.items ≡ l.initial.text.items ++ solution_text l.signature (take l.column l.names) (take l.column ts)
