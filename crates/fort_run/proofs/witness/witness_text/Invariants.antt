use Rattle.std.proofs.Common.{◌≡◌, ◌++◌, List, take}
use Rattle.fort_theory.specs.Trees.{Tree}
use Rattle.fort_logic.specs.FreeNames.{free_names}
use Rattle.fort_formulas.specs.FormulaView.{as_formula}
use Rattle.fort_answers.specs.Witnesses.{bindings}
use Rattle.fort_run.specs.Witnesses.{AreLastTerms}
use Rattle.fort_run.proofs.witness.witness_text.Given as goal

abbrev pub invariant-loop-column : goal.invariant-loop-column
invariant-loop-column l =
    (ts : List Tree) → AreLastTerms l.signature (free_names (as_formula l.formula)) l.dag ts
    → l.text.items ≡ l.first ++ bindings l.signature (take l.column (free_names (as_formula l.formula))) (take l.column ts)
