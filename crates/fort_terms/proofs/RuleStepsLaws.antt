-- The two patterns of a linear variable-separated rule have its root steps.
use Rattle.std.proofs.Common.{[], ◌∷◌}
use Rattle.std.proofs.lemmas.List.Elements.{All-nil, All-cons}
use Rattle.fort_theory.specs.Signatures.{Signature, HasConstant}
use Rattle.fort_theory.specs.Sides.{Rule, Side, IsLinearSeparated}
use Rattle.fort_theory.specs.Patterns.{pattern_of}
use Rattle.fort_theory.proofs.PatternSteps.{RootStep-PatternStep}
use Rattle.fort_terms.specs.RuleSteps.{HasItsSteps}

pub patterns_have_steps : (signature : Signature) (left right : Side) → HasConstant signature → IsLinearSeparated (record { left = left; right = right })
    → HasItsSteps signature (record { left = left; right = right }) (pattern_of left, pattern_of right)
patterns_have_steps signature left right constant apart =
    let rule : Rule = record { left = left; right = right } in
    record { same = RootStep-PatternStep signature (rule ∷ []) constant (All-cons IsLinearSeparated rule [] apart (All-nil IsLinearSeparated)) }
