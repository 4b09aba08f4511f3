-- The patterns of a rule that fits a signature fit it.
use Rattle.std.specs.Prelude.{◌≡◌, suc, Some, refl}
use Rattle.std.proofs.Common.{ap, sym, ◌∙◌}
use Rattle.fort_theory.specs.Signatures.{Signature}
use Rattle.fort_theory.specs.Sides.{Side, Sides, Var, App, NoSide, MoreSides, side_count, FitsSide, FitsSides}
use Rattle.fort_theory.specs.Patterns.{pattern_of, patterns_of, pattern_count, FitsPattern, FitPatterns}

pub pattern_count-patterns_of : (ss : Sides) → pattern_count (patterns_of ss) ≡ side_count ss
pattern_count-patterns_of NoSide = refl
pattern_count-patterns_of (MoreSides s ss) = ap suc (pattern_count-patterns_of ss)

mutual
  pub FitsPattern-pattern_of : (signature : Signature) (s : Side) → FitsSide signature s → FitsPattern signature (pattern_of s)
  FitsPattern-pattern_of signature (Var v) fits = tt
  FitsPattern-pattern_of signature (App f ss) fits =
      (fits.0 ∙ ap Some (sym (pattern_count-patterns_of ss)), FitPatterns-patterns_of signature ss fits.1)

  pub FitPatterns-patterns_of : (signature : Signature) (ss : Sides) → FitsSides signature ss → FitPatterns signature (patterns_of ss)
  FitPatterns-patterns_of signature NoSide fits = tt
  FitPatterns-patterns_of signature (MoreSides s ss) fits =
      (FitsPattern-pattern_of signature s fits.0, FitPatterns-patterns_of signature ss fits.1)
