-- Inside: a made problem with the rules of its first constants alone.
use Rattle.std.specs.Prelude.{◌≡◌, ℕ, [], ◌∷◌, map}
use Rattle.std.specs.List.{range_with_len}
use Rattle.fort_theory.specs.Patterns.{PatternSystem, pattern_pair}
use Rattle.fort_answers.specs.MadeProblem.{made_signature, constant_rule}

pub record HasRulesSoFar (size count : ℕ) (system : PatternSystem) : Type 0 where
  pub signature : system.signature ≡ made_signature size
  pub rules : system.rules ≡ map pattern_pair (map (constant_rule size) (range_with_len 0 count)) ∷ []
