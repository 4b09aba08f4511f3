-- To believe: when something holds of the bytes that a source tells.
use Rattle.std.specs.Prelude.{◌≡◌, Option, IfSome}
use Rattle.fort_answers.specs.Requests.{Text}

-- it holds of the bytes that were told; where none were, of some bytes
pub record HoldsForTold (told : Option Text) (P : Text → Type 0) : Type 0 where
  pub bytes : Text
  pub told_are : IfSome told (λ b. b ≡ bytes)
  pub holds : P bytes
