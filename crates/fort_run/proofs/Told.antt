-- What holds of the bytes that a source told.
use Rattle.std.proofs.Common.{◌≡◌, ℕ, zero, suc, ◌<◌, List, [], ◌∷◌, ◌++◌, length, refl, ap, ◌∙◌, append-nil, arith}
use Rattle.std.specs.Prelude.{Option, Some, None, IfSome}
use Rattle.std.specs.Io.KnownBytes.{Consumes, IsAtEnd}
use Rattle.fort_answers.specs.Requests.{Text}
use Rattle.fort_answers.specs.InputAnswer.{input_limit}
use Rattle.fort_answers.specs.Told.{HoldsForTold}

-- some text is longer than any number says
longer_than : (n : ℕ) → (bytes : List ℕ) × (n < length bytes)
longer_than zero = (0 ∷ [], omega arith)
longer_than (suc n) = let r = longer_than n in (0 ∷ r.0, omega (arith, r.1))

-- the bytes that were read, all of them, are those that were told
told_are : (old new : Option Text) (bytes : Text) → Consumes old new bytes → IsAtEnd new → IfSome old (λ b. b ≡ bytes)
told_are None new bytes taken end = tt
told_are (Some xs) None bytes taken end = absurd taken
told_are (Some xs) (Some ys) bytes taken end = taken ∙ ap (λ w. bytes ++ w) end ∙ append-nil bytes

module _ (P : Text → Type 0) where
  pub told_read : (old new : Option Text) (bytes : Text) → Consumes old new bytes → IsAtEnd new → P bytes → HoldsForTold old P
  told_read old new bytes taken end holds = record { bytes = bytes; told_are = told_are old new bytes taken end; holds = holds }

  -- what holds of all that is too long holds of what is told to be so
  pub told_long : (told : Option Text) → IfSome told (λ bytes. input_limit < length bytes) → ((bytes : Text) → input_limit < length bytes → P bytes)
      → HoldsForTold told P
  told_long None long all = let some = longer_than input_limit in record { bytes = some.0; told_are = tt; holds = all some.0 some.1 }
  told_long (Some bytes) long all = record { bytes = bytes; told_are = refl; holds = all bytes long }

  pub told_any : (told : Option Text) → ((bytes : Text) → P bytes) → HoldsForTold told P
  told_any None all = record { bytes = []; told_are = tt; holds = all [] }
  told_any (Some bytes) all = record { bytes = bytes; told_are = refl; holds = all bytes }
