-- What every system keeps: without rules, with one more.
use Rattle.std.specs.Prelude.{◌≡◌, ℕ, ◌≤◌, List, length}
use Rattle.std.proofs.Common.{arith}
use Rattle.fort_theory.specs.Signatures.{most_indices, Signature, HasConstant}
use Rattle.fort_theory.specs.Sides.{pushed_at, empty_lists}
use Rattle.fort_theory.specs.Patterns.{Pair, FitsPair, IsSystem}
use Rattle.fort_theory.proofs.IndexLaws.{All-empty_lists, All-pushed_at, length-empty_lists, length-pushed_at}

pub IsSystem-empty : (signature : Signature) (rules : List (List Pair)) (number : ℕ) → HasConstant signature → 1 ≤ number → number ≤ most_indices
    → rules ≡ empty_lists number → IsSystem (record { signature = signature; rules = rules })
IsSystem-empty signature rules number constant some few are =
    let count : length rules ≡ number = rw are (length-empty_lists Pair number) in record {
      constant = constant;
      some = omega (arith, count, some);
      few = omega (arith, count, few);
      fits = rw are (All-empty_lists (FitsPair signature) number);
    }

pub IsSystem-pushed : (signature : Signature) (rules more : List (List Pair)) (index : ℕ) (pair : Pair) → IsSystem (record { signature = signature; rules = rules })
    → FitsPair signature pair → more ≡ pushed_at index pair rules → IsSystem (record { signature = signature; rules = more })
IsSystem-pushed signature rules more index pair is fits are =
    let count : length more ≡ length rules = rw are (length-pushed_at index pair rules) in record {
      constant = is.constant;
      some = omega (arith, count, is.some);
      few = omega (arith, count, is.few);
      fits = rw are (All-pushed_at (FitsPair signature) index pair rules is.fits fits);
    }
