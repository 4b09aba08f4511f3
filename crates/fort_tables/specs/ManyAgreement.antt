-- To believe: when two optional tuples agree at "infinitely many terms in column c", by when tuples agree at its body.
use Rattle.std.specs.Prelude.{◌↔◌, ℕ, Some}
use Rattle.std.specs.List.{insert}
use Rattle.fort_theory.specs.Logic.{HasInfinitelyMany}
use Rattle.fort_theory.specs.Trees.{Tree}
use Rattle.fort_theory.specs.Signatures.{Signature, IsGround}
use Rattle.fort_tables.specs.Tuples.{Tuple}
use Rattle.fort_tables.specs.Agreement.{Agreement, AgreeAtSome}

-- infinitely many terms in column c complete the tuple to one that agrees with this completion of it
abbrev pub HasManyLike : Signature → ℕ → Agreement → Tuple → Tree → Type 0
HasManyLike sig c agree t x = HasInfinitelyMany (λ v. IsGround sig v × agree (insert t c (Some v)) (insert t c (Some x)))

-- for "infinitely many terms in column c": as for "some", and where two completions agree, infinitely many terms agree with the one
-- exactly where infinitely many do with the other
pub record AgreeAtMany (sig : Signature) (c : ℕ) (agree : Agreement) (t u : Tuple) : Type 0 where
  pub some : AgreeAtSome sig c agree t u
  pub many : (x y : Tree) → IsGround sig x → IsGround sig y → agree (insert t c (Some x)) (insert u c (Some y))
      → HasManyLike sig c agree t x ↔ HasManyLike sig c agree u y
