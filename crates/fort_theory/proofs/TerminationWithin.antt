-- What terminates by root steps terminates by fewer.
use Rattle.std.specs.Prelude.{ℕ}
use Rattle.fort_theory.specs.Trees.{Tree}
use Rattle.fort_theory.specs.Rewriting.{Relation, Rewrites}
use Rattle.fort_theory.proofs.WithinRoots.{Within, Path-within, Rewrites-within}
use Rattle.fort_theory.specs.Termination.{HasNoReductionOf, IsTerminating}

module _ (r q : Relation) (w : Within r q) where
  HasNoReductionOf-within : (n : ℕ) (s : Tree) → HasNoReductionOf q n s → HasNoReductionOf r n s
  HasNoReductionOf-within n s none us t e path = none us t e (Path-within (Rewrites r) (Rewrites q) (Rewrites-within r q w) s us t path)

  pub IsTerminating-within : (s : Tree) → IsTerminating q s → IsTerminating r s
  IsTerminating-within s ends none = ends (λ n stops. none n (HasNoReductionOf-within n s stops))
