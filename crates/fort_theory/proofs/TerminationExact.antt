-- Where root steps lead to finitely many terms, a term terminates exactly where it reaches no infinitely many terms, and none that reaches itself by steps.
use Rattle.std.specs.Prelude.{◌↔◌, List, length, refl}
use Rattle.fort_theory.specs.Trees.{Tree}
use Rattle.fort_theory.specs.Signatures.{Signature, IsGround}
use Rattle.fort_theory.specs.Rewriting.{Relation, Rewrites, Reduces}
use Rattle.fort_theory.proofs.GroundSteps.{RelatesGround, Reduces-keeps_ground}
use Rattle.fort_theory.specs.Termination.{IsTerminating, ReachesInfinitelyMany, ReachesCycle}
use Rattle.fort_theory.proofs.Successors.{LeadsTo, successors, Contains-successors}
use Rattle.fort_theory.proofs.Stops.{Stops-from_paths, Stops-paths, Stops-along, Stops-no_cycle, Stops-listed}
use Rattle.fort_theory.proofs.ReductsListed.{reducts, Contains-reducts}

module _ (signature : Signature) (root : Relation) where
  -- what is reached by fewer steps than no reduction has is a finite list
  pub finite-from_IsTerminating : (targets : List Tree) → LeadsTo targets root → (s : Tree) → IsTerminating root s
      → ReachesInfinitelyMany signature root s → ⊥
  finite-from_IsTerminating targets leads s ends many =
      ends (λ n none. many (reducts (successors targets) n s) (λ t k. k.1.1 (λ reached. k.0
      (Contains-reducts (Rewrites root) (successors targets) (Contains-successors root targets leads) n s reached.0 t
      (Stops-from_paths (Rewrites root) n s none) reached.1))))

  -- a cycle could be gone round any number of times
  pub acyclic-from_IsTerminating : (s : Tree) → IsTerminating root s → ReachesCycle signature root s → ⊥
  acyclic-from_IsTerminating s ends cycle =
      ends (λ n none. cycle (λ t k. k.1.0 (λ reached. k.1.1 (λ again.
      Stops-no_cycle (Rewrites root) n t
      (Stops-along (Rewrites root) n s reached.0 t (Stops-from_paths (Rewrites root) n s none) reached.1) again))))

  -- a list that holds all reducts bounds the steps
  pub IsTerminating-from_finite : RelatesGround signature root → (s : Tree) → IsGround signature s
      → (ReachesInfinitelyMany signature root s → ⊥) → (ReachesCycle signature root s → ⊥) → IsTerminating root s
  IsTerminating-from_finite between s is_ground finite acyclic none =
      finite (λ ts no_other. none (length ts) (Stops-paths (Rewrites root) (length ts) s
      (Stops-listed (Rewrites root) (length ts) ts s refl
      (λ t reached no. no_other t (no, (ground t reached, (λ k. k reached))))
      (λ t reached again. acyclic (λ no_cycle. no_cycle t (ground t reached, ((λ k. k reached), (λ k. k again))))))))
    where
      ground : (t : Tree) → Reduces root s t → IsGround signature t
      ground t reached = Reduces-keeps_ground signature root between s t reached is_ground

  -- Result
  pub IsTerminating-exact : (targets : List Tree) → LeadsTo targets root → RelatesGround signature root → (s : Tree) → IsGround signature s
      → IsTerminating root s ↔ ((ReachesInfinitelyMany signature root s → ⊥) × (ReachesCycle signature root s → ⊥))
  IsTerminating-exact targets leads between s is_ground = (
    (λ ends. (finite-from_IsTerminating targets leads s ends, acyclic-from_IsTerminating s ends)),
    (λ w. IsTerminating-from_finite between s is_ground w.0 w.1),
  )
