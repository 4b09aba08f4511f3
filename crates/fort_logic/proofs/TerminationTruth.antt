-- Where root steps lead to finitely many terms, a ground term terminates exactly where the core formula that stands for it is true; likewise all of them.
use Rattle.std.specs.Prelude.{◌≡◌, ◌↔◌, ℕ, ◌+◌, List}
use Rattle.std.proofs.Common.{sym, ◌∙◌, arith}
use Rattle.fort_theory.specs.Trees.{Tree}
use Rattle.fort_theory.specs.Signatures.{IsGround, HasConstant}
use Rattle.fort_theory.specs.Sides.{System, at_index}
use Rattle.fort_theory.proofs.GroundSteps.{RelatesGround, RelatesGround-RootStep}
use Rattle.fort_theory.specs.RightGround.{IsRightGroundAt}
use Rattle.fort_theory.specs.Termination.{IsTerminating, AllTerminate, ReachesInfinitelyMany, ReachesCycle}
use Rattle.fort_theory.proofs.Successors.{LeadsTo}
use Rattle.fort_theory.proofs.TerminationExact.{IsTerminating-exact}
use Rattle.fort_theory.proofs.RightGroundTargets.{targets_of, LeadsTo-RootStep}
use Rattle.fort_theory.specs.Structures.{Structure, structure_of}
use Rattle.fort_theory.specs.Cores.{Binary, Star, Plus}
use Rattle.fort_theory.specs.Logic.{And}
use Rattle.fort_theory.specs.CoreTruth.{Places, with_number}
use Rattle.fort_logic.specs.Translation.{atom, some, infinitely_many, terminates, all_terminate}
use Rattle.fort_theory.proofs.CorePlaces.{with_number-same, with_number-other}
use Rattle.fort_logic.proofs.Binders.{Met, Met-some, Met-every, Met-infinitely_many}
use Rattle.fort_logic.proofs.Abbreviations.{moved, SurelyReduces, SurelyReducesStrictly}

-- the root steps of the index are between ground terms, and lead to finitely many
pub record HasTargets (structure : Structure) (index : ℕ) : Type 0 where
  pub targets : List Tree
  pub leads : LeadsTo targets (structure.root index)
  pub between : RelatesGround structure.signature (structure.root index)

pub HasTargets-right_ground : (system : System) (index : ℕ) → IsRightGroundAt system index → HasTargets (structure_of system) index
HasTargets-right_ground system index right =
    let rules = at_index index system.rules in
    record {
      targets = targets_of rules;
      leads = LeadsTo-RootStep system.signature rules right;
      between = RelatesGround-RootStep system.signature rules;
    }

module _ (structure : Structure) (constant : HasConstant structure.signature) (index : ℕ) where
  module _ (n x : ℕ) (v : Places) (s : Tree) (other : x ≡ n → ⊥) (is_s : v x ≡ s) where
    at_x : (t : Tree) → with_number v n t x ≡ s
    at_x t = with_number-other v n t x other ∙ is_s

    at_n : (t : Tree) → with_number v n t n ≡ t
    at_n t = with_number-same v n t

    Met-many : Met structure (infinitely_many n (atom Star index x n)) v ↔ ReachesInfinitelyMany structure.signature (structure.root index) s
    Met-many =
        let means = Met-infinitely_many structure n (atom Star index x n) v in (
          (λ h ts none. means.0 h ts (λ t k. none t (
            k.0,
            (k.1.0, moved (SurelyReduces structure index) (with_number v n t x) (with_number v n t n) s t (at_x t) (at_n t) k.1.1),
          ))),
          (λ h. means.1 (λ ts none. h ts (λ t k. none t (
            k.0,
            (k.1.0, moved (SurelyReduces structure index) s t (with_number v n t x) (with_number v n t n) (sym (at_x t)) (sym (at_n t)) k.1.1),
          )))),
        )

    Met-cycle : Met structure (some n (Binary And (atom Star index x n) (atom Plus index n n))) v ↔ ReachesCycle structure.signature (structure.root index) s
    Met-cycle =
        let means = Met-some structure constant n (Binary And (atom Star index x n) (atom Plus index n n)) v in (
          (λ h none. means.0 h (λ t k. none t (
            k.0,
            (
              moved (SurelyReduces structure index) (with_number v n t x) (with_number v n t n) s t (at_x t) (at_n t) k.1.0,
              moved (SurelyReducesStrictly structure index) (with_number v n t n) (with_number v n t n) t t (at_n t) (at_n t) k.1.1,
            ),
          ))),
          (λ h. means.1 (λ none. h (λ t k. none t (
            k.0,
            (
              moved (SurelyReduces structure index) s t (with_number v n t x) (with_number v n t n) (sym (at_x t)) (sym (at_n t)) k.1.0,
              moved (SurelyReducesStrictly structure index) t t (with_number v n t n) (with_number v n t n) (sym (at_n t)) (sym (at_n t)) k.1.1,
            ),
          )))),
        )

    -- Result
    pub Met-terminates : HasTargets structure index → IsGround structure.signature s
        → Met structure (terminates index n x) v ↔ IsTerminating (structure.root index) s
    Met-terminates has is_ground =
        let exact = IsTerminating-exact structure.signature (structure.root index) has.targets has.leads has.between s is_ground in (
          (λ h. exact.1 ((λ many. h.0 (Met-many.1 many)), (λ cycle. h.1 (Met-cycle.1 cycle)))),
          (λ ends. ((λ many. (exact.0 ends).0 (Met-many.0 many)), (λ cycle. (exact.0 ends).1 (Met-cycle.0 cycle)))),
        )

  -- Result: the same of all ground terms
  pub Met-all_terminate : HasTargets structure index → (n : ℕ) (v : Places)
      → Met structure (all_terminate index n) v ↔ AllTerminate structure.signature (structure.root index)
  Met-all_terminate has n v =
      let means = Met-every structure constant n (terminates index (n + 1) n) v in (
        (λ h s is_ground. (one s is_ground).0 (means.0 h s is_ground)),
        (λ all. means.1 (λ s is_ground. (one s is_ground).1 (all s is_ground))),
      )
    where
      not_next : n ≡ n + 1 → ⊥
      not_next e = omega arith

      one : (s : Tree) → IsGround structure.signature s → Met structure (terminates index (n + 1) n) (with_number v n s) ↔ IsTerminating (structure.root index) s
      one s is_ground = Met-terminates (n + 1) n (with_number v n s) s not_next (with_number-same v n s) has is_ground
