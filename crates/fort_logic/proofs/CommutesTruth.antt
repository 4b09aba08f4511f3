-- That two lists of rules commute is true exactly where the core formula that stands for it is.
use Rattle.std.specs.Prelude.{◌≡◌, ◌↔◌, ℕ, ◌+◌}
use Rattle.std.proofs.Common.{arith}
use Rattle.fort_theory.specs.Logic.{Surely, HasSome, And}
use Rattle.fort_theory.specs.Trees.{Tree}
use Rattle.fort_theory.specs.Signatures.{IsGround, HasConstant}
use Rattle.fort_theory.specs.Rewriting.{Relation, Reduces}
use Rattle.fort_theory.specs.Structures.{Structure}
use Rattle.fort_logic.specs.Truth.{Commute}
use Rattle.fort_theory.specs.Cores.{Core, Binary, Star}
use Rattle.fort_theory.specs.CoreTruth.{Places}
use Rattle.fort_logic.specs.Translation.{atom, some, commutes}
use Rattle.fort_logic.proofs.Binders.{Met}
use Rattle.fort_logic.proofs.Abbreviations.{Met-meets, Met-fork_property, SurelyReduces, means_star}
use Rattle.fort_logic.proofs.PropertyTruth.{fork_law}

module _ (structure : Structure) (constant : HasConstant structure.signature) where
  -- a common reduct, of the first term by the rules of index 2 and of the second by those of index 1
  abbrev MeetAcross : Relation
  MeetAcross t u =
      HasSome (λ v. IsGround structure.signature v × Reduces (structure.root 2) t v × Reduces (structure.root 1) u v)

  abbrev across : ℕ → Core
  across n = some (n + 2) (Binary And (atom Star 2 n (n + 2)) (atom Star 1 (n + 1) (n + 2)))

  met : (n : ℕ) (w : Places) (s t : Tree) → w n ≡ s → w (n + 1) ≡ t → Met structure (across n) w ↔ MeetAcross s t
  met n w s t e f =
      let one : n ≡ n + 2 → ⊥ = omega arith in
      let two : n + 1 ≡ n + 2 → ⊥ = omega arith in
      let meets =
      Met-meets structure 1 constant (atom Star 2) (atom Star 1) (SurelyReduces structure 2) (SurelyReduces structure 1)
      (means_star structure 2) (means_star structure 1) (n + 2) n (n + 1) w s t one two e f in (
        (λ h none. meets.0 h (λ u k. k.1.0 (λ a. k.1.1 (λ b. none u (k.0, a, b))))),
        (λ h. meets.1 (λ none. h (λ u k. none u (k.0, ((λ no. no k.1), (λ no. no k.2)))))),
      )

  meet_stable : (s t : Tree) → Surely (MeetAcross s t) → MeetAcross s t
  meet_stable s t h none = h (λ some. some none)

  pub Met-commutes : (n : ℕ) (v : Places) → Met structure (commutes n) v ↔ Commute structure
  Met-commutes n v =
      let fork =
      Met-fork_property structure 1 constant (atom Star 1) (atom Star 2) (SurelyReduces structure 1) (SurelyReduces structure 2)
      (means_star structure 1) (means_star structure 2) n (across n) MeetAcross (met n) v in
      let law = fork_law structure.signature (Reduces (structure.root 1)) (Reduces (structure.root 2)) MeetAcross meet_stable in
      ((λ h. law.0 (fork.0 h)), (λ p. fork.1 (law.1 p)))
