-- Each named property is true exactly where the core formula that stands for it is.
use Rattle.std.specs.Prelude.{◌≡◌, ◌↔◌, ℕ, ◌+◌}
use Rattle.std.proofs.Common.{sym, arith}
use Rattle.fort_theory.specs.Logic.{Surely, HasSome}
use Rattle.fort_theory.specs.Trees.{Tree}
use Rattle.fort_theory.specs.Signatures.{Signature, IsGround, HasConstant}
use Rattle.fort_theory.specs.Rewriting.{Relation, Rewrites, RewritesAtMostOnce, Reduces, Converts, IsNormalForm}
use Rattle.fort_theory.specs.Structures.{Structure}
use Rattle.fort_logic.specs.Truth.{AreJoinable, HasProperty}
use Rattle.fort_logic.specs.Formulas.{Property, Cr, Wcr, Scr, Wn, Unr, Unc, Nfp}
use Rattle.fort_theory.specs.Cores as core
use Rattle.fort_theory.specs.Logic as logic
use Rattle.fort_theory.specs.Cores.{Core}
use Rattle.fort_theory.specs.CoreTruth.{Places, with_number}
use Rattle.fort_logic.specs.Translation.{atom, some, equal as equals, implies, joins, normalises, at_most_one_step, property_core}
use Rattle.fort_logic.proofs.Binders.{Met, Met-some, Met-every, Met-implies}
use Rattle.fort_logic.proofs.Abbreviations.{moved, Met-meets, Met-joins, Met-fork_property, Met-every_two, first_of_two, second_of_two, SurelyReduces, SurelySteps, SurelyNormalises, SurelyAtMostOnce, means_star, means_step, means_normalises, means_at_most_one, surely_at_most_once}

-- what is said of all that is related to a term surely is said of all that is related
pub fork_law : (signature : Signature) (A B Q : Relation) → ((s t : Tree) → Surely (Q s t) → Q s t)
    → ((s t : Tree) → IsGround signature s → IsGround signature t → HasSome (λ u. IsGround signature u × (Surely (A u s) × Surely (B u t))) → Q s t)
    ↔ ((u s t : Tree) → IsGround signature u → IsGround signature s → IsGround signature t → A u s → B u t → Q s t)
fork_law signature A B Q stable = (
  (λ h u s t gu gs gt a b. h s t gs gt (λ none. none u (gu, ((λ no. no a), (λ no. no b))))),
  (λ p s t gs gt fork. stable s t (λ no. fork (λ u k. k.1.0 (λ a. k.1.1 (λ b. no (p u s t k.0 gs gt a b)))))),
)

module _ (structure : Structure) (index : ℕ) (constant : HasConstant structure.signature) where
  abbrev signature : Signature
  signature = structure.signature

  abbrev root : Relation
  root = structure.root index

  -- both are normal forms, and convertible; then the second alone is
  abbrev BothNormal : Relation
  BothNormal s t = (Surely (Converts root s t) × IsNormalForm root s) × IsNormalForm root t

  abbrev ToNormal : Relation
  ToNormal s t = Surely (Converts root s t) × IsNormalForm root t

  abbrev normals : ℕ → Core
  normals n = core.Binary logic.And (core.Binary logic.And (atom core.Conv index n (n + 1)) (core.Leaf (core.Normal index n))) (core.Leaf (core.Normal index (n + 1)))

  abbrev half_normal : ℕ → Core
  half_normal n = core.Binary logic.And (atom core.Conv index n (n + 1)) (core.Leaf (core.Normal index (n + 1)))

  -- one step at most from the first, a reduction from the second
  abbrev Meets : Relation
  Meets t u = HasSome (λ v. IsGround signature v × RewritesAtMostOnce root t v × Reduces root u v)

  not_next : (n : ℕ) → n ≡ n + 2 → ⊥
  not_next n h = omega arith

  not_after : (n : ℕ) → n + 1 ≡ n + 2 → ⊥
  not_after n h = omega arith

  joined : (n : ℕ) (w : Places) (s t : Tree) → w n ≡ s → w (n + 1) ≡ t → Met structure (joins index (n + 2) n (n + 1)) w ↔ AreJoinable structure index s t
  joined n w s t e f = Met-joins structure index constant (n + 2) n (n + 1) w s t (not_next n) (not_after n) e f

  met : (n : ℕ) (w : Places) (s t : Tree) → w n ≡ s → w (n + 1) ≡ t
      → Met structure (some (n + 2) (core.Binary logic.And (at_most_one_step index n (n + 2)) (atom core.Star index (n + 1) (n + 2)))) w ↔ Meets s t
  met n w s t e f =
      let meets = Met-meets structure index constant (at_most_one_step index) (atom core.Star index) (SurelyAtMostOnce structure index) (SurelyReduces structure index) (means_at_most_one structure index) (means_star structure index)
      (n + 2) n (n + 1) w s t (not_next n) (not_after n) e f in (
        (λ h none. meets.0 h (λ u k. (surely_at_most_once structure index s u).1 k.1.0 (λ a. k.1.1 (λ b. none u (k.0, a, b))))),
        (λ h. meets.1 (λ none. h (λ u k. none u (k.0, ((surely_at_most_once structure index s u).0 (λ no. no k.1), (λ no. no k.2)))))),
      )

  equal : (n : ℕ) (w : Places) (s t : Tree) → w n ≡ s → w (n + 1) ≡ t → Met structure (equals n (n + 1)) w ↔ Surely (s ≡ t)
  equal n w s t e f = (
    moved (λ a b. Surely (a ≡ b)) (w n) (w (n + 1)) s t e f,
    moved (λ a b. Surely (a ≡ b)) s t (w n) (w (n + 1)) (sym e) (sym f),
  )

  joinable_stable : (s t : Tree) → Surely (AreJoinable structure index s t) → AreJoinable structure index s t
  joinable_stable s t h none = h (λ some. some none)

  meets_stable : (s t : Tree) → Surely (Meets s t) → Meets s t
  meets_stable s t h none = h (λ some. some none)

  pub Met-property : (p : Property) (n : ℕ) (v : Places) → Met structure (property_core p index n) v ↔ HasProperty structure index p
  Met-property Cr n v =
      let fork = Met-fork_property structure index constant (atom core.Star index) (atom core.Star index)
      (SurelyReduces structure index) (SurelyReduces structure index)
      (means_star structure index) (means_star structure index) n
      (joins index (n + 2) n (n + 1)) (AreJoinable structure index) (joined n) v in
      let law = fork_law signature (Reduces root) (Reduces root) (AreJoinable structure index) joinable_stable in
      ((λ h. law.0 (fork.0 h)), (λ p. fork.1 (law.1 p)))
  Met-property Wcr n v =
      let fork = Met-fork_property structure index constant (atom core.Step index) (atom core.Step index)
      (SurelySteps structure index) (SurelySteps structure index)
      (means_step structure index) (means_step structure index) n
      (joins index (n + 2) n (n + 1)) (AreJoinable structure index) (joined n) v in
      let law = fork_law signature (Rewrites root) (Rewrites root) (AreJoinable structure index) joinable_stable in
      ((λ h. law.0 (fork.0 h)), (λ p. fork.1 (law.1 p)))
  Met-property Scr n v =
      let fork = Met-fork_property structure index constant (atom core.Step index) (atom core.Step index)
      (SurelySteps structure index) (SurelySteps structure index)
      (means_step structure index) (means_step structure index) n
      (some (n + 2) (core.Binary logic.And (at_most_one_step index n (n + 2)) (atom core.Star index (n + 1) (n + 2)))) Meets (met n) v in
      let law = fork_law signature (Rewrites root) (Rewrites root) Meets meets_stable in
      ((λ h. law.0 (fork.0 h)), (λ p. fork.1 (law.1 p)))
  Met-property Wn n v = (
    (λ h s gs none. (inner s).0 ((Met-every structure constant n (some (n + 1) (normalises index n (n + 1))) v).0 h s gs) none),
    (λ p. (Met-every structure constant n (some (n + 1) (normalises index n (n + 1))) v).1 (λ s gs. (inner s).1 (p s gs))),
  )
    where
      first : (s t : Tree) → with_number (with_number v n s) (n + 1) t n ≡ s
      first s t = first_of_two structure index constant n v s t

      second : (s t : Tree) → with_number (with_number v n s) (n + 1) t (n + 1) ≡ t
      second s t = second_of_two structure index constant n v s t

      inner : (s : Tree) → Met structure (some (n + 1) (normalises index n (n + 1))) (with_number v n s)
          ↔ HasSome (λ t. IsGround signature t × Reduces root s t × IsNormalForm root t)
      inner s = (
        (λ h none. (Met-some structure constant (n + 1) (normalises index n (n + 1)) (with_number v n s)).0 h (λ t k.
            let both = moved (SurelyNormalises structure index) _ _ s t (first s t) (second s t) k.1 in
            both.0 (λ reduces. none t (k.0, reduces, both.1)))),
        (λ h. (Met-some structure constant (n + 1) (normalises index n (n + 1)) (with_number v n s)).1 (λ none. h (λ t k.
            none t (k.0, moved (SurelyNormalises structure index) s t _ _ (sym (first s t)) (sym (second s t)) ((λ no. no k.1), k.2))))),
      )
  Met-property Unr n v =
      let fork = Met-fork_property structure index constant (normalises index) (normalises index)
      (SurelyNormalises structure index) (SurelyNormalises structure index)
      (means_normalises structure index) (means_normalises structure index) n
      (equals n (n + 1)) (λ s t. Surely (s ≡ t)) (equal n) v in (
        (λ h s t u gs gt gu st su nt nu. fork.0 h t u gt gu (λ none. none s (gs, (((λ no. no st), nt), ((λ no. no su), nu))))),
        (λ p. fork.1 (λ t u gt gu some no. some (λ s k. k.1.0.0 (λ st. k.1.1.0 (λ su. p s t u k.0 gt gu st su k.1.0.1 k.1.1.1 no))))),
      )
  Met-property Unc n v = (
    (λ h s t gs gt st ns nt.
        let w = with_number (with_number v n s) (n + 1) t in
        (equal n w s t (first_of_two structure index constant n v s t) (second_of_two structure index constant n v s t)).0
        ((Met-implies structure (normals n) (equals n (n + 1)) w).0
        ((Met-every_two structure index constant n (implies (normals n) (equals n (n + 1))) v).0 h s t gs gt)
        (moved BothNormal s t (w n) (w (n + 1)) (sym (first_of_two structure index constant n v s t)) (sym (second_of_two structure index constant n v s t)) (((λ no. no st), ns), nt)))),
    (λ p. (Met-every_two structure index constant n (implies (normals n) (equals n (n + 1))) v).1 (λ s t gs gt.
        let w = with_number (with_number v n s) (n + 1) t in
        (Met-implies structure (normals n) (equals n (n + 1)) w).1 (λ h.
        let k = moved BothNormal (w n) (w (n + 1)) s t (first_of_two structure index constant n v s t) (second_of_two structure index constant n v s t) h in
        (equal n w s t (first_of_two structure index constant n v s t) (second_of_two structure index constant n v s t)).1
        (λ no. k.0.0 (λ st. p s t gs gt st k.0.1 k.1 no))))),
  )
  Met-property Nfp n v = (
    (λ h s t gs gt st nt.
        let w = with_number (with_number v n s) (n + 1) t in
        moved (SurelyReduces structure index) (w n) (w (n + 1)) s t (first_of_two structure index constant n v s t) (second_of_two structure index constant n v s t)
        ((Met-implies structure (half_normal n) (atom core.Star index n (n + 1)) w).0
        ((Met-every_two structure index constant n (implies (half_normal n) (atom core.Star index n (n + 1))) v).0 h s t gs gt)
        (moved ToNormal s t (w n) (w (n + 1)) (sym (first_of_two structure index constant n v s t)) (sym (second_of_two structure index constant n v s t)) ((λ no. no st), nt)))),
    (λ p. (Met-every_two structure index constant n (implies (half_normal n) (atom core.Star index n (n + 1))) v).1 (λ s t gs gt.
        let w = with_number (with_number v n s) (n + 1) t in
        (Met-implies structure (half_normal n) (atom core.Star index n (n + 1)) w).1 (λ h.
        let k = moved ToNormal (w n) (w (n + 1)) s t (first_of_two structure index constant n v s t) (second_of_two structure index constant n v s t) h in
        moved (SurelyReduces structure index) s t (w n) (w (n + 1)) (sym (first_of_two structure index constant n v s t)) (sym (second_of_two structure index constant n v s t))
        (λ no. k.0 (λ st. p s t gs gt st k.1 no))))),
  )
