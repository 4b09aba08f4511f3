-- A result, which no proof cites: SN of a variable is true exactly where the formula is that it stands for, in the user's own words, over right-ground rules.
use Rattle.std.specs.Prelude.{◌≡◌, ◌↔◌, ℕ, false, if◌then◌else◌, Some, bytes_eq}
use Rattle.std.proofs.Common.{ap, sym}
use Rattle.fort_theory.specs.Logic.{Surely}
use Rattle.fort_theory.specs.Trees.{Tree}
use Rattle.fort_theory.specs.Signatures.{IsGround}
use Rattle.fort_theory.specs.Sides.{System}
use Rattle.fort_theory.specs.Rewriting.{Reduces, ReducesStrictly, RootStepAt}
use Rattle.fort_theory.specs.RightGround.{IsRightGroundAt}
use Rattle.fort_theory.specs.Termination.{ReachesInfinitelyMany, ReachesCycle}
use Rattle.fort_theory.proofs.RightGroundTargets.{IsTerminating-right_ground}
use Rattle.fort_logic.specs.Formulas.{Name, Var, Formula, Star, Plus, Related, Sn, Not, And, Exists, Infinite}
use Rattle.fort_theory.specs.Structures.{structure_of}
use Rattle.fort_logic.specs.Truth.{Assignment, with_name, Holds}
use Rattle.fort_logic.proofs.ScopeNumbers.{name_itself}
use Rattle.fort_logic.proofs.Abbreviations.{moved}

-- ~infinite y (x ->* y) & ~exists y (x ->* y & y ->+ y)
abbrev pub abbreviated : (x y : Name) (index : ℕ) → Formula
abbreviated x y index =
    And (Not (Infinite y (Related Star (Var x) (Var y) index)))
    (Not (Exists y (And (Related Star (Var x) (Var y) index) (Related Plus (Var y) (Var y) index))))

module _ (system : System) (index : ℕ) (right : IsRightGroundAt system index) (m : Assignment) (x y : Name) (other : bytes_eq x y ≡ false) where
  abbrev Star_of : Tree → Tree → Type 0
  Star_of s t = Surely (Reduces (RootStepAt system index) s t)

  abbrev Plus_of : Tree → Tree → Type 0
  Plus_of s t = Surely (ReducesStrictly (RootStepAt system index) s t)

  at_x : (t : Tree) → with_name m y t (Var x) ≡ m (Var x)
  at_x t = ap (λ b. if b then t else m (Var x)) other

  at_y : (t : Tree) → with_name m y t (Var y) ≡ t
  at_y t = ap (λ b. if b then t else m (Var y)) (name_itself y)

  many : Holds (structure_of system) (Infinite y (Related Star (Var x) (Var y) index)) m
      ↔ ReachesInfinitelyMany system.signature (RootStepAt system index) (m (Var x))
  many = (
    (λ h ts none. h ts (λ t k. none t (k.0, (k.1.0, moved Star_of (with_name m y t (Var x)) (with_name m y t (Var y)) (m (Var x)) t (at_x t) (at_y t) k.1.1)))),
    (λ h ts none. h ts (λ t k. none t
        (k.0, (k.1.0, moved Star_of (m (Var x)) t (with_name m y t (Var x)) (with_name m y t (Var y)) (sym (at_x t)) (sym (at_y t)) k.1.1)))),
  )

  cycle : Holds (structure_of system) (Exists y (And (Related Star (Var x) (Var y) index) (Related Plus (Var y) (Var y) index))) m
      ↔ ReachesCycle system.signature (RootStepAt system index) (m (Var x))
  cycle = (
    (λ h none. h (λ t k. none t (
      k.0,
      (
        moved Star_of (with_name m y t (Var x)) (with_name m y t (Var y)) (m (Var x)) t (at_x t) (at_y t) k.1.0,
        moved Plus_of (with_name m y t (Var y)) (with_name m y t (Var y)) t t (at_y t) (at_y t) k.1.1,
      ),
    ))),
    (λ h none. h (λ t k. none t (
      k.0,
      (
        moved Star_of (m (Var x)) t (with_name m y t (Var x)) (with_name m y t (Var y)) (sym (at_x t)) (sym (at_y t)) k.1.0,
        moved Plus_of t t (with_name m y t (Var y)) (with_name m y t (Var y)) (sym (at_y t)) (sym (at_y t)) k.1.1,
      ),
    ))),
  )

  -- Result
  pub Holds-Sn : IsGround system.signature (m (Var x))
      → Holds (structure_of system) (Sn (Some (Var x)) index) m ↔ Holds (structure_of system) (abbreviated x y index) m
  Holds-Sn is_ground =
      let exact = IsTerminating-right_ground system index right (m (Var x)) is_ground in (
        (λ ends. ((λ h. (exact.0 ends).0 (many.0 h)), (λ h. (exact.0 ends).1 (cycle.0 h)))),
        (λ h. exact.1 ((λ k. h.0 (many.1 k)), (λ k. h.1 (cycle.1 k)))),
      )
