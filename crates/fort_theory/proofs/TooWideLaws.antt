-- A formula is too wide exactly where an operand is, or it has too many columns of its own or is too long an atom.
use Rattle.std.specs.Prelude.{◌≡◌, ◌↔◌, ℕ, ◌≤◌, Bool, true, false, ◌||◌, List, [], ◌∷◌, ◌++◌, ◌⊎◌, length}
use Rattle.std.proofs.Common.{inl, inr}
use Rattle.std.proofs.lemmas.Bool.{cases_lt, or_cases, or_left, or_right}
use Rattle.fort_theory.specs.Signatures.{most_columns}
use Rattle.fort_theory.specs.Cores.{Core}
use Rattle.fort_theory.specs.Parts.{postorder, AreColumns, HasManyRootsAt, IsTooWide}
use Rattle.fort_theory.proofs.ColumnLaws.{AreTooMany, itself_not, IsTooWide-here, IsTooWide-long, IsTooWide-leaf, IsTooWide-first, IsTooWide-second, IsTooWide-one, IsTooWide-two}

pub IsTooWide-one_iff : (h f : Core) (columns : List ℕ) → postorder h ≡ postorder f ++ h ∷ [] → AreColumns h columns → (HasManyRootsAt h → ⊥)
    → (IsTooWide f ⊎ AreTooMany columns) ↔ IsTooWide h
IsTooWide-one_iff h f columns is are short = (
  (λ either. elim either [ inl w ↦ IsTooWide-first h f (h ∷ []) is w | inr wide ↦ IsTooWide-here h columns are wide ]),
  (λ w. elim (cases_lt most_columns (length columns)) [
    | inl wide ↦ inr wide
    | inr narrow ↦ inl (IsTooWide-one h f is (itself_not h columns are narrow short) w)
  ]),
)

-- an operand has the same columns
pub IsTooWide-same_iff : (h f : Core) (columns : List ℕ) → postorder h ≡ postorder f ++ h ∷ [] → AreColumns h columns → AreColumns f columns
    → (HasManyRootsAt h → ⊥) → IsTooWide f ↔ IsTooWide h
IsTooWide-same_iff h f columns is are same short =
    let one = IsTooWide-one_iff h f columns is are short in (
      (λ w. one.0 (inl w)),
      (λ w. elim (one.1 w) [ inl v ↦ v | inr wide ↦ IsTooWide-here f columns same wide ]),
    )

pub IsTooWide-two_iff : (h f g : Core) (columns : List ℕ) → postorder h ≡ postorder f ++ (postorder g ++ h ∷ []) → AreColumns h columns
    → (HasManyRootsAt h → ⊥) → ((IsTooWide f ⊎ IsTooWide g) ⊎ AreTooMany columns) ↔ IsTooWide h
IsTooWide-two_iff h f g columns is are short = (
  (λ either. elim either [
    | inl operand ↦ elim operand [
      | inl w ↦ IsTooWide-first h f (postorder g ++ h ∷ []) is w
      | inr w ↦ IsTooWide-second h f g is w
    ]
    | inr wide ↦ IsTooWide-here h columns are wide
  ]),
  (λ w. elim (cases_lt most_columns (length columns)) [
    | inl wide ↦ inr wide
    | inr narrow ↦ inl (IsTooWide-two h f g is (itself_not h columns are narrow short) w)
  ]),
)

-- ---- told by tests

pub tells-leaf : (h : Core) (columns : List ℕ) (told long : Bool) → postorder h ≡ h ∷ [] → AreColumns h columns
    → (told ≡ true) ↔ ((long ≡ true) ⊎ AreTooMany columns) → (long ≡ true) ↔ HasManyRootsAt h → (told ≡ true) ↔ IsTooWide h
tells-leaf h columns told long is are tells own = (
  (λ e. elim (tells.0 e) [ inl is_long ↦ IsTooWide-long h (own.0 is_long) | inr wide ↦ IsTooWide-here h columns are wide ]),
  (λ w. tells.1 (either w (cases_lt most_columns (length columns)) long_or_not)),
)
  where
    long_or_not : (long ≡ true) ⊎ (HasManyRootsAt h → ⊥)
    long_or_not = by long own
      where
        by : (b : Bool) → (b ≡ true) ↔ HasManyRootsAt h → (b ≡ true) ⊎ (HasManyRootsAt h → ⊥)
        by true k = inl cc
        by false k = inr (λ l. absurd (let e = k.1 l in cc))

    either : IsTooWide h → AreTooMany columns ⊎ (length columns ≤ most_columns) → (long ≡ true) ⊎ (HasManyRootsAt h → ⊥) → (long ≡ true) ⊎ AreTooMany columns
    either w (inl wide) l = inr wide
    either w (inr narrow) (inl is_long) = inl is_long
    either w (inr narrow) (inr short) = absurd (IsTooWide-leaf h is (itself_not h columns are narrow short) w)

pub tells-one : (h f : Core) (columns : List ℕ) (told operand : Bool) → postorder h ≡ postorder f ++ h ∷ [] → AreColumns h columns → (HasManyRootsAt h → ⊥)
    → (told ≡ true) ↔ ((operand ≡ true) ⊎ AreTooMany columns) → (operand ≡ true) ↔ IsTooWide f → (told ≡ true) ↔ IsTooWide h
tells-one h f columns told operand is are short tells inner =
    let one = IsTooWide-one_iff h f columns is are short in (
      (λ e. elim (tells.0 e) [ inl is_wide ↦ one.0 (inl (inner.0 is_wide)) | inr wide ↦ one.0 (inr wide) ]),
      (λ w. elim (one.1 w) [ inl v ↦ tells.1 (inl (inner.1 v)) | inr wide ↦ tells.1 (inr wide) ]),
    )

pub tells-two : (h f g : Core) (columns : List ℕ) (told first second : Bool) → postorder h ≡ postorder f ++ (postorder g ++ h ∷ [])
    → AreColumns h columns → (HasManyRootsAt h → ⊥) → (told ≡ true) ↔ (((first || second) ≡ true) ⊎ AreTooMany columns) → (first ≡ true) ↔ IsTooWide f
    → (second ≡ true) ↔ IsTooWide g → (told ≡ true) ↔ IsTooWide h
tells-two h f g columns told first second is are short tells left right =
    let two = IsTooWide-two_iff h f g columns is are short in (
      (λ e. elim (tells.0 e) [
        | inl is_wide ↦ elim (or_cases first second is_wide) [
          | inl a ↦ two.0 (inl (inl (left.0 a)))
          | inr b ↦ two.0 (inl (inr (right.0 b)))
        ]
        | inr wide ↦ two.0 (inr wide)
      ]),
      (λ w. elim (two.1 w) [
        | inl operand ↦ elim operand [
          | inl v ↦ tells.1 (inl (or_left first second (left.1 v)))
          | inr v ↦ tells.1 (inl (or_right first second (right.1 v)))
        ]
        | inr wide ↦ tells.1 (inr wide)
      ]),
    )
