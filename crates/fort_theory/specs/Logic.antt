-- To believe: the words below are the classical "or", "some" and "infinitely many", and the connectives of two facts.
-- A fact here is the type of its proofs, and that logic is constructive: a proof of "P or Q" names which. Truth asks
-- for less, that not both fail, so these words say what they rule out, and no case has to be chosen.
use Rattle.std.specs.Prelude.{◌↔◌, List, Contains}

-- P doesn't fail
abbrev pub Surely : Type 0 → Type 0
Surely P = (P → ⊥) → ⊥

-- not both P and Q fail
abbrev pub OneOf : Type 0 → Type 0 → Type 0
OneOf P Q = (P → ⊥) → (Q → ⊥) → ⊥

-- P doesn't fail of everything
abbrev pub HasSome : {A : Type 0} → (A → Type 0) → Type 0
HasSome {A} P = ((x : A) → P x → ⊥) → ⊥

-- no finite list holds all that has P
abbrev pub HasInfinitelyMany : {A : Type 0} → (A → Type 0) → Type 0
HasInfinitelyMany {A} P = (xs : List A) → HasSome (λ (x : A). (Contains xs x → ⊥) × P x)

-- those of core formulas, into which formulas are translated: what is refused and certificates rest on them, and no truth of a formula
pub data Connective : Type 0 where
  And : Connective
  Or : Connective
  Iff : Connective

abbrev pub Connected : Connective → Type 0 → Type 0 → Type 0
Connected And P Q = P × Q
Connected Or P Q = OneOf P Q
Connected Iff P Q = P ↔ Q
