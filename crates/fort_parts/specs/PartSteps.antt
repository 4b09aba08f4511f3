-- To believe: how the answer of a formula comes from those of its operands, on tuples of terms over its columns: the complement, a connective of what the operands say of their own columns, and whether some term, or infinitely many terms, in one column are accepted.
use Rattle.std.specs.Prelude.{◌≡◌, ℕ, List, length, true, not, Decides, Some}
use Rattle.std.specs.List.{insert}
use Rattle.fort_theory.specs.Logic.{HasInfinitelyMany, Connective}
use Rattle.fort_theory.specs.Trees.{Tree}
use Rattle.fort_theory.specs.Signatures.{Signature, IsGround}
use Rattle.fort_tables.specs.Tuples.{Tuple, IsFull, AreGroundColumns}
use Rattle.fort_tables.specs.Selections.{selected}
use Rattle.fort_tables.specs.Products as products
use Rattle.fort_tables.specs.Products.{Operand, OfTruth, connected}
use Rattle.fort_parts.specs.PartAnswers.{Answer, OfValue, OfTable, said}

-- so many ground terms; without columns the empty tuple
pub record AreTerms (sig : Signature) (columns : ℕ) (t : Tuple) : Type 0 where
  pub width : length t ≡ columns
  pub full : IsFull t
  pub grounded : AreGroundColumns sig t

abbrev pub SaysNot : Signature → ℕ → (body answer : Answer) → Type 0
SaysNot sig columns body answer = (t : Tuple) → AreTerms sig columns t → said answer t ≡ not (said body t)

-- each operand with the places of its columns
abbrev pub SaysBoth : Signature → ℕ → Connective → List ℕ → Answer → List ℕ → Answer → Answer → Type 0
SaysBoth sig columns op places first others second answer =
    (t : Tuple) → AreTerms sig columns t → said answer t ≡ connected op (said first (selected places t)) (said second (selected others t))

-- some term in column c of the body
abbrev pub SaysSome : Signature → ℕ → (c : ℕ) → (body answer : Answer) → Type 0
SaysSome sig columns c body answer =
    (t : Tuple) → AreTerms sig columns t → Decides (said answer t) ((u : Tree) × IsGround sig u × (said body (insert t c (Some u)) ≡ true))

-- infinitely many terms in column c of the body
abbrev pub SaysMany : Signature → ℕ → (c : ℕ) → (body answer : Answer) → Type 0
SaysMany sig columns c body answer =
    (t : Tuple) → AreTerms sig columns t
    → Decides (said answer t) (HasInfinitelyMany (λ (u : Tree). IsGround sig u × (said body (insert t c (Some u)) ≡ true)))

-- an answer as an operand of a product
abbrev pub operand_of : Answer → List ℕ → Operand
operand_of (OfValue b) places = OfTruth b
operand_of (OfTable table) places = products.OfTable table places
