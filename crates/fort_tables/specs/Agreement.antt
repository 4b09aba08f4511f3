-- To believe: when two optional tuples agree at a product, a projection or a complement, by when tuples agree at its operands or its body.
use Rattle.std.specs.Prelude.{◌≡◌, ◌↔◌, ℕ, List, None, Some}
use Rattle.std.specs.List.{insert}
use Rattle.fort_theory.specs.Trees.{Tree}
use Rattle.fort_theory.specs.Signatures.{Signature, IsGround}
use Rattle.fort_tables.specs.Tuples.{Tuple, presence, IsPresent, IsTuple}
use Rattle.fort_tables.specs.Tables.{Table, state_of}
use Rattle.fort_tables.specs.Selections.{selected}
use Rattle.fort_tables.specs.Products.{Operand, OfTable, OfTruth}

-- whether two optional tuples agree
abbrev pub Agreement : Type 1
Agreement = Tuple → Tuple → Type 0

-- the states of a table
abbrev pub HaveOneState : Table → Agreement
HaveOneState table t u = state_of table t ≡ state_of table u

-- two tuples have one state exactly where they agree
abbrev pub TellsAgreement : Table → Agreement → Type 0
TellsAgreement table agree = (t u : Tuple) → IsTuple table.signature table.columns t → IsTuple table.signature table.columns u
    → HaveOneState table t u ↔ agree t u

-- at an operand, on its own columns, where one of these is present; an operand without columns tells no tuples apart
abbrev pub AgreeOn : List ℕ → Agreement → Agreement
AgreeOn places agree t u = IsPresent (selected places t) → agree (selected places t) (selected places u)

-- for and, or, iff
pub record AgreeAtBoth (places : List ℕ) (agree : Agreement) (others : List ℕ) (also : Agreement) (t u : Tuple) : Type 0 where
  pub present : presence t ≡ presence u
  pub first : AgreeOn places agree t u
  pub second : AgreeOn others also t u

-- each term that completes the one is matched by a term that completes the other
abbrev pub IsMatched : Signature → ℕ → Agreement → Agreement
IsMatched sig c agree t u = (x : Tree) → IsGround sig x → (y : Tree) × IsGround sig y × agree (insert t c (Some x)) (insert u c (Some y))

-- for "some term in column c"
pub record AgreeAtSome (sig : Signature) (c : ℕ) (agree : Agreement) (t u : Tuple) : Type 0 where
  pub present : presence t ≡ presence u
  pub absent : agree (insert t c None) (insert u c None)
  pub forth : IsMatched sig c agree t u
  pub back : IsMatched sig c agree u t

-- agreement by the states of an operand; a truth tells no tuples apart
abbrev pub OperandAgreement : Operand → Agreement
OperandAgreement (OfTable table places) t u = HaveOneState table t u
OperandAgreement (OfTruth b) t u = Unit {0}
