-- Inside: the rule of a product of two answers, and when they are operands of one.
use Rattle.std.specs.Prelude.{◌≡◌, ℕ, ◌<◌, ◌≤◌, List}
use Rattle.fort_theory.specs.Signatures.{Signature}
use Rattle.fort_theory.specs.Logic.{Connective}
use Rattle.fort_tables.specs.Products.{AreOperands, signature_of, product_rule, product_accepts}
use Rattle.fort_parts.specs.PartAnswers.{Answer}
use Rattle.fort_parts.specs.PartSteps.{operand_of}
use Rattle.fort_certificate_theory.specs.PartRules.{Local}

-- over so many columns
abbrev pub joined_local : Connective → (columns : ℕ) → Answer → List ℕ → Answer → List ℕ → Local
joined_local op columns first places second others =
    let a = operand_of first places in
    let b = operand_of second others in
    record { rule = product_rule columns a b; accepting = product_accepts op a b }

pub record AreJoined (sig : Signature) (columns : ℕ) (first : Answer) (places : List ℕ) (second : Answer) (others : List ℕ) : Type 0 where
  pub some : 0 < columns
  pub narrow : columns ≤ 16
  pub signature : signature_of (operand_of first places) (operand_of second others) ≡ sig
  pub operands : AreOperands (signature_of (operand_of first places) (operand_of second others)) columns (operand_of first places) (operand_of second others)
