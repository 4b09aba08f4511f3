-- Two answers that fit the columns of two formulas are operands of a product over the columns of both.
use Rattle.std.specs.Prelude.{◌≡◌, ℕ, ◌<◌, List, [], length, get_or, Contains, true}
use Rattle.std.proofs.Common.{sym, ◌∙◌, subst, ⊎_elim}
use Rattle.std.proofs.lemmas.Bool.{or_cases}
use Rattle.std.proofs.lemmas.List.Elements.{Contains-get_or}
use Rattle.fort_theory.specs.Signatures.{Signature}
use Rattle.fort_theory.proofs.Members.{Contains-none}
use Rattle.fort_theory.specs.Cores.{Core, Binary}
use Rattle.fort_theory.specs.Parts.{is_free}
use Rattle.fort_theory.specs.Logic.{Connective}
use Rattle.fort_tables.specs.Products.{AreOperands, signature_of}
use Rattle.fort_parts.specs.PartColumns.{columns_of, places_in}
use Rattle.fort_parts.specs.PartAnswers.{Answer, OfValue, OfTable, FitsColumns}
use Rattle.fort_parts.specs.PartSteps.{operand_of}
use Rattle.fort_parts.proofs.PartColumnLaws.{is_free-from_column, column-from_free, first_within, second_within}
use Rattle.fort_parts.proofs.StepTables.{IsOperand-answer}
use Rattle.fort_parts.proofs.StepAnswers.{is_free-joined}

pub joined_first : (op : Connective) (f g : Core) (n : ℕ) → Contains (columns_of f) n → Contains (columns_of (Binary op f g)) n
joined_first op f g = first_within (Binary op f g) f g (is_free-joined op f g)

pub joined_second : (op : Connective) (f g : Core) (n : ℕ) → Contains (columns_of g) n → Contains (columns_of (Binary op f g)) n
joined_second op f g = second_within (Binary op f g) f g (is_free-joined op f g)

-- some operand has a column
no_columns : (op : Connective) (f g : Core) → columns_of f ≡ [] → columns_of g ≡ [] → 0 < length (columns_of (Binary op f g)) → ⊥
no_columns op f g a b some =
    let xs = columns_of (Binary op f g) in
    let n = get_or xs 0 0 in
    let free : is_free n (Binary op f g) ≡ true = is_free-from_column (Binary op f g) n (Contains-get_or xs 0 0 some) in
    ⊎_elim
    (λ h. Contains-none n (subst (λ (ns : List ℕ). Contains ns n) a (column-from_free f n h)))
    (λ h. Contains-none n (subst (λ (ns : List ℕ). Contains ns n) b (column-from_free g n h)))
    (or_cases (is_free n f) (is_free n g) (sym (is_free-joined op f g n) ∙ free))

module _ (sig : Signature) (op : Connective) (f g : Core) (some : 0 < length (columns_of (Binary op f g))) where
  pub signature_joined : (a b : Answer) (ps qs : List ℕ) → FitsColumns sig (columns_of f) a → FitsColumns sig (columns_of g) b → signature_of (operand_of a ps) (operand_of b qs) ≡ sig
  signature_joined (OfTable table) b ps qs one other = one.signature
  signature_joined (OfValue u) (OfTable table) ps qs one other = other.signature
  signature_joined (OfValue u) (OfValue v) ps qs one other = absurd (no_columns op f g one other some)

  pub operands_joined : (a b : Answer) → FitsColumns sig (columns_of f) a → FitsColumns sig (columns_of g) b
      → AreOperands sig (length (columns_of (Binary op f g))) (operand_of a (places_in (columns_of (Binary op f g)) (columns_of f))) (operand_of b (places_in (columns_of (Binary op f g)) (columns_of g)))
  operands_joined a b one other = record {
    first_is = IsOperand-answer sig (columns_of f) (columns_of (Binary op f g)) a (joined_first op f g) one;
    second_is = IsOperand-answer sig (columns_of g) (columns_of (Binary op f g)) b (joined_second op f g) other;
  }
