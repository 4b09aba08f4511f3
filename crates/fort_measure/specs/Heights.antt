-- To believe: a label that tells the height of a tuple up to a cap; which heights are accepted.
use Rattle.std.specs.Prelude.{◌≡◌, ℕ, ◌+◌, ◌%◌, Bool, true, max, List, [], ◌∷◌, length, get_or, nat_eq, nat_lt, if◌then◌else◌}
use Rattle.fort_theory.specs.Signatures.{Signature}
use Rattle.fort_tables.specs.Tuples.{TupleSymbol, presence}
use Rattle.fort_tables.specs.LabelRules.{LabelRule}

-- one to three columns
abbrev pub columns_for : ℕ → ℕ
columns_for n = if nat_eq n 1 then 1 else (if nat_eq n 2 then 2 else 3)

-- one more, up to the cap
abbrev pub further : ℕ → ℕ → ℕ
further cap h = if nat_lt h cap then h + 1 else cap

-- the greatest over two children, an absent one counting 0
abbrev pub most : ℕ → List (List ℕ) → ℕ
most cap ws = max (further cap (get_or (get_or ws 0 []) 1 0)) (further cap (get_or (get_or ws 1 []) 1 0))

abbrev pub height_rule : Signature → ℕ → ℕ → LabelRule
height_rule sig columns cap = record {
  signature = sig;
  columns = columns;
  step = λ f ws. presence f ∷ most cap ws ∷ [];
}

-- all heights; the odd ones; the cap alone
abbrev pub is_accepted : (mode cap height : ℕ) → Bool
is_accepted mode cap height = if nat_eq mode 0 then true else (if nat_eq mode 1 then nat_eq (height % 2) 1 else nat_eq height cap)
