-- Inside: local rules for tests: whether a term is the first constant; the height of a term, up to a bound.
use Rattle.std.specs.Prelude.{ℕ, zero, suc, ◌+◌, List, [], ◌∷◌, get_or, Option, None, Some, nat_lt, Bool, ◌==◌, if◌then◌else◌}
use Rattle.fort_theory.specs.Signatures.{Signature}
use Rattle.fort_tables.specs.Tuples.{presence}
use Rattle.fort_tables.specs.LabelRules.{LabelRule}

abbrev pub is_first : Option ℕ → ℕ
is_first None = 0
is_first (Some zero) = 1
is_first (Some (suc g)) = 0

abbrev pub first_rule : Signature → LabelRule
first_rule sig = record { signature = sig; columns = 1; step = λ f ws. presence f ∷ is_first (get_or f 0 None) ∷ [] }

abbrev pub first_accepts : List ℕ → Bool
first_accepts w = get_or w 1 0 == 1

-- symbol 0 is a constant, all others have one argument
abbrev pub storeys : ℕ → Option ℕ → ℕ → ℕ
storeys top None below = 0
storeys top (Some zero) below = 0
storeys top (Some (suc g)) below = if nat_lt below top then below + 1 else top

abbrev pub tower_rule : ℕ → Signature → LabelRule
tower_rule top sig = record { signature = sig; columns = 1; step = λ f ws. presence f ∷ storeys top (get_or f 0 None) (get_or (get_or ws 0 []) 1 0) ∷ [] }

abbrev pub tower_accepts : ℕ → List ℕ → Bool
tower_accepts top w = get_or w 1 0 == top
