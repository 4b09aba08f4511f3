-- The made problem has a constant, and rules that are linear and variable-separated.
use Rattle.std.proofs.Common.{ℕ, zero, suc, ◌+◌, ◌≤◌, [], ◌∷◌, ◌++◌, map, refl, arith}
use Rattle.std.specs.Prelude.{All}
use Rattle.std.specs.List.{range_with_len, IsDistinct}
use Rattle.std.proofs.lemmas.List.Elements.{All-nil, All-cons, All-append}
use Rattle.fort_theory.specs.Signatures.{HasConstant}
use Rattle.fort_theory.specs.Sides.{IsLinearSeparated}
use Rattle.fort_theory.proofs.Members.{Contains-none}
use Rattle.fort_answers.specs.MadeProblem.{constant_rule, f_rule, made_system}

pub made_system-constant : (size : ℕ) → 1 ≤ size → HasConstant (made_system size).signature
unfolding made_system
made_system-constant zero some = absurd (omega arith)
made_system-constant (suc n) some = (0, refl)

pub constant_rule-separated : (size i : ℕ) → IsLinearSeparated (constant_rule size i)
unfolding IsDistinct
constant_rule-separated size i = record { left = tt; right = tt; separated = λ v c d. Contains-none v c }

pub f_rule-separated : (size : ℕ) → IsLinearSeparated (f_rule size)
unfolding IsDistinct
f_rule-separated size = record { left = (tt, tt); right = tt; separated = λ v c d. Contains-none v d }

constants-separated : (size first count : ℕ) → All IsLinearSeparated (map (constant_rule size) (range_with_len first count))
constants-separated size first zero = All-nil IsLinearSeparated
constants-separated size first (suc n) =
    All-cons IsLinearSeparated (constant_rule size first) (map (constant_rule size) (range_with_len (first + 1) n))
    (constant_rule-separated size first) (constants-separated size (first + 1) n)

pub made_system-separated : (size : ℕ) → All (All IsLinearSeparated) (made_system size).rules
unfolding made_system
made_system-separated size =
    let constants = map (constant_rule size) (range_with_len 0 size) in
    All-cons (All IsLinearSeparated) (constants ++ f_rule size ∷ []) []
    (All-append IsLinearSeparated constants (f_rule size ∷ []) (constants-separated size 0 size)
    (All-cons IsLinearSeparated (f_rule size) [] (f_rule-separated size) (All-nil IsLinearSeparated)))
    (All-nil (All IsLinearSeparated))
