-- A list of fixed length whose front is written over zeros.
use Rattle.std.proofs.Common.{◌≡◌, ℕ, ◌-◌, ◌≤◌, List, ◌++◌, length, drop, replicate, arith, ◌∙◌, refl}
use Rattle.std.proofs.lemmas.List.{drop_at, drop-replicate, length-append, length-drop}

pub size_is : (n : ℕ) (xs zeros : List ℕ) → length xs ≤ n → length zeros ≡ n → length (xs ++ drop (length xs) zeros) ≡ n
size_is n xs zeros h z = omega (arith, length-append xs (drop (length xs) zeros), length-drop (length xs) zeros)

pub zeros_left : (n : ℕ) (xs : List ℕ) → drop (length xs) (xs ++ drop (length xs) (replicate n 0)) ≡ replicate (n - length xs) 0
zeros_left n xs = drop_at xs (drop (length xs) (replicate n 0)) (length xs) refl ∙ drop-replicate (length xs) n 0
