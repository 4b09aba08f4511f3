-- Digits in order.
use Rattle.std.proofs.Common.{◌≡◌, ℕ, zero, suc, ◌+◌, ◌-◌, List, ◌∷◌, ◌++◌, map, length, replicate, refl, ap, sym, ◌∙◌, arith}
use Rattle.std.specs.List.{flat_map, range_with_len}
use Rattle.std.proofs.lemmas.List.{length-replicate}
use Rattle.fort_entry_walk.specs.Walks.{digit_lists, digits_after}

abbrev rest : ℕ → ℕ → List ℕ → List (List ℕ)
rest n c ds = flat_map (λ e. map (λ es. e ∷ es) (digit_lists n c)) ds

pub digits_first : (n c : ℕ) → digit_lists n c ≡ replicate c 0 ∷ digits_after n (replicate c 0)
digits_first n zero = refl
digits_first n (suc c) =
    let zs : List ℕ = replicate c 0 in
    let s : n + 1 ≡ suc n = omega arith in
    let z : n ≡ n - 0 = omega arith in
    ap (λ k. rest n c (range_with_len 0 k)) s
    ∙ (ap (λ ls. map (λ es. 0 ∷ es) ls ++ rest n c (range_with_len 1 n)) (digits_first n c)
    ∙ (ap (λ k. (0 ∷ zs) ∷ (map (λ es. 0 ∷ es) (digits_after n zs) ++ rest n k (range_with_len 1 n))) (sym (length-replicate c 0))
    ∙ ap (λ k. (0 ∷ zs) ∷ (map (λ es. 0 ∷ es) (digits_after n zs) ++ rest n (length zs) (range_with_len 1 k))) z))
