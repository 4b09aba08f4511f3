-- How the counts of parentheses grow from one offset to the next.
use Rattle.std.proofs.Common.{◌≡◌, ℕ, ◌+◌, Bool, true, false, cond, List, sym, ap, ◌∙◌, arith, count_by}
use Rattle.std.specs.List.{range_with_len}
use Rattle.std.proofs.lemmas.Bool.{cond-true, cond-false}
use Rattle.std.proofs.lemmas.List.{map-id}
use Rattle.std.proofs.lemmas.List.FromFn.{sum_by-map-range_with_len_more}
use Rattle.fort_grammar.specs.Text.{stands_at, count_before}

count_of_range_more : (p : ℕ → Bool) (n : ℕ) → count_by p (range_with_len 0 (n + 1)) ≡ count_by p (range_with_len 0 n) + cond (p n) 1 0
count_of_range_more p n =
    ap (count_by p) (sym (map-id (range_with_len 0 (n + 1))))
    ∙ (sum_by-map-range_with_len_more (λ x. cond (p x) 1 0) (λ x. x) 0 n n (omega arith)
    ∙ ap (λ xs. count_by p xs + cond (p n) 1 0) (map-id (range_with_len 0 n)))

pub count_before-yes : (c : ℕ) (bytes : List ℕ) (i : ℕ) → stands_at c bytes i ≡ true → count_before c bytes (i + 1) ≡ count_before c bytes i + 1
count_before-yes c bytes i h =
    count_of_range_more (stands_at c bytes) i ∙ ap (λ n. count_before c bytes i + n) (cond-true (stands_at c bytes i) 1 0 h)

pub count_before-no : (c : ℕ) (bytes : List ℕ) (i : ℕ) → stands_at c bytes i ≡ false → count_before c bytes (i + 1) ≡ count_before c bytes i
count_before-no c bytes i h =
    let e = count_of_range_more (stands_at c bytes) i ∙ ap (λ n. count_before c bytes i + n) (cond-false (stands_at c bytes i) 1 0 h) in
    omega (arith, e)
