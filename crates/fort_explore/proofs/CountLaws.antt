-- No more tuples differ by their labels than there are states.
use Rattle.std.proofs.Common.{◌≡◌, ℕ, suc, ◌<◌, ◌≤◌, List, [], ◌∷◌, map, length, get_or, Bool, true, false, eqb, refl, ap, sym, ◌∙◌, arith}
use Rattle.std.specs.List.{IsDistinct, AllByRecursion, list_any}
use Rattle.std.proofs.lemmas.Bool.Decides.{nat_tests}
use Rattle.std.proofs.lemmas.Map.Steps.{length-le_from_distinct_below}
use Rattle.std.proofs.lemmas.List.{length-map, get_or-map}
use Rattle.fort_theory.specs.Signatures.{Signature}
use Rattle.fort_tables.specs.Tuples.{Tuple}
use Rattle.fort_tables.specs.Entries.{Entry}
use Rattle.fort_tables.specs.Labels.{Labelling, TellsPresence, HasMoreLabels}
use Rattle.fort_explore.specs.Exploring.{IsExplored, state_in}
use Rattle.fort_explore.proofs.StateLaws.{state_has_label}

different : (x y : ℕ) → (x ≡ y → ⊥) → eqb x y ≡ false
different x y h = grind (arith, nat_tests)

each_apart : (x : ℕ) (xs : List ℕ) → ((j : ℕ) → j < length xs → x ≡ get_or xs j 0 → ⊥) → AllByRecursion (λ y. eqb x y ≡ false) xs
each_apart x [] h = tt
each_apart x (y ∷ ys) h = (different x y (h 0 (omega arith)), each_apart x ys (λ j l. h (suc j) (omega arith)))

IsDistinct-from_apart : (xs : List ℕ) → ((i j : ℕ) → i < length xs → j < length xs → get_or xs i 0 ≡ get_or xs j 0 → i ≡ j) → IsDistinct eqb xs
unfolding IsDistinct
IsDistinct-from_apart [] h = tt
IsDistinct-from_apart (x ∷ xs) h = (
  each_apart x xs (λ j l e. let k : 0 ≡ suc j = h 0 (suc j) (omega arith) (omega arith) e in absurd (omega arith)),
  IsDistinct-from_apart xs (λ i j l m e. let k : suc i ≡ suc j = h (suc i) (suc j) (omega arith) (omega arith) e in omega arith),
)

member_below : (n q : ℕ) (xs : List ℕ) → ((j : ℕ) → j < length xs → get_or xs j 0 < n) → list_any (eqb q) xs ≡ true → q < n
member_below n q [] h m = absurd cc
member_below n q (x ∷ xs) h m =
    let F : Bool → Type 0 = λ b. eqb q x ≡ b → q < n in
    let both : (b : Bool) → F b = λ b. elim b as F [
      | true ↦ (λ e. let k : q ≡ x = grind (arith, nat_tests, e) in omega (arith, h 0 (omega arith)))
      | false ↦ (λ e. member_below n q xs (λ j l. h (suc j) (omega arith)) (rw e at m))
    ] in
    both (eqb q x) refl

pub no_more_labels : (sig : Signature) (n : ℕ) (label : Labelling) (ts : List Tuple) (es : List Entry) (qs : List ℕ) (cap : ℕ) → TellsPresence sig n label → IsExplored sig n label ts es qs → length ts ≤ cap → HasMoreLabels sig n label cap → ⊥
no_more_labels sig n label ts es qs cap tells x l (us, w) =
    let has = state_has_label sig n label ts es qs tells x in
    let xs = map (state_in es qs) us in
    let len : length xs ≡ length us = length-map us (state_in es qs) in
    let at : (j : ℕ) → j < length us → get_or xs j 0 ≡ state_in es qs (get_or us j []) = λ j m. get_or-map (state_in es qs) us j [] 0 m in
    let below : (j : ℕ) → j < length xs → get_or xs j 0 < length ts = λ j m. omega (arith, at j (omega arith), (has _ (w.tuples j (omega arith))).within) in
    let apart : (i j : ℕ) → i < length xs → j < length xs → get_or xs i 0 ≡ get_or xs j 0 → i ≡ j =
    λ i j m k e.
    let a : i < length us = omega arith in
    let b : j < length us = omega arith in
    w.apart i j a b
    ((has _ (w.tuples i a)).label_is ∙ (ap (λ q. label (get_or ts q [])) (sym (at i a) ∙ (e ∙ at j b)) ∙ sym (has _ (w.tuples j b)).label_is)) in
    let few = length-le_from_distinct_below xs (length ts) (IsDistinct-from_apart xs apart) (λ q m. member_below (length ts) q xs below m) in
    omega (arith, w.many)
