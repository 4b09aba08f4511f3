-- Lists that are made element by element.
use Rattle.std.proofs.Common.{◌≡◌, ℕ, ◌+◌, ◌<◌, ◌≤◌, List, [], ◌∷◌, ◌++◌, length, get_or, sym, subst, ◌∙◌, arith, ⊎_elim}
use Rattle.std.proofs.lemmas.Bool.{cases_lt}
use Rattle.std.proofs.lemmas.List.{length_push, get_or_append_left}
use Rattle.std.proofs.Math.Seq.{get_or-append_seam}
use Rattle.fort_cert_checker.specs.Makings.{AreMade}

pub made_none : {A : Type 0} (P : ℕ → A → Type 0) (xs : List A) → xs ≡ [] → AreMade P 0 xs
made_none P xs e = record { count = subst (λ ys. length ys ≡ 0) (sym e) (omega arith); each = λ k d l. absurd (omega arith) }

pub made_more : {A : Type 0} (P : ℕ → A → Type 0) (n : ℕ) (xs ys : List A) (x : A) → AreMade P n xs → P n x → ys ≡ xs ++ x ∷ [] → AreMade P (n + 1) ys
made_more P n xs ys x h p e = subst (AreMade P (n + 1)) (sym e) (record { count = length_push xs x ∙ omega (arith, h.count); each = at })
  where
    at : (k : ℕ) (d : _) → k < n + 1 → P k (get_or (xs ++ x ∷ []) k d)
    at k d l =
        ⊎_elim
        (λ (m : k < n). subst (P k) (sym (get_or_append_left xs (x ∷ []) d k (omega (arith, h.count)))) (h.each k d m))
        (λ (m : n ≤ k).
        let same : k ≡ length xs = omega (arith, h.count) in
        let here : get_or (xs ++ x ∷ []) k d ≡ x = subst (λ j. get_or (xs ++ x ∷ []) j d ≡ x) (sym same) (get_or-append_seam xs x [] d) in
        let own : n ≡ k = omega (arith, h.count) in
        subst (P k) (sym here) (subst (λ j. P j x) own p))
        (cases_lt k n)
