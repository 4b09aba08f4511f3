-- Whether a comment goes on, from one offset to the next.
use Rattle.std.proofs.Common.{◌≡◌, ℕ, ◌+◌, ◌-◌, ◌<◌, Bool, true, false, not, cond, ◌||◌, ◌==◌, List, [], ◌∷◌, ◌++◌, length, take, drop, get_or, ap, ◌∙◌, inl, inr, arith}
use Rattle.std.specs.List.{after_last, list_any, suffix_len, prefix_len}
use Rattle.std.proofs.lemmas.Bool.{eq-eqb, ne_eqb, cases_eq, cond-true, cond-false, or_left}
use Rattle.std.proofs.Math.Bool.{or-false, or-true}
use Rattle.std.proofs.lemmas.List.{reverse-append, length_push, take_more, drop_all, drop-append-le}
use Rattle.std.proofs.lemmas.List.Folds.{list_any-append}
use Rattle.fort_sexpr.specs.Progress.{comment_before}

suffix_len_push : {X : Type 0} (q : X → Bool) (xs : List X) (x : X) → suffix_len q (xs ++ x ∷ []) ≡ cond (q x) (1 + suffix_len q xs) 0
suffix_len_push q xs x = ap (prefix_len q) (reverse-append xs (x ∷ []))

after_last_push_yes : {X : Type 0} (p : X → Bool) (xs : List X) (x : X) → p x ≡ true → after_last p (xs ++ x ∷ []) ≡ []
after_last_push_yes {X} p xs x h =
    let q = λ (y : X). not (p y) in
    let e = suffix_len_push q xs x ∙ cond-false (q x) (1 + suffix_len q xs) 0 (ap not h) in
    drop_all (length (xs ++ x ∷ []) - suffix_len q (xs ++ x ∷ [])) (xs ++ x ∷ []) (omega (arith, e))

after_last_push_no : {X : Type 0} (p : X → Bool) (xs : List X) (x : X) → p x ≡ false → after_last p (xs ++ x ∷ []) ≡ after_last p xs ++ x ∷ []
after_last_push_no {X} p xs x h =
    let q = λ (y : X). not (p y) in
    let e = suffix_len_push q xs x ∙ cond-true (q x) (1 + suffix_len q xs) 0 (ap not h) in
    let n : length (xs ++ x ∷ []) - suffix_len q (xs ++ x ∷ []) ≡ length xs - suffix_len q xs = omega (arith, e, length_push xs x) in
    ap (λ k. drop k (xs ++ x ∷ [])) n ∙ drop-append-le (length xs - suffix_len q xs) xs (x ∷ []) (omega arith)

module _ (bytes : List ℕ) (i : ℕ) (within : i < length bytes) where
  -- behind the LF of a line there is no comment
  pub comment_before-line_end : get_or bytes i 0 ≡ 10 → comment_before bytes (i + 1) ≡ false
  comment_before-line_end h =
      ap (λ xs. list_any (λ b. b == 59) (after_last (λ b. b == 10) xs)) (take_more bytes i 0 within)
      ∙ ap (list_any (λ b. b == 59)) (after_last_push_yes (λ b. b == 10) (take i bytes) (get_or bytes i 0) (eq-eqb _ _ h))

  -- elsewhere it goes on, or a ; begins it
  comment_before_more : (get_or bytes i 0 ≡ 10 → ⊥) → comment_before bytes (i + 1) ≡ (comment_before bytes i || (get_or bytes i 0 == 59))
  comment_before_more h =
      ap (λ xs. list_any (λ b. b == 59) (after_last (λ b. b == 10) xs)) (take_more bytes i 0 within)
      ∙ (ap (list_any (λ b. b == 59)) (after_last_push_no (λ b. b == 10) (take i bytes) (get_or bytes i 0) (ne_eqb _ _ h))
      ∙ (list_any-append (λ b. b == 59) (after_last (λ b. b == 10) (take i bytes)) (get_or bytes i 0 ∷ [])
      ∙ ap (λ t. comment_before bytes i || t) (or-false (get_or bytes i 0 == 59))))

  pub comment_before-mark : get_or bytes i 0 ≡ 59 → comment_before bytes (i + 1) ≡ true
  comment_before-mark h =
      comment_before_more (λ e. absurd (omega arith)) ∙ (ap (λ t. comment_before bytes i || t) (eq-eqb _ _ h) ∙ or-true (comment_before bytes i))

  pub comment_before-goes_on : (get_or bytes i 0 ≡ 10 → ⊥) → comment_before bytes i ≡ true → comment_before bytes (i + 1) ≡ true
  comment_before-goes_on h c = comment_before_more h ∙ or_left _ _ c

  pub comment_before-none : (get_or bytes i 0 ≡ 59 → ⊥) → comment_before bytes i ≡ false → comment_before bytes (i + 1) ≡ false
  comment_before-none h c =
      elim (cases_eq (get_or bytes i 0) 10) [
        | inl e ↦ comment_before-line_end e
        | inr n ↦ comment_before_more n ∙ (ap (λ t. t || (get_or bytes i 0 == 59)) c ∙ ne_eqb _ _ h)
      ]
