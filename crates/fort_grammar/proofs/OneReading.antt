-- A text has one list of forms at most.
use Rattle.std.proofs.Common.{◌≡◌, ℕ, suc, ◌<◌, Bool, true, false, ◌||◌, ◌==◌, cond, List, length, get_or, refl, sym, ap, ◌∙◌, subst, inl, inr, arith}
use Rattle.std.proofs.lemmas.Bool.{true≢false, cond-true, cond-false, or_left, or_right, or_from, cases_order}
use Rattle.fort_theory.specs.Signatures.{is_word_byte}
use Rattle.fort_grammar.specs.Text.{in_comment, stands_at, is_blank}
use Rattle.fort_grammar.specs.Forms.{Forms, MoreForms, Word, ListForm, IsSkipped, IsWordAt, AreForms, End, Skip, AWord, AList}
use Rattle.fort_grammar.proofs.Bytes.{is_blank-word_byte, stands_at-byte, stands_at-outside}

-- what begins at an offset: 0 nothing, 1 a word, 2 a list, 3 none of these
abbrev kind_of_byte : Bool → ℕ → ℕ
kind_of_byte comment b = cond (comment || is_blank b) 0 (cond (is_word_byte b) 1 (cond (b == 40) 2 3))

abbrev kind : List ℕ → ℕ → ℕ
kind bytes i = kind_of_byte (in_comment bytes i) (get_or bytes i 0)

-- the text ends here, or a ) stands here
record IsStop (bytes : List ℕ) (i : ℕ) : Type 0 where
  closes : i < length bytes → stands_at 41 bytes i ≡ true

module _ (bytes : List ℕ) where
  kind_skipped : {i : ℕ} → IsSkipped bytes i → kind bytes i ≡ 0
  kind_skipped {i} s =
      elim s.idle [
        | inl h ↦ cond-true _ 0 (cond (is_word_byte (get_or bytes i 0)) 1 (cond (get_or bytes i 0 == 40) 2 3)) (or_left _ _ h)
        | inr h ↦ cond-true _ 0 (cond (is_word_byte (get_or bytes i 0)) 1 (cond (get_or bytes i 0 == 40) 2 3)) (or_right _ _ h)
      ]

  kind_word : {i j : ℕ} → IsWordAt bytes i j → kind bytes i ≡ 1
  kind_word {i} {j} w =
      let h = w.word i (omega arith) w.some in
      cond-false _ 0 _ (or_from (in_comment bytes i) _ (w.outside i (omega arith) w.some) (is_blank-word_byte (get_or bytes i 0) h))
      ∙ cond-true _ 1 (cond (get_or bytes i 0 == 40) 2 3) h

  kind_stands : (c i : ℕ) → stands_at c bytes i ≡ true → kind bytes i ≡ kind_of_byte false c
  kind_stands c i h =
      ap (λ t. kind_of_byte t (get_or bytes i 0)) (stands_at-outside c bytes i h)
      ∙ ap (kind_of_byte false) (stands_at-byte c bytes i h)

  -- a word ends at one offset only
  same_word_end : {i j k : ℕ} → IsWordAt bytes i j → IsWordAt bytes i k → j ≡ k
  same_word_end {i} {j} {k} v w =
      elim (cases_order j k) [
        | inl e ↦ e
        | inr (inl l) ↦ absurd (true≢false (sym (w.word j (omega (arith, v.some)) l) ∙ v.ended (omega (arith, w.within))))
        | inr (inr l) ↦ absurd (true≢false (sym (v.word k (omega (arith, w.some)) l) ∙ w.ended (omega (arith, v.within))))
      ]

  same_until_stop : {i j k : ℕ} {fs gs : Forms} → AreForms bytes i j fs → AreForms bytes i k gs → IsStop bytes j → IsStop bytes k
      → (j ≡ k) × (fs ≡ gs)
  same_until_stop End End s t = (refl, refl)
  same_until_stop End (Skip a d) s t = let x = kind_skipped a in let y = kind_stands 41 _ (s.closes a.within) in absurd (omega arith)
  same_until_stop End (AWord w d) s t = let x = kind_word w in let y = kind_stands 41 _ (s.closes (omega (arith, w.some, w.within))) in absurd (omega arith)
  same_until_stop End (AList l o d m c e) s t = let x = kind_stands 40 _ o in let y = kind_stands 41 _ (s.closes l) in absurd (omega arith)
  same_until_stop (Skip a d) End s t = let x = kind_skipped a in let y = kind_stands 41 _ (t.closes a.within) in absurd (omega arith)
  same_until_stop (Skip a d) (Skip b e) s t = same_until_stop d e s t
  same_until_stop (Skip a d) (AWord w e) s t = let x = kind_skipped a in let y = kind_word w in absurd (omega arith)
  same_until_stop (Skip a d) (AList l o e m c f) s t = let x = kind_skipped a in let y = kind_stands 40 _ o in absurd (omega arith)
  same_until_stop (AWord w d) End s t = let x = kind_word w in let y = kind_stands 41 _ (t.closes (omega (arith, w.some, w.within))) in absurd (omega arith)
  same_until_stop (AWord w d) (Skip a e) s t = let x = kind_skipped a in let y = kind_word w in absurd (omega arith)
  same_until_stop {i} {j} {k} (AWord {k = m} {fs = fs} w d) (AWord {k = n} {fs = gs} v e) s t =
      let p : m ≡ n = same_word_end w v in
      let r = same_until_stop d (subst (λ x. AreForms bytes x k gs) (sym p) e) s t in
      (r.0, ap (λ x. MoreForms (Word i x) fs) p ∙ ap (MoreForms (Word i n)) r.1)
  same_until_stop (AWord w d) (AList l o e m c f) s t = let x = kind_word w in let y = kind_stands 40 _ o in absurd (omega arith)
  same_until_stop (AList l o d m c e) End s t = let x = kind_stands 40 _ o in let y = kind_stands 41 _ (t.closes l) in absurd (omega arith)
  same_until_stop (AList l o d m c e) (Skip a f) s t = let x = kind_skipped a in let y = kind_stands 40 _ o in absurd (omega arith)
  same_until_stop (AList l o d m c e) (AWord w f) s t = let x = kind_word w in let y = kind_stands 40 _ o in absurd (omega arith)
  same_until_stop {i} {j} {k} (AList {k = p} {gs = fs1} {fs = fs2} l o d m c e) (AList {k = q} {gs = gs1} {fs = gs2} l' o' d' m' c' e') s t =
      let r = same_until_stop d d' (record { closes = λ h. c }) (record { closes = λ h. c' }) in
      let later = same_until_stop e (subst (λ x. AreForms bytes (suc x) k gs2) (sym r.0) e') s t in
      (later.0, ap (λ x. MoreForms (ListForm i (suc x) fs1) fs2) r.0 ∙ (ap (λ x. MoreForms (ListForm i (suc q) x) fs2) r.1 ∙ ap (MoreForms (ListForm i (suc q) gs1)) later.1))

-- one text has one list of forms
pub same_forms : (bytes : List ℕ) (fs gs : Forms) → AreForms bytes 0 (length bytes) fs → AreForms bytes 0 (length bytes) gs → fs ≡ gs
same_forms bytes fs gs d e =
    let stop : IsStop bytes (length bytes) = record { closes = λ h. absurd (omega arith) } in
    (same_until_stop bytes d e stop stop).1
