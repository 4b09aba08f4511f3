-- A faultless text, an LF and a further text: the first is read as before, up to the LF.
use Rattle.std.proofs.Common.{◌≡◌, ℕ, zero, suc, ◌+◌, ◌-◌, ◌<◌, ◌≤◌, Bool, true, false, not, ◌&&◌, ◌==◌, List, [], ◌∷◌, ◌++◌, length, get_or, refl, ap, sym, ◌∙◌, arith, subst, ⊎_elim, inl, inr, add-one}
use Rattle.std.specs.List.{after_last, list_any}
use Rattle.std.proofs.lemmas.Bool.{cases_lt, true≢false}
use Rattle.std.proofs.lemmas.List.{length-append, get_or_append_left, take-append-le}
use Rattle.std.proofs.Math.Seq.{get_or-append_seam}
use Rattle.fort_theory.specs.Signatures.{is_word_byte}
use Rattle.fort_grammar.specs.Text.{in_comment, stands_at, is_blank, is_text_byte, count_before, depth, TextFault, IsFaultyAt, Bad, Extra, Deep}
use Rattle.fort_grammar.specs.Forms.{Forms, NoForm, IsSkipped, IsWordAt, AreForms, End, Skip, AWord, AList, AreFormsOf}
use Rattle.fort_sexpr.specs.Progress.{IsReadUpTo}
use Rattle.fort_sexpr.proofs.FormLists.{joined-none, AreForms-joined}
use Rattle.fort_sexpr.proofs.Comments.{comment_before-line_end}
use Rattle.fort_sexpr.proofs.Depths.{count_before-yes, count_before-no}
use Rattle.fort_grammar.proofs.Bytes.{IsPlain-from_word_byte, is_blank-at, stands_at-byte, stands_at-other, stands_at-in_comment}

-- between the offsets of forms as many lists open as close
module _ (bytes : List ℕ) where
  record IsEven (i j : ℕ) : Type 0 where
    same : count_before 40 bytes j + count_before 41 bytes i ≡ count_before 41 bytes j + count_before 40 bytes i

  quiet : (i : ℕ) → stands_at 40 bytes i ≡ false → stands_at 41 bytes i ≡ false
      → (count_before 40 bytes (suc i) ≡ count_before 40 bytes i) × (count_before 41 bytes (suc i) ≡ count_before 41 bytes i)
  quiet i a b = (ap (count_before 40 bytes) (sym (add-one i)) ∙ count_before-no 40 bytes i a, ap (count_before 41 bytes) (sym (add-one i)) ∙ count_before-no 41 bytes i b)

  skipped_quiet : (i : ℕ) → IsSkipped bytes i
      → (count_before 40 bytes (suc i) ≡ count_before 40 bytes i) × (count_before 41 bytes (suc i) ≡ count_before 41 bytes i)
  skipped_quiet i s =
      elim s.idle [
        | inl c ↦ quiet i (stands_at-in_comment 40 bytes i c) (stands_at-in_comment 41 bytes i c)
        | inr b ↦ quiet i (stands_at-other 40 bytes i (is_blank-at (get_or bytes i 0) 40 b refl)) (stands_at-other 41 bytes i (is_blank-at (get_or bytes i 0) 41 b refl))
      ]

  word_quiet : (i n : ℕ) → ((k : ℕ) → i ≤ k → k < i + n → is_word_byte (get_or bytes k 0) ≡ true)
      → (count_before 40 bytes (i + n) ≡ count_before 40 bytes i) × (count_before 41 bytes (i + n) ≡ count_before 41 bytes i)
  word_quiet i zero h = let e : i + 0 ≡ i = omega arith in (ap (count_before 40 bytes) e, ap (count_before 41 bytes) e)
  word_quiet i (suc n) h =
      let e : i + suc n ≡ suc (i + n) = omega arith in
      let p = IsPlain-from_word_byte (get_or bytes (i + n) 0) (h (i + n) (omega arith) (omega arith)) in
      let q = quiet (i + n) (stands_at-other 40 bytes (i + n) p.not_open) (stands_at-other 41 bytes (i + n) p.not_close) in
      let r = word_quiet i n (λ k a b. h k a (omega arith)) in
      (ap (count_before 40 bytes) e ∙ (q.0 ∙ r.0), ap (count_before 41 bytes) e ∙ (q.1 ∙ r.1))

  even : {i j : ℕ} {fs : Forms} → AreForms bytes i j fs → IsEven i j
  even End = record { same = omega arith }
  even (Skip {i = i} s d) = let q = skipped_quiet i s in let r = even d in record { same = omega (arith, q.0, q.1, r.same) }
  even (AWord {i = i} {k = k} w d) =
      let e : i + (k - i) ≡ k = omega (arith, w.some) in
      let q = word_quiet i (k - i) (λ m a b. w.word m a (omega (arith, w.some))) in
      let a = ap (count_before 40 bytes) e in
      let b = ap (count_before 41 bytes) e in
      let r = even d in
      record { same = omega (arith, q.0, q.1, a, b, r.same) }
  even (AList {i = i} {k = k} l o d m c e) =
      let a = ap (count_before 40 bytes) (sym (add-one i)) ∙ count_before-yes 40 bytes i o in
      let b = ap (count_before 41 bytes) (sym (add-one i)) ∙ count_before-no 41 bytes i (stands_at-other 41 bytes i (λ x. let y = stands_at-byte 40 bytes i o in omega arith)) in
      let f = ap (count_before 40 bytes) (sym (add-one k)) ∙ count_before-no 40 bytes k (stands_at-other 40 bytes k (λ x. let y = stands_at-byte 41 bytes k c in omega arith)) in
      let g = ap (count_before 41 bytes) (sym (add-one k)) ∙ count_before-yes 41 bytes k c in
      let r = even d in
      let s = even e in
      record { same = omega (arith, a, b, f, g, r.same, s.same) }

-- what a text and its front have in common
module _ (p t : List ℕ) where
  abbrev whole : List ℕ
  whole = p ++ 10 ∷ t

  byte_same : (i : ℕ) → i < length p → get_or whole i 0 ≡ get_or p i 0
  byte_same i l = get_or_append_left p (10 ∷ t) 0 i l

  comment_same : (i : ℕ) → i < length p → in_comment whole i ≡ in_comment p i
  comment_same i l = ap (λ xs. list_any (λ b. b == 59) (after_last (λ b. b == 10) xs)) (take-append-le (i + 1) p (10 ∷ t) (omega arith))

  stands_same : (c i : ℕ) → i < length p → stands_at c whole i ≡ stands_at c p i
  stands_same c i l = ap (λ b. (b == c) && not (in_comment whole i)) (byte_same i l) ∙ ap (λ b. (get_or p i 0 == c) && not b) (comment_same i l)

  count_more : (c i : ℕ) (b : Bool) → i < length p → stands_at c p i ≡ b → count_before c whole i ≡ count_before c p i
      → count_before c whole (suc i) ≡ count_before c p (suc i)
  count_more c i true l h e =
      ap (count_before c whole) (sym (add-one i)) ∙ (count_before-yes c whole i (stands_same c i l ∙ h)
      ∙ (ap (λ n. n + 1) e ∙ (sym (count_before-yes c p i h) ∙ ap (count_before c p) (add-one i))))
  count_more c i false l h e =
      ap (count_before c whole) (sym (add-one i)) ∙ (count_before-no c whole i (stands_same c i l ∙ h)
      ∙ (e ∙ (sym (count_before-no c p i h) ∙ ap (count_before c p) (add-one i))))

  count_same : (c i : ℕ) → i ≤ length p → count_before c whole i ≡ count_before c p i
  count_same c zero l = refl
  count_same c (suc i) l = count_more c i (stands_at c p i) (omega arith) refl (count_same c i (omega arith))

  depth_same : (i : ℕ) → i ≤ length p → depth whole i ≡ depth p i
  depth_same i l = omega (arith, count_same 40 i l, count_same 41 i l)

  -- a fault of the front is one of its own
  fault_same : (i : ℕ) (fault : TextFault) → i < length p → IsFaultyAt whole i fault → IsFaultyAt p i fault
  fault_same i fault l (Bad m o b) = Bad l (sym (comment_same i l) ∙ o) (ap is_text_byte (sym (byte_same i l)) ∙ b)
  fault_same i fault l (Extra m s d) = Extra l (sym (stands_same 41 i l) ∙ s) (sym (depth_same i (omega arith)) ∙ d)
  fault_same i fault l (Deep m s d) = Deep l (sym (stands_same 40 i l) ∙ s) (sym (depth_same i (omega arith)) ∙ d)

  feed : get_or whole (length p) 0 ≡ 10
  feed = get_or-append_seam p 10 t 0

  feed_fine : (fault : TextFault) → IsFaultyAt whole (length p) fault → ⊥
  feed_fine fault (Bad m o b) = true≢false (sym (ap is_text_byte feed) ∙ b)
  feed_fine fault (Extra m s d) = let e = stands_at-byte 41 whole (length p) s in omega (arith, feed)
  feed_fine fault (Deep m s d) = let e = stands_at-byte 40 whole (length p) s in omega (arith, feed)

  long : length whole ≡ length p + suc (length t)
  long = length-append p (10 ∷ t)

  -- its forms stand there too
  skipped_too : (i : ℕ) → IsSkipped p i → IsSkipped whole i
  skipped_too i s = record {
    within = omega (arith, s.within, long);
    idle = elim s.idle [ inl c ↦ inl (comment_same i s.within ∙ c) | inr b ↦ inr (ap is_blank (byte_same i s.within) ∙ b) ];
  }

  ends_too : (j : ℕ) → j ≤ length p → (j < length p → is_word_byte (get_or p j 0) ≡ false) → j < length whole
      → is_word_byte (get_or whole j 0) ≡ false
  ends_too j l h m =
      ⊎_elim
      (λ b. ap is_word_byte (byte_same j b) ∙ h b)
      (λ b. let e : j ≡ length p = omega arith in ap (λ k. is_word_byte (get_or whole k 0)) e ∙ ap is_word_byte feed)
      (cases_lt j (length p))

  word_too : (i j : ℕ) → IsWordAt p i j → IsWordAt whole i j
  word_too i j w = record {
    some = w.some;
    within = omega (arith, w.within, long);
    word = λ k a b. ap is_word_byte (byte_same k (omega (arith, w.within))) ∙ w.word k a b;
    outside = λ k a b. comment_same k (omega (arith, w.within)) ∙ w.outside k a b;
    ended = ends_too j w.within w.ended;
  }

  forms_too : {i j : ℕ} {fs : Forms} → AreForms p i j fs → AreForms whole i j fs
  forms_too End = End
  forms_too (Skip {i = i} s d) = Skip (skipped_too i s) (forms_too d)
  forms_too (AWord {i = i} {k = k} w d) = AWord (word_too i k w) (forms_too d)
  forms_too (AList {i = i} {k = k} l o d m c e) = AList (omega (arith, long)) (stands_same 40 i l ∙ o) (forms_too d) (omega (arith, long)) (stands_same 41 k m ∙ c) (forms_too e)

  -- up to the LF the front is read
  pub front_read : (fs : Forms) → AreFormsOf p fs → IsReadUpTo whole [] fs (length p + 1)
  front_read fs h =
      let n = length p in
      let even_is = (even p h.stand).same in
      let no40 = count_before-no 40 whole n (stands_at-other 40 whole n (λ e. absurd (omega (arith, feed)))) in
      let no41 = count_before-no 41 whole n (stands_at-other 41 whole n (λ e. absurd (omega (arith, feed)))) in
      let here : IsSkipped whole n = record { within = omega (arith, long); idle = inr (ap is_blank feed) } in
      let last : AreForms whole n (n + 1) NoForm = subst (λ (k : ℕ). AreForms whole n k NoForm) (sym (add-one n)) (Skip here End) in
      record {
        within = omega (arith, long);
        outside = λ l. comment_before-line_end whole n (omega (arith, long)) feed;
        faultless = λ i fault l f. ⊎_elim
            (λ b. h.faultless.none i fault b (fault_same i fault b f))
            (λ b. let e : i ≡ n = omega arith in feed_fine fault (subst (λ (k : ℕ). IsFaultyAt whole k fault) e f))
            (cases_lt i n);
        balanced = omega (arith, no40, no41, count_same 40 n (omega arith), count_same 41 n (omega arith), even_is);
        shallow = omega arith;
        stand = subst (λ (gs : Forms). AreForms whole 0 (n + 1) gs) (joined-none fs) (AreForms-joined (forms_too h.stand) last);
      }
