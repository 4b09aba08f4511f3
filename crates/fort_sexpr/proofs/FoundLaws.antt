-- The forms that are found from an offset on are those that the grammar has there.
use Rattle.std.proofs.Common.{◌≡◌, ℕ, zero, suc, ◌+◌, ◌-◌, ◌<◌, ◌≤◌, true, ltb, ◌||◌, ◌==◌, Some, List, length, drop, get_or, refl, sym, ap, ◌∙◌, subst, inl, inr, arith}
use Rattle.std.proofs.lemmas.Bool.{cond-true, cond-false, lt-ltb, le-ltb, eq-eqb, ne_eqb, or_left, or_right, or_from, cases_lt}
use Rattle.std.proofs.lemmas.List.Sums.{prefix_len_is}
use Rattle.std.proofs.lemmas.List.{length-drop, get_or-drop}
use Rattle.fort_theory.specs.Signatures.{is_word_byte}
use Rattle.fort_grammar.specs.Text.{in_comment, stands_at, is_blank}
use Rattle.fort_grammar.specs.Forms.{Form, Forms, Word, ListForm, NoForm, IsSkipped, IsWordAt, AreForms, End, Skip, AWord, AList}
use Rattle.fort_grammar.proofs.Bytes.{IsPlain-from_word_byte, is_blank-word_byte, stands_at-byte, stands_at-outside}
use Rattle.fort_sexpr.proofs.FormLists.{node_counts-AreForms}
use Rattle.fort_sexpr.specs.FormView.{span_of, form_at}
use Rattle.fort_sexpr.specs.Progress.{IsWordEnd}
use Rattle.fort_sexpr.specs.Found.{word_end, with_word, with_list, forms_from, run_from, form_made, form_from, StandsIn}

-- a word ends in one place
pub word_end_is : (bytes : List ℕ) (from to : ℕ) → IsWordEnd bytes from to → to ≡ word_end bytes from
unfolding word_end
word_end_is bytes from to e =
    let n = to - from in
    let on : from + n ≡ to = omega (arith, e.after) in
    let long = length-drop from bytes in
    let run = prefix_len_is is_word_byte (drop from bytes) n 0 (omega (arith, e.within))
    (λ k l. ap is_word_byte (get_or-drop from bytes k 0) ∙ e.word (from + k) (omega arith) (omega (arith, e.after)))
    (λ l. ap is_word_byte (get_or-drop from bytes n 0) ∙ (ap (λ k. is_word_byte (get_or bytes k 0)) on ∙ e.ended (omega (arith, e.after)))) in
    sym on ∙ ap (λ k. from + k) (sym run)

module _ (bytes : List ℕ) where
  pub IsWordEnd-word : (from to : ℕ) → IsWordAt bytes from to → IsWordEnd bytes from to
  IsWordEnd-word from to w = record { after = omega (arith, w.some); within = w.within; word = w.word; ended = w.ended }

  -- one step, by what begins at the offset
  step_none : (n at : ℕ) → length bytes ≤ at → forms_from (suc n) bytes at ≡ (NoForm, at)
  unfolding forms_from
  step_none n at h = cond-false (ltb at (length bytes)) _ _ (le-ltb at (length bytes) h)

  step_skipped : (n at : ℕ) → IsSkipped bytes at → forms_from (suc n) bytes at ≡ forms_from n bytes (suc at)
  unfolding forms_from
  step_skipped n at s =
      cond-true (ltb at (length bytes)) _ _ (lt-ltb at (length bytes) s.within)
      ∙ elim s.idle [
        | inl h ↦ cond-true (in_comment bytes at || is_blank (get_or bytes at 0)) _ _ (or_left _ _ h)
        | inr h ↦ cond-true (in_comment bytes at || is_blank (get_or bytes at 0)) _ _ (or_right _ _ h)
      ]

  step_word : (n at to : ℕ) → IsWordAt bytes at to → forms_from (suc n) bytes at ≡ with_word at to (forms_from n bytes to)
  unfolding forms_from
  step_word n at to w =
      let h = w.word at (omega arith) w.some in
      let e = word_end_is bytes at to (IsWordEnd-word at to w) in
      cond-true (ltb at (length bytes)) _ _ (lt-ltb at (length bytes) (omega (arith, w.some, w.within)))
      ∙ (cond-false (in_comment bytes at || is_blank (get_or bytes at 0)) _ _
      (or_from (in_comment bytes at) _ (w.outside at (omega arith) w.some) (is_blank-word_byte (get_or bytes at 0) h))
      ∙ (cond-true (is_word_byte (get_or bytes at 0)) _ _ h
      ∙ ap (λ k. with_word at k (forms_from n bytes k)) (sym e)))

  -- a parenthesis is neither blank nor a byte of a word
  step_open : (n at : ℕ) → at < length bytes → stands_at 40 bytes at ≡ true
      → forms_from (suc n) bytes at ≡ with_list at (forms_from n bytes (suc at)) (forms_from n bytes (suc (forms_from n bytes (suc at)).1))
  unfolding forms_from
  step_open n at l o =
      let b = stands_at-byte 40 bytes at o in
      cond-true (ltb at (length bytes)) _ _ (lt-ltb at (length bytes) l)
      ∙ (cond-false (in_comment bytes at || is_blank (get_or bytes at 0)) _ _
      (or_from (in_comment bytes at) _ (stands_at-outside 40 bytes at o) (ap is_blank b))
      ∙ (cond-false (is_word_byte (get_or bytes at 0)) _ _ (ap is_word_byte b)
      ∙ cond-true (get_or bytes at 0 == 40) _ _ (eq-eqb _ 40 b)))

  step_close : (n at : ℕ) → at < length bytes → stands_at 41 bytes at ≡ true → forms_from (suc n) bytes at ≡ (NoForm, at)
  unfolding forms_from
  step_close n at l c =
      let b = stands_at-byte 41 bytes at c in
      cond-true (ltb at (length bytes)) _ _ (lt-ltb at (length bytes) l)
      ∙ (cond-false (in_comment bytes at || is_blank (get_or bytes at 0)) _ _
      (or_from (in_comment bytes at) _ (stands_at-outside 41 bytes at c) (ap is_blank b))
      ∙ (cond-false (is_word_byte (get_or bytes at 0)) _ _ (ap is_word_byte b)
      ∙ cond-false (get_or bytes at 0 == 40) _ _ (ap (λ x. x == 40) b)))

  -- the text ends here, or a parenthesis closes a list that opens before
  pub record IsStop (at : ℕ) : Type 0 where
    pub closes : at < length bytes → stands_at 41 bytes at ≡ true

  stopped : (fuel at : ℕ) → IsStop at → forms_from fuel bytes at ≡ (NoForm, at)
  unfolding forms_from
  stopped zero at s = refl
  stopped (suc n) at s =
      elim (cases_lt at (length bytes)) [
        | inl lt ↦ step_close n at lt (s.closes lt)
        | inr ge ↦ step_none n at ge
      ]

  -- forms up to where they end are found, in as many steps as there are bytes from there on
  pub found_in : {i j : ℕ} {fs : Forms} → (fuel : ℕ) → AreForms bytes i j fs → IsStop j → length bytes ≤ i + fuel
      → forms_from fuel bytes i ≡ (fs, j)
  found_in {i} fuel End s l = stopped fuel i s
  found_in zero (Skip k d) s l = absurd (let x = k.within in omega arith)
  found_in {i} (suc n) (Skip k d) s l = step_skipped n i k ∙ found_in n d s (omega arith)
  found_in zero (AWord w d) s l = absurd (omega (arith, w.some, w.within))
  found_in {i} {j} (suc n) (AWord {k = k} {fs = fs} w d) s l =
      step_word n i k w ∙ ap (with_word i k) (found_in n d s (omega (arith, w.some)))
  found_in zero (AList a o d m c e) s l = absurd (omega arith)
  found_in {i} {j} (suc n) (AList {k = k} {gs = gs} {fs = fs} a o d m c e) s l =
      let inner : forms_from n bytes (suc i) ≡ (gs, k) = found_in n d (record { closes = λ _. c }) (omega arith) in
      let x = node_counts-AreForms d in
      step_open n i a o
      ∙ (ap (λ r. with_list i r (forms_from n bytes (suc r.1))) inner ∙ ap (with_list i (gs, k)) (found_in n e s (omega arith)))

  pub found : {i j : ℕ} {fs : Forms} → AreForms bytes i j fs → IsStop j → run_from bytes i ≡ (fs, j)
  found d s = found_in (length bytes) d s (omega arith)

  -- a form that stands in the text is found where it begins
  pub form_from_is : (f : Form) → StandsIn bytes f → f ≡ form_from bytes (span_of f).from
  form_from_is (Word from to) w =
      let p = IsPlain-from_word_byte (get_or bytes from 0) (w.word from (omega arith) w.some) in
      ap (Word from) (word_end_is bytes from to (IsWordEnd-word from to w))
      ∙ ap (λ b. form_made b bytes from) (sym (ne_eqb _ 40 p.not_open))
  form_from_is (ListForm from zero fs) h = absurd h
  form_from_is (ListForm from (suc k) fs) h =
      ap (λ r. ListForm from (suc r.1) r.0) (sym (found h.forms (record { closes = λ _. h.closes })))
      ∙ ap (λ b. form_made b bytes from) (sym (eq-eqb _ 40 (stands_at-byte 40 bytes from h.opens)))

  pub record Spans (from to : ℕ) : Type 0 where
    pub some : from < to
    pub within : to ≤ length bytes

  pub form_spans : (f : Form) → StandsIn bytes f → Spans (span_of f).from (span_of f).to
  form_spans (Word from to) w = record { some = w.some; within = w.within }
  form_spans (ListForm from zero fs) h = absurd h
  form_spans (ListForm from (suc k) fs) h = record { some = omega (arith, node_counts-AreForms h.forms); within = h.ends }

  -- each form of some that stand in the text does
  pub each_stands : {i j : ℕ} {fs : Forms} → (k : ℕ) (f : Form) → AreForms bytes i j fs → form_at fs k ≡ Some f → StandsIn bytes f
  each_stands k f End h = absurd cc
  each_stands k f (Skip s d) h = each_stands k f d h
  each_stands zero f (AWord {i = i} {k = m} w d) h = let e : Word i m ≡ f = cc in subst (StandsIn bytes) e w
  each_stands (suc k) f (AWord w d) h = each_stands k f d h
  each_stands zero f (AList {i = i} {k = m} {gs = gs} l o d n c e) h =
      let same : ListForm i (suc m) gs ≡ f = cc in
      subst (StandsIn bytes) same (record { within = l; opens = o; forms = d; ends = n; closes = c })
  each_stands (suc k) f (AList l o d n c e) h = each_stands k f e h
