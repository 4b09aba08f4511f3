-- A written word is read as a word.
use Rattle.std.proofs.Common.{◌≡◌, ℕ, zero, suc, ◌+◌, ◌-◌, ◌%◌, ◌^◌, ◌<◌, ◌≤◌, true, false, List, [], ◌∷◌, ◌++◌, length, get_or, take, drop, Some, ap, sym, ◌∙◌, arith, subst, ⊎_elim, decimal, append_assoc}
use Rattle.std.proofs.lemmas.Bool.{cases_lt}
use Rattle.std.proofs.lemmas.List.{length-append, length-drop, get_or_append_left, get_or-drop, get_or_push, length_push, drop-drop, append-nil}
use Rattle.std.proofs.Math.Seq.{take-append_seam, drop-append_seam}
use Rattle.std.proofs.lemmas.Fmt.{decimal_by_steps}
use Rattle.std.proofs.lemmas.Bool.Decides.{nat_tests, leb_tells}
use Rattle.fort_theory.specs.Signatures.{is_word_byte}
use Rattle.fort_grammar.specs.Forms.{Forms, NoForm, MoreForms, Word}
use Rattle.fort_grammar.specs.Declarations.{word_of}
use Rattle.fort_sexpr.specs.Progress.{Level, IsReadUpTo, IsWordEnd}
use Rattle.fort_sexpr.proofs.FormLists.{joined}
use Rattle.fort_sexpr.proofs.Steps.{read_word}

-- a text of at least one byte, all of them bytes of words
pub record IsWritten (w : List ℕ) : Type 0 where
  pub some : 0 < length w
  pub bytes : (k : ℕ) → k < length w → is_word_byte (get_or w k 0) ≡ true

-- the text goes on with no byte of a word
pub record IsBreak (rest : List ℕ) : Type 0 where
  pub ends : 0 < length rest → is_word_byte (get_or rest 0 0) ≡ false

-- at an offset of a text
pub record IsAt (bytes : List ℕ) (i : ℕ) (w rest : List ℕ) : Type 0 where
  pub is : drop i bytes ≡ w ++ rest
  pub within : i ≤ length bytes

pub at_length : (bytes : List ℕ) (i : ℕ) (w rest : List ℕ) → IsAt bytes i w rest → length bytes ≡ i + (length w + length rest)
at_length bytes i w rest h = omega (arith, ap length h.is, length-drop i bytes, length-append w rest, h.within)

pub at_byte : (bytes : List ℕ) (i : ℕ) (w rest : List ℕ) (k : ℕ) → IsAt bytes i w rest → k < length w → get_or bytes (i + k) 0 ≡ get_or w k 0
at_byte bytes i w rest k h l = sym (get_or-drop i bytes k 0) ∙ (ap (λ xs. get_or xs k 0) h.is ∙ get_or_append_left w rest 0 k l)

pub at_past : (bytes : List ℕ) (i : ℕ) (w v rest : List ℕ) → IsAt bytes i w (v ++ rest) → IsAt bytes (i + length w) v rest
at_past bytes i w v rest h = record {
  is = sym (drop-drop (length w) i bytes) ∙ (ap (drop (length w)) h.is ∙ drop-append_seam w (v ++ rest));
  within = omega (arith, at_length bytes i w (v ++ rest) h);
}

pub at_first : (bytes : List ℕ) (i b : ℕ) (w rest : List ℕ) → IsAt bytes i (b ∷ w) rest → get_or bytes i 0 ≡ b
at_first bytes i b w rest h = let e : i + 0 ≡ i = omega arith in ap (λ k. get_or bytes k 0) (sym e) ∙ at_byte bytes i (b ∷ w) rest 0 h (omega arith)

-- cut one text into two
pub at_front : (bytes : List ℕ) (i : ℕ) (u v rest : List ℕ) → IsAt bytes i (u ++ v) rest → IsAt bytes i u (v ++ rest)
at_front bytes i u v rest h = record { is = h.is ∙ append_assoc u v rest; within = h.within }

word_end : (bytes : List ℕ) (i : ℕ) (w rest : List ℕ) → IsAt bytes i w rest → IsWritten w → IsBreak rest → IsWordEnd bytes i (i + length w)
word_end bytes i w rest h n b = record {
  after = omega arith;
  within = omega (arith, at_length bytes i w rest h);
  word = λ k l m.
      let e : i + (k - i) ≡ k = omega arith in
      let c : k - i < length w = omega arith in
      subst (λ (x : ℕ). is_word_byte (get_or bytes x 0) ≡ true) e (ap is_word_byte (at_byte bytes i w rest (k - i) h c) ∙ n.bytes (k - i) c);
  ended = λ l.
      let some : 0 < length rest = omega (arith, at_length bytes i w rest h) in
      let e : i + length w ≡ (i + length w) + 0 = omega arith in
      let past = at_past bytes i w rest [] (record { is = h.is ∙ ap (λ xs. w ++ xs) (sym (append-nil rest)); within = h.within }) in
      ap is_word_byte (ap (λ k. get_or bytes k 0) e ∙ at_byte bytes (i + length w) rest [] 0 past some) ∙ b.ends some;
}

pub text_word : (bytes : List ℕ) (levels : List Level) (fs : Forms) (i : ℕ) (w rest : List ℕ) → IsReadUpTo bytes levels fs i → IsAt bytes i w rest
    → IsWritten w → IsBreak rest
    → IsReadUpTo bytes levels (joined fs (MoreForms (Word i (i + length w)) NoForm)) (i + length w)
text_word bytes levels fs i w rest r h n b =
    let e : i + 0 ≡ i = omega arith in
    read_word bytes levels fs i (i + length w) r (omega (arith, at_length bytes i w rest h, n.some))
    (ap (λ k. is_word_byte (get_or bytes k 0)) (sym e) ∙ (ap is_word_byte (at_byte bytes i w rest 0 h n.some) ∙ n.bytes 0 n.some))
    (word_end bytes i w rest h n b)

pub word_again : (bytes : List ℕ) (i : ℕ) (w rest : List ℕ) → IsAt bytes i w rest → word_of bytes (Word i (i + length w)) ≡ Some w
word_again bytes i w rest h =
    let e : (i + length w) - i ≡ length w = omega arith in
    ap Some (ap (λ n. take n (drop i bytes)) e ∙ (ap (take (length w)) h.is ∙ take-append_seam w rest))

-- numbers are written so
digit_byte : (b : ℕ) → 48 ≤ b → b ≤ 57 → is_word_byte b ≡ true
digit_byte b l m = grind (arith, nat_tests, leb_tells)

pub written_one : (b : ℕ) → is_word_byte b ≡ true → IsWritten (b ∷ [])
written_one b h = record { some = omega arith; bytes = λ k. elim k as (λ k. k < length (b ∷ []) → is_word_byte (get_or (b ∷ []) k 0) ≡ true) [ zero ↦ (λ l. h) | suc j ↦ (λ l. absurd (omega arith)) ] }

pub written_push : (w : List ℕ) (b : ℕ) → IsWritten w → is_word_byte b ≡ true → IsWritten (w ++ b ∷ [])
written_push w b n h = record {
  some = omega (arith, length_push w b);
  bytes = λ k l. ⊎_elim
      (λ m. ap is_word_byte (get_or_append_left w (b ∷ []) 0 k m) ∙ n.bytes k m)
      (λ m. ap is_word_byte (get_or_push w b 0 k (omega (arith, length_push w b))) ∙ h)
      (cases_lt k (length w));
}

pub written_number : (n : ℕ) → n < 2 ^ 64 → IsWritten (decimal n)
written_number n l = decimal_by_steps (λ m ds. IsWritten ds)
    (λ m c. written_one (48 + m) (digit_byte (48 + m) (omega arith) (omega arith)))
    (λ m ds c h. written_push ds (48 + m % 10) h (digit_byte (48 + m % 10) (omega arith) (omega arith)))
    n l
