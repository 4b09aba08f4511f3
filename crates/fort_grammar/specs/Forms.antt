-- To believe: what the forms of a text are: words, and lists of forms in parentheses, each with the offsets at which it begins and ends.
use Rattle.std.specs.Prelude.{◌≡◌, ℕ, suc, ◌<◌, ◌≤◌, ◌⊎◌, true, false, List, length, slice_index}
use Rattle.fort_theory.specs.Signatures.{is_word_byte}
use Rattle.fort_grammar.specs.Text.{in_comment, stands_at, is_blank, IsFaultless}

-- the end of a form is the offset behind its last byte; a list has both its parentheses
mutual
  pub data Form : Type 0 where
    Word : (from : ℕ) → (to : ℕ) → Form
    ListForm : (from : ℕ) → (to : ℕ) → (forms : Forms) → Form

  pub data Forms : Type 0 where
    NoForm : Forms
    MoreForms : (first : Form) → (rest : Forms) → Forms

-- a blank, or a byte of a comment
pub record IsSkipped (bytes : List ℕ) (i : ℕ) : Type 0 where
  pub within : i < length bytes
  pub idle : (in_comment bytes i ≡ true) ⊎ (is_blank (slice_index bytes i) ≡ true)

-- from one offset to the other stands a longest run of bytes of words, outside comments
pub record IsWordAt (bytes : List ℕ) (from to : ℕ) : Type 0 where
  pub some : from < to
  pub within : to ≤ length bytes
  pub word : (k : ℕ) → from ≤ k → k < to → is_word_byte (slice_index bytes k) ≡ true
  pub outside : (k : ℕ) → from ≤ k → k < to → in_comment bytes k ≡ false
  pub ended : to < length bytes → is_word_byte (slice_index bytes to) ≡ false

-- between two offsets stand these forms
pub data AreForms (bytes : List ℕ) : ℕ → ℕ → Forms → Type 0 where
  End : {i : ℕ} → AreForms bytes i i NoForm
  Skip : {i j : ℕ} {fs : Forms} → IsSkipped bytes i → AreForms bytes (suc i) j fs → AreForms bytes i j fs
  AWord : {i k j : ℕ} {fs : Forms} → IsWordAt bytes i k → AreForms bytes k j fs → AreForms bytes i j (MoreForms (Word i k) fs)
  AList : {i k j : ℕ} {gs fs : Forms} → i < length bytes → stands_at 40 bytes i ≡ true → AreForms bytes (suc i) k gs
      → k < length bytes → stands_at 41 bytes k ≡ true → AreForms bytes (suc k) j fs
      → AreForms bytes i j (MoreForms (ListForm i (suc k) gs) fs)

-- the text is without fault, and these are its forms
pub record AreFormsOf (bytes : List ℕ) (forms : Forms) : Type 0 where
  pub faultless : IsFaultless bytes
  pub stand : AreForms bytes 0 (length bytes) forms
