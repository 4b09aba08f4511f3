-- To believe: where a form stands, and whether it is a list; how many forms a list has, and which is its i-th; the word that bytes begin with, and the word that forms begin with; which words are digits, and the number that they write.
use Rattle.std.specs.Prelude.{◌≡◌, ℕ, zero, suc, ◌<◌, ◌^◌, Bool, true, false, List, ◌∷◌, take, Option, Some, None}
use Rattle.std.specs.List.{prefix_len}
use Rattle.std.specs.Str.Parse.{AllDigits, digits_value}
use Rattle.fort_theory.specs.Signatures.{is_word_byte}
use Rattle.fort_grammar.specs.Declarations.{word_of}
use Rattle.fort_grammar.specs.Forms.{Form, Forms, Word, ListForm, NoForm, MoreForms}
use Rattle.fort_sexpr.specs.declared.form.Span.{Span}
use Rattle.fort_sexpr.specs.declared.digits.Digits.{Digits}

abbrev pub span_of : Form → Span
span_of (Word from to) = record { from = from; to = to }
span_of (ListForm from to fs) = record { from = from; to = to }

abbrev pub is_list : Form → Bool
is_list (Word from to) = false
is_list (ListForm from to fs) = true

abbrev pub form_count : Forms → ℕ
form_count NoForm = 0
form_count (MoreForms f fs) = suc (form_count fs)

abbrev pub form_at : Forms → ℕ → Option Form
form_at NoForm i = None
form_at (MoreForms f fs) zero = Some f
form_at (MoreForms f fs) (suc i) = form_at fs i

-- the longest run of bytes of words that these bytes begin with
abbrev pub word_ahead : List ℕ → List ℕ
word_ahead bytes = take (prefix_len is_word_byte bytes) bytes

-- the first of these forms is this word, and those behind it are the rest
pub record IsFirstWord (bytes : List ℕ) (fs : List Form) (word : List ℕ) (rest : List Form) : Type 0 where
  pub form : Form
  pub forms : fs ≡ form ∷ rest
  pub is : word_of bytes form ≡ Some word

-- decimal digits alone, which write a number of 32 bits; where there is no digit, 0
pub record IsDigitWord (word : List ℕ) : Type 0 where
  pub digits : AllDigits 10 word
  pub small : digits_value 10 word < 2 ^ 32

-- the value is the number that the text writes
pub record IsWritten (d : Digits) : Type 0 where
  pub word : IsDigitWord d.text.now
  pub value : digits_value 10 d.text.now ≡ d.value
