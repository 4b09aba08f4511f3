-- Inside: the forms that stand in a text from an offset on, found from its bytes alone.
use Rattle.std.specs.Prelude.{◌≡◌, ℕ, zero, suc, ◌+◌, ◌<◌, Bool, true, false, cond, ltb, ◌||◌, ◌==◌, List, length, drop, slice_index}
use Rattle.std.specs.List.{prefix_len}
use Rattle.fort_theory.specs.Signatures.{is_word_byte}
use Rattle.fort_grammar.specs.Text.{in_comment, stands_at, is_blank}
use Rattle.fort_grammar.specs.Forms.{Form, Forms, Word, ListForm, NoForm, MoreForms, IsWordAt, AreForms}

-- behind the longest run of bytes of words from this offset on
unfoldable pub word_end : List ℕ → ℕ → ℕ
word_end bytes from = from + prefix_len is_word_byte (drop from bytes)

-- forms from an offset on, and the offset of what ends them
abbrev pub Run : Type 0
Run = Forms × ℕ

abbrev pub with_word : ℕ → ℕ → Run → Run
with_word from to r = (MoreForms (Word from to) r.0, r.1)

abbrev pub with_list : ℕ → Run → Run → Run
with_list from inner r = (MoreForms (ListForm from (suc inner.1) inner.0) r.0, r.1)

-- the forms from this offset on, up to a parenthesis that closes none of them or the text's end; in so many steps
unfoldable pub forms_from : ℕ → List ℕ → ℕ → Run
forms_from zero bytes at = (NoForm, at)
forms_from (suc n) bytes at =
    cond (ltb at (length bytes))
    (cond (in_comment bytes at || is_blank (slice_index bytes at)) (forms_from n bytes (suc at))
    (cond (is_word_byte (slice_index bytes at)) (with_word at (word_end bytes at) (forms_from n bytes (word_end bytes at)))
    (cond (slice_index bytes at == 40)
    (with_list at (forms_from n bytes (suc at)) (forms_from n bytes (suc (forms_from n bytes (suc at)).1)))
    (NoForm, at))))
    (NoForm, at)

-- a text has no more steps than bytes
abbrev pub run_from : List ℕ → ℕ → Run
run_from bytes at = forms_from (length bytes) bytes at

-- a list, which has the forms behind its parenthesis, or a word
abbrev pub form_made : Bool → List ℕ → ℕ → Form
form_made true bytes from = ListForm from (suc (run_from bytes (suc from)).1) (run_from bytes (suc from)).0
form_made false bytes from = Word from (word_end bytes from)

-- the form that begins at this offset: where a parenthesis stands a list does
abbrev pub form_from : List ℕ → ℕ → Form
form_from bytes from = form_made (slice_index bytes from == 40) bytes from

-- between two parentheses of the text, at these offsets, stand these forms
pub record IsListAt (bytes : List ℕ) (from close : ℕ) (fs : Forms) : Type 0 where
  pub within : from < length bytes
  pub opens : stands_at 40 bytes from ≡ true
  pub forms : AreForms bytes (suc from) close fs
  pub ends : close < length bytes
  pub closes : stands_at 41 bytes close ≡ true

-- this form stands in the text
abbrev pub StandsIn : List ℕ → Form → Type 0
StandsIn bytes (Word from to) = IsWordAt bytes from to
StandsIn bytes (ListForm from zero forms) = ⊥
StandsIn bytes (ListForm from (suc close) forms) = IsListAt bytes from close forms

-- from this offset on stand forms, in a list that is closed behind them
pub record IsRest (bytes : List ℕ) (at : ℕ) : Type 0 where
  pub forms : AreForms bytes at (run_from bytes at).1 (run_from bytes at).0
  pub ends : (run_from bytes at).1 < length bytes
  pub closes : stands_at 41 bytes (run_from bytes at).1 ≡ true
