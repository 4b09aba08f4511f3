-- Inside: what a byte begins where so many lists are open, and its fault there.
use Rattle.std.specs.Prelude.{◌≡◌, ℕ, ◌<◌, ◌≤◌, true, false}
use Rattle.fort_theory.specs.Signatures.{is_word_byte}
use Rattle.fort_grammar.specs.Text.{is_blank, is_text_byte, deepest}
use Rattle.fort_sexpr.specs.declared.fault.SFault.{SFault}
use Rattle.fort_sexpr.specs.declared.fault.SFault.TheVariants as faults
use Rattle.fort_sexpr.specs.declared.token.Token.{Token}
use Rattle.fort_sexpr.specs.declared.token.Token.TheVariants as tokens

-- the byte begins this, and isn't at fault, where so many lists are open
abbrev pub IsToken : (byte height : ℕ) → Token → Type 0
IsToken byte height tokens.Blank = is_blank byte ≡ true
IsToken byte height tokens.Comment = byte ≡ 59
IsToken byte height tokens.Word = is_word_byte byte ≡ true
IsToken byte height tokens.Open = (byte ≡ 40) × (height < deepest)
IsToken byte height tokens.Close = (byte ≡ 41) × (0 < height)

-- the byte at the offset is at fault so
abbrev pub IsFaultOfByte : (byte at height : ℕ) → SFault → Type 0
IsFaultOfByte byte at height faults.Memory = ⊥
IsFaultOfByte byte at height (faults.BadByte i) = (i ≡ at) × (byte ≡ 59 → ⊥) × (is_text_byte byte ≡ false)
IsFaultOfByte byte at height (faults.ExtraClose i) = (i ≡ at) × (byte ≡ 41) × (height ≡ 0)
IsFaultOfByte byte at height (faults.Unclosed i) = ⊥
IsFaultOfByte byte at height (faults.TooDeep i) = (i ≡ at) × (byte ≡ 40) × (deepest ≤ height)

-- a byte brings the fault, and not the end of the text or want of memory
abbrev pub IsOfByte : SFault → Type 0
IsOfByte faults.Memory = ⊥
IsOfByte (faults.Unclosed i) = ⊥
IsOfByte fault = Unit {0}
