-- To believe: what of a text is comment, how many parentheses are open at an offset, and which fault of a text is its first.
-- It speaks of the whole text, by counting. Offsets count bytes from 0.
use Rattle.std.specs.Prelude.{◌≡◌, ℕ, ◌+◌, ◌-◌, ◌<◌, ◌≤◌, Bool, true, false, not, ◌&&◌, ◌||◌, ◌==◌, List, length, take, count_by, slice_index}
use Rattle.std.specs.List.{after_last, list_any, range_with_len}
use Rattle.fort_theory.specs.Signatures.{is_word_byte}

-- the line of an offset up to it; lines end at LF, which belongs to none, and a CR ends no line and no comment
abbrev pub line_up_to : List ℕ → ℕ → List ℕ
line_up_to bytes i = after_last (λ b. b == 10) (take (i + 1) bytes)

-- a ; stands at the offset or before it on its line
abbrev pub in_comment : List ℕ → ℕ → Bool
in_comment bytes i = list_any (λ b. b == 59) (line_up_to bytes i)

-- the byte c stands at the offset, and not in a comment
abbrev pub stands_at : ℕ → List ℕ → ℕ → Bool
stands_at c bytes i = (slice_index bytes i == c) && not (in_comment bytes i)

-- how many of the byte c stand before the offset, outside comments
abbrev pub count_before : ℕ → List ℕ → ℕ → ℕ
count_before c bytes i = count_by (stands_at c bytes) (range_with_len 0 i)

-- how many ( stand before the offset, less the )
abbrev pub depth : List ℕ → ℕ → ℕ
depth bytes i = count_before 40 bytes i - count_before 41 bytes i

-- space, tab, CR or LF
abbrev pub is_blank : ℕ → Bool
is_blank b = (b == 32) || (b == 9) || (b == 13) || (b == 10)

-- a byte that may stand outside comments
abbrev pub is_text_byte : ℕ → Bool
is_text_byte b = is_blank b || is_word_byte b || (b == 40) || (b == 41)

abbrev pub deepest : ℕ
deepest = 200

-- a fault and its offset; which fault it is matters where a text is refused, and nowhere else
pub data TextFault : Type 0 where
  BadByte : ℕ → TextFault
  ExtraClose : ℕ → TextFault
  Unclosed : ℕ → TextFault
  TooDeep : ℕ → TextFault

-- at the offset stands a byte outside comments, by which the text is at fault whatever follows
pub data IsFaultyAt (bytes : List ℕ) (i : ℕ) : TextFault → Type 0 where
  Bad : i < length bytes → in_comment bytes i ≡ false → is_text_byte (slice_index bytes i) ≡ false → IsFaultyAt bytes i (BadByte i)
  Extra : i < length bytes → stands_at 41 bytes i ≡ true → depth bytes i ≡ 0 → IsFaultyAt bytes i (ExtraClose i)
  Deep : i < length bytes → stands_at 40 bytes i ≡ true → depth bytes i ≡ deepest → IsFaultyAt bytes i (TooDeep i)

-- no offset below this one is faulty
abbrev pub IsFaultlessBelow : List ℕ → ℕ → Type 0
IsFaultlessBelow bytes n = (i : ℕ) (fault : TextFault) → i < n → IsFaultyAt bytes i fault → ⊥

-- the parenthesis at the offset is never closed: behind it the depth stays above that at it
pub record StaysOpen (bytes : List ℕ) (i : ℕ) : Type 0 where
  pub within : i < length bytes
  pub opens : stands_at 40 bytes i ≡ true
  pub stays : (k : ℕ) → i < k → k ≤ length bytes → depth bytes i < depth bytes k

-- the first fault of a text, the one that is told: at the first faulty offset; or, where none is, the last parenthesis that stays open
pub data IsFirstFault (bytes : List ℕ) : TextFault → Type 0 where
  First : (i : ℕ) (fault : TextFault) → IsFaultyAt bytes i fault → IsFaultlessBelow bytes i → IsFirstFault bytes fault
  Open : (i : ℕ) → IsFaultlessBelow bytes (length bytes) → StaysOpen bytes i → ((k : ℕ) → StaysOpen bytes k → k ≤ i)
      → IsFirstFault bytes (Unclosed i)

-- no fault, and every parenthesis is closed
pub record IsFaultless (bytes : List ℕ) : Type 0 where
  pub none : IsFaultlessBelow bytes (length bytes)
  pub closed : depth bytes (length bytes) ≡ 0
