-- Inside: what holds of the part of a text before an offset, when it is read from left to right.
use Rattle.std.specs.Prelude.{◌≡◌, ℕ, suc, ◌+◌, ◌<◌, ◌≤◌, ◌⊎◌, Bool, true, false, ◌==◌, List, [], ◌∷◌, length, take, slice_index}
use Rattle.std.specs.List.{after_last, list_any}
use Rattle.fort_theory.specs.Signatures.{is_word_byte}
use Rattle.fort_grammar.specs.Text.{stands_at, count_before, depth, deepest, IsFaultlessBelow}
use Rattle.fort_grammar.specs.Forms.{Forms, IsSkipped, AreForms}

-- a ; stands before the offset on its line
abbrev pub comment_before : List ℕ → ℕ → Bool
comment_before bytes i = list_any (λ b. b == 59) (after_last (λ b. b == 10) (take i bytes))

-- a list that isn't closed yet: the offset of its parenthesis, and the forms before it in the list around it
pub record Level : Type 0 where
  pub from : ℕ
  pub before : Forms

-- a list begins at the offset `from`, at this height, and isn't closed before i
pub record IsOpenUpTo (bytes : List ℕ) (height from i : ℕ) : Type 0 where
  pub within : from < length bytes
  pub opens : stands_at 40 bytes from ≡ true
  pub level : depth bytes from ≡ height
  pub stays : (k : ℕ) → from < k → k ≤ i → height < depth bytes k

-- the lists that are open at i, the innermost first, and the forms of the innermost so far
abbrev pub StandUpTo : List ℕ → List Level → Forms → ℕ → Type 0
StandUpTo bytes [] fs i = AreForms bytes 0 i fs
StandUpTo bytes (l ∷ ls) fs i =
    StandUpTo bytes ls l.before l.from × IsOpenUpTo bytes (length ls) l.from i × AreForms bytes (suc l.from) i fs

-- the part before i is read: these lists are open, and these are the forms of the innermost so far
pub record IsReadUpTo (bytes : List ℕ) (levels : List Level) (forms : Forms) (i : ℕ) : Type 0 where
  pub within : i ≤ length bytes
  pub outside : i < length bytes → comment_before bytes i ≡ false
  pub faultless : IsFaultlessBelow bytes i
  pub balanced : count_before 40 bytes i ≡ count_before 41 bytes i + length levels
  pub shallow : length levels ≤ deepest
  pub stand : StandUpTo bytes levels forms i

-- the longest run of bytes of words from one offset ends at the other
pub record IsWordEnd (bytes : List ℕ) (from to : ℕ) : Type 0 where
  pub after : from ≤ to
  pub within : to ≤ length bytes
  pub word : (k : ℕ) → from ≤ k → k < to → is_word_byte (slice_index bytes k) ≡ true
  pub ended : to < length bytes → is_word_byte (slice_index bytes to) ≡ false

-- the line of one offset ends before the other, LF included, or the text does
pub record IsLineEnd (bytes : List ℕ) (from to : ℕ) : Type 0 where
  pub after : from < to
  pub within : to ≤ length bytes
  pub line : (k : ℕ) → from ≤ k → k + 1 < to → slice_index bytes k ≡ 10 → ⊥
  pub ended : to < length bytes → (k : ℕ) → k + 1 ≡ to → slice_index bytes k ≡ 10

-- no LF stands from one offset on before the other
abbrev pub HasNoLineEnd : List ℕ → (from to : ℕ) → Type 0
HasNoLineEnd bytes from to = (k : ℕ) → from ≤ k → k < to → slice_index bytes k ≡ 10 → ⊥

-- the first LF from one offset on stands right before the other
pub record IsBehindLine (bytes : List ℕ) (from to : ℕ) : Type 0 where
  pub after : from < to
  pub within : to ≤ length bytes
  pub line : (k : ℕ) → from ≤ k → k + 1 < to → slice_index bytes k ≡ 10 → ⊥
  pub ended : (k : ℕ) → k + 1 ≡ to → slice_index bytes k ≡ 10

-- the word or the comment that begins at one offset goes on up to the other; where nothing does, they are one
pub record GoesOn (bytes : List ℕ) (at to : ℕ) : Type 0 where
  pub after : at ≤ to
  pub within : to ≤ length bytes
  pub begins : at < to → (is_word_byte (slice_index bytes at) ≡ true) ⊎ (slice_index bytes at ≡ 59)
  pub word : is_word_byte (slice_index bytes at) ≡ true → (k : ℕ) → at ≤ k → k < to → is_word_byte (slice_index bytes k) ≡ true
  pub comment : slice_index bytes at ≡ 59 → HasNoLineEnd bytes at to

-- blanks and comments alone stand from one offset to the other, and none at that
pub record IsNextToken (bytes : List ℕ) (from to : ℕ) : Type 0 where
  pub after : from ≤ to
  pub within : to ≤ length bytes
  pub skipped : (k : ℕ) → from ≤ k → k < to → IsSkipped bytes k
  pub ended : IsSkipped bytes to → ⊥
