-- To believe: the blocks of the tuple symbols with the first numbers.
use Rattle.std.specs.Prelude.{◌≡◌, ℕ, ◌+◌, ◌<◌, ◌≤◌, List, map, take, drop, length, get_or}
use Rattle.fort_theory.specs.Signatures.{Signature}
use Rattle.fort_tables.specs.Tuples.{TupleSymbol, IsPresent, symbol_kids}
use Rattle.fort_tables.specs.Entries.{Entry}
use Rattle.fort_tuple_symbols.specs.SymbolNumbers.{columns_at}
use Rattle.fort_class_blocks.specs.Blocks.{Block, counts_at}
use Rattle.fort_target_lists.specs.declared.class_list.ClassView.{ClassView}
use Rattle.fort_leading_tables.specs.declared.leading_targets.LeadingTargets.{LeadingTargets}
use Rattle.fort_class_targets.specs.FilledBlocks.{leaders_of, ArePlaces, MayFill, IsFilled}

-- the tuple symbol with a number
abbrev pub symbol_at : Signature → ℕ → ℕ → TupleSymbol
symbol_at sig columns m = columns_at (length sig + 1) columns m

-- the numbers of the views of its places
abbrev pub numbers_at : Signature → ℕ → List ℕ → List ℕ → ℕ → List ℕ
numbers_at sig columns starts numbers m = take (symbol_kids sig (symbol_at sig columns m)) (drop (get_or starts m 0) numbers)

-- the leaders at its places
abbrev pub leaders_under : Signature → ℕ → List ClassView → List ℕ → List ℕ → ℕ → List (List ℕ)
leaders_under sig columns vs starts numbers m = leaders_of vs (numbers_at sig columns starts numbers m)

-- each tuple symbol's views are there, and the entries over their leaders have targets
pub record AreTold (sig : Signature) (columns : ℕ) (es : List Entry) (qs : List ℕ) (targets : LeadingTargets) (vs : List ClassView) (starts numbers : List ℕ) : Type 0 where
  pub within : (m : ℕ) → m < length starts → get_or starts m 0 + symbol_kids sig (symbol_at sig columns m) ≤ length numbers
  pub places : (m : ℕ) → m < length starts → ArePlaces vs (numbers_at sig columns starts numbers m)
  pub listed : (m : ℕ) → m < length starts → IsPresent (symbol_at sig columns m) → MayFill columns es qs targets (symbol_at sig columns m) (leaders_under sig columns vs starts numbers m)

-- the blocks of those with the first n numbers
pub record HasBlocks (sig : Signature) (columns n : ℕ) (es : List Entry) (qs : List ℕ) (vs : List ClassView) (starts numbers : List ℕ) (bs : List Block) : Type 0 where
  pub count : length bs ≡ n
  pub counts : (m : ℕ) → m < n → counts_at bs m ≡ map (length {A = ℕ}) (leaders_under sig columns vs starts numbers m)
  pub filled : (m : ℕ) → m < n → IsPresent (symbol_at sig columns m) → IsFilled es qs (symbol_at sig columns m) (leaders_under sig columns vs starts numbers m) bs m
