-- To believe: the renumbered places and blocks of the tuple symbols with the first numbers.
use Rattle.std.specs.Prelude.{◌≡◌, ℕ, ◌+◌, ◌*◌, ◌<◌, ◌≤◌, ◌^◌, List, [], ◌++◌, map, length, get_or}
use Rattle.fort_theory.specs.Signatures.{Signature}
use Rattle.fort_tables.specs.Tuples.{TupleSymbol, IsPresent, symbol_kids, tabulate}
use Rattle.fort_tuple_symbols.specs.SymbolNumbers.{columns_at}
use Rattle.fort_class_blocks.specs.Blocks.{Block, counts_at}
use Rattle.fort_class_blocks.specs.KeptBlocks.{HasBlock}
use Rattle.fort_target_lists.specs.Places.{number_of}
use Rattle.fort_target_lists.specs.ClassLists.{view_of, view_leaders}
use Rattle.fort_target_lists.specs.declared.class_list.ClassView.{ClassView}
use Rattle.fort_target_lists.specs.declared.class_list.ClassList.{ClassList}
use Rattle.fort_tight_lists.specs.Picks.{AreRenumberings, IsPicked}
use Rattle.fort_tight_lists.specs.TightViews.{AreTightViews, IsTightAt}
use Rattle.fort_tight_lists.specs.declared.tight_views.TightViews.{TightViews}
use Rattle.fort_tight_lists.specs.declared.parts.TightParts.{TightParts}

-- the tuple symbol with a number
abbrev pub symbol_at : Signature → ℕ → ℕ → TupleSymbol
symbol_at sig columns m = columns_at (length sig + 1) columns m

-- the list has so many places and a block under the tuple symbol of this number
pub record IsReadable (l : ClassList) (number places : ℕ) : Type 0 where
  pub start : number < length l.starts.items
  pub block : number < length l.blocks
  pub numbers : (j : ℕ) → j < places → get_or l.starts.items number 0 + j < length l.numbers.items
  pub views : (j : ℕ) → j < places → view_of l number j < length l.views.items
  pub leaders : (j : ℕ) → j < places → length (view_leaders l (view_of l number j)) < 2 ^ 32
  pub counts : counts_at l.blocks number ≡ tabulate places (λ j. length (view_leaders l (view_of l number j)))

-- so do lists of renumbered views and of blocks: the old number's places from this start on, and its block at this number
pub record IsTightSymbol (l : ClassList) (number places : ℕ) (tight : List ClassView) (added : List ℕ) (start : ℕ) (bs : List Block) (d : ℕ) : Type 0 where
  pub numbers : List (List ℕ)
  pub firsts : List (List ℕ)
  pub places_all : length (counts_at l.blocks number) ≡ places
  pub are : AreRenumberings l.blocks number (counts_at l.blocks number) numbers firsts
  pub within : start + places ≤ length added
  pub tight_at : (j : ℕ) → j < places → IsTightAt l.views.items tight (view_of l number j) (get_or numbers j []) (get_or firsts j []) (get_or added (start + j) 0)
  pub counts : counts_at bs d ≡ map (length {A = ℕ}) firsts
  pub picked : IsPicked l.blocks number firsts bs d

-- a few more views and numbers of views, and one more block
pub record HasMore (vs : List ClassView) (old new : TightViews) (before after : List ℕ) (old_blocks new_blocks : List Block) : Type 0 where
  pub tight : AreTightViews vs new.keys new.views.items
  pub more : List ClassView
  pub views : new.views.items ≡ old.views.items ++ more
  pub few : length more ≤ 8
  pub added : List ℕ
  pub numbers : after ≡ before ++ added
  pub counts : List ℕ
  pub block : HasBlock old_blocks new_blocks counts

-- the first n tuple symbols have their places and blocks
pub record HasTightSymbols (sig : Signature) (columns n : ℕ) (l : ClassList) (t : TightParts) : Type 0 where
  pub tight : AreTightViews l.views.items t.views.keys t.views.views.items
  pub few : length t.views.views.items ≤ 8 * n
  pub starts_all : length t.starts.items ≡ n
  pub blocks_all : length t.blocks ≡ n
  pub symbols : (m : ℕ) → m < n → IsPresent (symbol_at sig columns m)
      → IsTightSymbol l (number_of l.base (symbol_at sig columns m)) (symbol_kids sig (symbol_at sig columns m)) t.views.views.items t.numbers.items (get_or t.starts.items m 0) t.blocks m

-- each tuple symbol that is there can be read in the list
pub record AreReadable (sig : Signature) (columns : ℕ) (l : ClassList) : Type 0 where
  pub base_is : l.base ≡ length sig + 1
  pub small : l.base ^ columns < 2 ^ 64
  pub symbols : (m : ℕ) → m < length l.starts.items → IsPresent (symbol_at sig columns m) → IsReadable l (number_of l.base (symbol_at sig columns m)) (symbol_kids sig (symbol_at sig columns m))
