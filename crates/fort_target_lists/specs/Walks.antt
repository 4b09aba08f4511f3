-- To believe: how far a walk over all entries has come, tuple symbol by tuple symbol.
use Rattle.std.specs.Prelude.{◌≡◌, ℕ, suc, ◌+◌, ◌^◌, ◌<◌, ◌≤◌, List, ◌++◌, map, take, length, get_or, Bool, IsTrue}
use Rattle.std.specs.List.{flat_map}
use Rattle.fort_theory.specs.Signatures.{Signature, most_columns}
use Rattle.fort_tables.specs.Tuples.{TupleSymbol, IsTupleSymbol}
use Rattle.fort_tables.specs.Entries.{Entry, stage, AreInOrder, HasAllEntries}
use Rattle.fort_tables.specs.Tables.{Listed, listed_table}
use Rattle.fort_tables.specs.Laid.{entries_from, entries_under, symbol_list, by_symbol, in_stage, start_of}
use Rattle.fort_target_lists.specs.Chains.{AreChains}
use Rattle.fort_target_lists.specs.Flats.{base_of, AreLaid}
use Rattle.fort_target_lists.specs.declared.states.LayRoom.{LayRoom}
use Rattle.fort_target_lists.specs.declared.walk.LayingWalk.{LayingWalk}

-- the entries of a table, tuple symbol by tuple symbol
abbrev pub entries_of : Listed → List Entry
entries_of t = by_symbol t.signature t.columns t.presences

-- those of the first n tuple symbols
abbrev pub entries_before : Listed → ℕ → List Entry
entries_before t n = flat_map (entries_under t.signature t.presences) (take n (symbol_list (length t.signature) t.columns))

-- its entries are all those over its states, in order, and there are as many targets, fewer than there are numbers for
pub record IsCovered (t : Listed) : Type 0 where
  pub narrow : t.columns ≤ most_columns
  pub order : AreInOrder t.signature t.columns t.presences t.entries
  pub all : HasAllEntries t.signature t.columns t.presences t.entries
  pub count : length t.targets ≡ length t.entries
  pub few : length t.targets < 2 ^ 64

-- it goes over a table's entries by the chains of its states, beside its targets
pub record IsWalkOf (t : Listed) (walk : LayingWalk) : Type 0 where
  pub listed : IsCovered t
  pub signature : walk.signature.now ≡ t.signature
  pub columns_are : walk.columns ≡ t.columns
  pub base : walk.base ≡ base_of (listed_table t)
  pub chains : AreChains t.columns t.presences walk.chains.now.firsts.items walk.chains.now.nexts.items
  pub targets : walk.targets.now ≡ t.targets

-- the table's states are taken up in the room; its signature, columns and targets are these
pub record IsTakenUp (t : Listed) (sig : Signature) (columns base : ℕ) (targets : List ℕ) (room : LayRoom) : Type 0 where
  pub listed : IsCovered t
  pub signature : sig ≡ t.signature
  pub columns_are : columns ≡ t.columns
  pub base_is : base ≡ base_of (listed_table t)
  pub chains_are : AreChains t.columns t.presences room.chains.firsts.items room.chains.nexts.items
  pub targets_are : targets ≡ t.targets

-- how many entries each stage has
abbrev pub AreStageCounts : List Entry → List ℕ → Type 0
AreStageCounts es counts = (s : ℕ) → s < length counts → get_or counts s 0 ≡ length (in_stage s es)

-- each stage's cursor stands where the stage begins
pub record AreStageBegins (t : Listed) (cursors : List ℕ) : Type 0 where
  pub size : length cursors ≡ suc (length t.presences)
  pub begin : (s : ℕ) → s < length cursors → get_or cursors s 0 ≡ start_of (entries_of t) s

-- where each stage's cursor begins: no cursor goes past the targets, and where targets are laid, the stage's own begin there
pub record AreBegins (t : Listed) (lays : Bool) (begins : List ℕ) : Type 0 where
  pub room : (s : ℕ) → s ≤ length t.presences → get_or begins s 0 + length (in_stage s (entries_of t)) ≤ length t.targets
  pub own : IsTrue lays → (s : ℕ) → s ≤ length t.presences → get_or begins s 0 ≡ start_of (entries_of t) s

-- these entries are passed: each stage's cursor has gone on by those of the stage, and where targets are laid, theirs are
pub record HasPassed (t : Listed) (lays : Bool) (begins : List ℕ) (passed : List Entry) (cursors laid : List ℕ) : Type 0 where
  pub size : length cursors ≡ suc (length t.presences)
  pub cursor : (s : ℕ) → s ≤ length t.presences → get_or cursors s 0 ≡ get_or begins s 0 + length (in_stage s passed)
  pub laid_are : IsTrue lays → laid ≡ map (listed_table t).target passed

-- a place within a tuple symbol's entries: what is passed, the first child states, and what is left behind the entries over them
pub record Stop : Type 0 where
  pub table : Listed
  pub begins : List ℕ
  pub passed : List Entry
  pub kids : List ℕ
  pub left : List Entry

-- a walk is there, before the entries over the first child states and n others, child j being the next
pub record IsStopOf (p : Stop) (walk : LayingWalk) (f : TupleSymbol) (latest j n : ℕ) : Type 0 where
  pub goes : IsWalkOf p.table walk
  pub begin : AreBegins p.table walk.lays p.begins
  pub symbol : IsTupleSymbol p.table.signature p.table.columns f
  pub stage_is : latest ≡ stage p.kids
  pub whole : entries_of p.table ≡ p.passed ++ (entries_from p.table.signature p.table.presences f p.kids j n ++ p.left)

abbrev pub HasPassedTo : Stop → Bool → List ℕ → List ℕ → Type 0
HasPassedTo p lays cursors laid = HasPassed p.table lays p.begins p.passed cursors laid

-- the entries over the first child states and n others are passed too
abbrev pub HasPassedBehind : Stop → Bool → TupleSymbol → ℕ → ℕ → List ℕ → List ℕ → Type 0
HasPassedBehind p lays f j n cursors laid =
    HasPassed p.table lays p.begins (p.passed ++ entries_from p.table.signature p.table.presences f p.kids j n) cursors laid

-- a walk between two tuple symbols: the first n are passed
pub record IsBetween (t : Listed) (begins : List ℕ) (walk : LayingWalk) (n : ℕ) (cursors starts laid : List ℕ) : Type 0 where
  pub goes : IsWalkOf t walk
  pub begin : AreBegins t walk.lays begins
  pub passed : HasPassed t walk.lays begins (entries_before t n) cursors laid
  pub laid_are : IsTrue walk.lays → AreLaid (listed_table t) walk.base n starts laid
