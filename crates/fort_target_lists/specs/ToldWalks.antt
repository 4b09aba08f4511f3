-- Inside: how far a walk over tuple symbols has come that lays the targets it is told of.
use Rattle.std.specs.Prelude.{◌≡◌, ℕ, ◌+◌, ◌≤◌, List, length}
use Rattle.fort_theory.specs.Signatures.{most_columns}
use Rattle.fort_tables.specs.Tuples.{TupleSymbol, IsTupleSymbol, symbol_kids}
use Rattle.fort_tables.specs.Tables.{Table}
use Rattle.fort_target_lists.specs.Chains.{AreChains}
use Rattle.fort_target_lists.specs.ToldTables.{AreFirstKids}
use Rattle.fort_target_lists.specs.Flats.{base_of, AreLaid}
use Rattle.fort_target_lists.specs.declared.told_walk.ToldWalk.{ToldWalk}

-- it goes over a table's tuple symbols, by the chains of its states
pub record GoesOver (body : Table) (walk : ToldWalk) : Type 0 where
  pub narrow : body.columns ≤ most_columns
  pub signature : walk.signature.now ≡ body.signature
  pub columns_are : walk.columns ≡ body.columns
  pub base : walk.base ≡ base_of body
  pub chains : AreChains body.columns body.presences walk.chains.now.firsts.items walk.chains.now.nexts.items

-- it is before the entries of a tuple symbol over these first child states, j of them, and n others
pub record IsBefore (body : Table) (walk : ToldWalk) (f : TupleSymbol) (ks : List ℕ) (j n : ℕ) : Type 0 where
  pub goes : GoesOver body walk
  pub symbol : IsTupleSymbol body.signature body.columns f
  pub kids : AreFirstKids body f ks
  pub first : length ks ≡ j
  pub count : j + n ≡ symbol_kids body.signature f

-- the targets of the tuple symbols with the first n numbers are laid
pub record HasLaid (body : Table) (walk : ToldWalk) (n : ℕ) (starts targets : List ℕ) : Type 0 where
  pub goes : GoesOver body walk
  pub laid_are : AreLaid body walk.base n starts targets
