-- To believe: what a list has to be to be tightened.
use Rattle.std.specs.Prelude.{◌≡◌, ℕ}
use Rattle.fort_theory.specs.Signatures.{Signature}
use Rattle.fort_tables.specs.Tables.{Table}
use Rattle.fort_target_lists.specs.ClassLists.{IsClassListOf}
use Rattle.fort_target_lists.specs.ClassLeaders.{HasOwnLeaders}
use Rattle.fort_target_lists.specs.declared.class_list.ClassList.{ClassList}

-- the list of a table over this signature and so many columns, each class led by its own first state
pub record IsListedOver (sig : Signature) (columns : ℕ) (body : Table) (l : ClassList) : Type 0 where
  pub signature : body.signature ≡ sig
  pub columns_are : body.columns ≡ columns
  pub list : IsClassListOf body l
  pub leaders : HasOwnLeaders body l
