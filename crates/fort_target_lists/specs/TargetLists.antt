-- To believe: what a list of a table's targets is, the room that it needs, and from what it is laid.
use Rattle.std.specs.Prelude.{◌≡◌, ℕ, suc, ◌≤◌, ◌||◌, List, get_or, Option, None, Some, is_some, IfSome, IsTrue, IsFalse, vec_capacity}
use Rattle.std.proofs.Props.{props}
use Rattle.fort_theory.specs.Signatures.{Signature}
use Rattle.fort_tables.specs.Entries.{Entry}
use Rattle.fort_tables.specs.Tables.{Table, IsTableEntry, Listed, IsListed}
use Rattle.fort_tables.specs.Products.{Operand, OfTable, OfTruth}
use Rattle.fort_class_blocks.specs.Blocks.{target_of}
use Rattle.fort_target_lists.specs.Places.{number_of}
use Rattle.fort_target_lists.specs.Flats.{flat_place, IsFlatOf}
use Rattle.fort_target_lists.specs.ClassLists.{kid_classes, IsClassListOf}
use Rattle.fort_target_lists.specs.declared.flat.FlatTargets.{FlatTargets}
use Rattle.fort_target_lists.specs.declared.class_list.ClassList.{ClassList}
use Rattle.fort_target_lists.specs.declared.target_list.TargetList.{TargetList}

-- where it is made, the list is the table's own
abbrev pub IsListOfTable : Table → TargetList → Type 0
IsListOfTable body l = IsTrue l.is_made → IsFlatOf body l.list

-- the same, targets by classes are the table's too, and where the table has an entry there are the ones or the others
pub record IsTargetListOf (body : Table) (l : TargetList) : Type 0 where
  pub list_is : IsTrue l.is_made → IsFlatOf body l.list
  pub classes_are : (c : ClassList) → l.by_classes ≡ Some c → IsClassListOf body c
  pub made : (e : Entry) → IsTableEntry body e → IsTrue (l.is_made || is_some l.by_classes)

-- the target that a list has for an entry: by its children's classes, else where it stands
abbrev pub read_in : Option ClassList → FlatTargets → Entry → ℕ
read_in None flat e = get_or flat.listing.targets.items (flat_place flat e) 0
read_in (Some c) flat e = target_of c.blocks (number_of c.base e.symbol) (kid_classes c e)

abbrev pub target_read : TargetList → Entry → ℕ
target_read l e = read_in l.by_classes l.list e

-- where it is made, an operand's list is its table's; a truth has none
abbrev pub IsOperandList : Operand → TargetList → Type 0
IsOperandList (OfTable table places) list = IsListOfTable table list
IsOperandList (OfTruth b) list = IsFalse list.is_made

-- room for the list of a table of this size, with a start for each tuple symbol: a table with entries has at most one more than entries
pub record HasListRoom (states entries : ℕ) (l : TargetList) : Type 0 where
  pub ranks : states ≤ vec_capacity l.list.spots.ranks
  pub alike : states ≤ vec_capacity l.list.spots.alike
  pub targets : entries ≤ vec_capacity l.list.listing.targets
  pub starts : suc entries ≤ vec_capacity l.list.listing.starts

-- a listed table with this signature, over so many columns, with these presences and these targets
pub record IsTableWith (t : Listed) (sig : Signature) (columns : ℕ) (presences targets : List ℕ) : Type 0 where
  pub listed : IsListed t
  pub signature : sig ≡ t.signature
  pub columns_are : columns ≡ t.columns
  pub presences_are : presences ≡ t.presences
  pub targets_are : targets ≡ t.targets

pub IfTargetList-prop : {A : Type 0} (body : Table) (list : Option A) (now : A → TargetList) → IsProp (IfSome list (λ l. IsTargetListOf body (now l)))
IfTargetList-prop body None now = hlevel props
IfTargetList-prop body (Some l) now = hlevel props
