-- A table's list that was laid: there is room for it, and it is the table's own. An operand's list.
use Rattle.std.proofs.Common.{◌≡◌, ℕ, suc, ◌^◌, ◌<◌, ◌≤◌, List, length, get_or, Bool, Option, None, Some, IfSome, IsTrue, IsFalse, ap, sym, ◌∙◌, arith, subst, true≢false}
use Rattle.std.proofs.lemmas.Option.{none-some}
use Rattle.fort_theory.specs.Signatures.{Signature}
use Rattle.fort_tables.specs.Tables.{Table, Listed, listed_table}
use Rattle.fort_tables.proofs.Counts.{symbols_few}
use Rattle.fort_target_lists.specs.Places.{AreSpots}
use Rattle.fort_target_lists.specs.Flats.{AreLaid, IsFlatOf}
use Rattle.fort_target_lists.specs.ClassLists.{IsClassListOf}
use Rattle.fort_target_lists.specs.declared.class_list.ClassList.{ClassList}
use Rattle.fort_target_lists.specs.TargetLists.{IsTargetListOf, IsOperandList, IsTableWith}
use Rattle.fort_tables.specs.Products.{Operand, OfTable, OfTruth}
use Rattle.fort_target_lists.specs.ListedOperands.{IsListOf}
use Rattle.fort_target_lists.specs.declared.target_list.TargetList.{TargetList}
use Rattle.fort_target_lists.specs.declared.flat.FlatTargets.{FlatTargets}
use Rattle.fort_target_lists.proofs.ChainLaws.{presences_below}
use Rattle.fort_target_lists.proofs.ListingLaws.{laid_entries}

-- tuple symbols are few
pub symbols_within : (t : Listed) (sig : Signature) (columns : ℕ) (presences targets : List ℕ) → IsTableWith t sig columns presences targets → 0 < length targets
    → suc (length sig) ^ columns ≤ suc (length targets)
symbols_within t sig columns presences targets h l =
    omega (
      arith,
      symbols_few t h.listed (omega (arith, l, ap length h.targets_are, h.listed.count)),
      ap (λ n. suc n ^ columns) (ap length h.signature),
      ap (λ c. suc (length t.signature) ^ c) h.columns_are,
      ap length h.targets_are,
      h.listed.count,
    )

pub presences_few : (t : Listed) (sig : Signature) (columns : ℕ) (presences targets : List ℕ) → IsTableWith t sig columns presences targets → (q : ℕ) → q < length presences
    → get_or presences q 0 < 2 ^ columns
presences_few t sig columns presences targets h q l =
    omega (
      arith,
      presences_below (listed_table t) h.listed.table h.listed.reached q (omega (arith, l, ap length h.presences_are)),
      ap (λ (ps : List ℕ). get_or ps q 0) h.presences_are,
      ap (λ c. 2 ^ c) h.columns_are,
    )

-- Result: where all is laid, the list is the table's
pub list_of_laid : (t : Listed) (sig : Signature) (columns : ℕ) (presences targets : List ℕ) (flat : FlatTargets) (count : ℕ) → IsTableWith t sig columns presences targets
    → flat.base ≡ suc (length sig) → count ≡ flat.base ^ columns → count < 2 ^ 64 → AreSpots presences flat.spots.ranks.items flat.spots.alike.items
    → AreLaid (listed_table t) flat.base count flat.listing.starts.items flat.listing.targets.items → IsFlatOf (listed_table t) flat
list_of_laid t sig columns presences targets flat count h base all few spots laid =
    let b : flat.base ≡ suc (length t.signature) = base ∙ ap (λ n. suc n) (ap length h.signature) in
    let n : count ≡ flat.base ^ t.columns = all ∙ ap (λ c. flat.base ^ c) h.columns_are in
    let own : AreSpots t.presences flat.spots.ranks.items flat.spots.alike.items =
    subst (λ (ps : List ℕ). AreSpots ps flat.spots.ranks.items flat.spots.alike.items) h.presences_are spots in
    record {
      base_is = b;
      starts_all = laid.count ∙ n;
      few = omega (arith, n, few);
      spots = own;
      entries = laid_entries (listed_table t) flat.base count flat.listing.starts.items flat.listing.targets.items flat.spots.ranks.items flat.spots.alike.items b n own laid;
    }

-- Result: without entries there need be no list
pub no_list : (t : Listed) (sig : Signature) (columns : ℕ) (presences targets : List ℕ) (l : TargetList) → IsTableWith t sig columns presences targets → length targets ≡ 0 → IsFalse l.is_made → l.by_classes ≡ None → IsTargetListOf (listed_table t) l
no_list t sig columns presences targets l h none not_made no_classes =
    let empty : length t.entries ≡ 0 = omega (arith, none, ap length h.targets_are, h.listed.count) in
    record {
      list_is = λ made. absurd (true≢false (sym made ∙ not_made));
      classes_are = λ c some. absurd (none-some c (sym no_classes ∙ some));
      made = λ e is. let at = h.listed.all e is in absurd (omega (arith, at.1, empty));
    }

-- the same table with other accepting states
abbrev pub with_accepting : Table → (ℕ → Bool) → Table
with_accepting t accepting = record { signature = t.signature; columns = t.columns; presences = t.presences; target = t.target; accepting = accepting }

classes_accepting : (t : Table) (accepting : ℕ → Bool) (c : ClassList) → IsClassListOf t c → IsClassListOf (with_accepting t accepting) c
classes_accepting t accepting c is = record {
  base_is = is.base_is;
  few = is.few;
  starts_all = is.starts_all;
  blocks_all = is.blocks_all;
  ranks_are = is.ranks_are;
  few_views = is.few_views;
  views_are = is.views_are;
  classes_all = is.classes_all;
  counts_are = is.counts_are;
  classed = is.classed;
  presence_is = is.presence_is;
  targets_are = is.targets_are;
}

flat_accepting : (t : Table) (accepting : ℕ → Bool) (flat : FlatTargets) → IsFlatOf t flat → IsFlatOf (with_accepting t accepting) flat
flat_accepting t accepting flat is = record {
  base_is = is.base_is;
  starts_all = is.starts_all;
  few = is.few;
  spots = is.spots;
  entries = is.entries;
}

-- Result: it has the same list of targets
pub list_accepting : (t : Table) (accepting : ℕ → Bool) (l : TargetList) → IsTargetListOf t l → IsTargetListOf (with_accepting t accepting) l
list_accepting t accepting l is = record {
  list_is = λ made. flat_accepting t accepting l.list (is.list_is made);
  classes_are = λ c some. classes_accepting t accepting c (is.classes_are c some);
  made = is.made;
}

-- a table's list is that of any operand of the table
pub table_operand : {A : Type 0} (t : Table) (places : List ℕ) (list : Option A) (now : A → TargetList) → IfSome list (λ l. IsTargetListOf t (now l)) → IfSome list (λ l. IsOperandList (OfTable t places) (now l))
table_operand t places None now h = tt
table_operand t places (Some l) now h = h.list_is

-- an operand's list, where it is made
pub operand_list : {A : Type 0} (o : Operand) (l : TargetList) (r : Option A) (now : A → FlatTargets) → IfSome r (λ x. IsTrue l.is_made × (now x ≡ l.list)) → IsOperandList o l
    → IfSome r (λ x. IsListOf o (now x))
operand_list (OfTable t places) l None now h is = tt
operand_list (OfTable t places) l (Some x) now h is = subst (IsFlatOf t) (sym h.1) (is h.0)
operand_list (OfTruth b) l None now h is = tt
operand_list (OfTruth b) l (Some x) now h is = absurd (true≢false (sym h.0 ∙ is))
