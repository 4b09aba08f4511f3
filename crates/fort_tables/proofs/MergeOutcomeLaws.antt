-- Right classes of all states and whole entries are a merge; and a merge step that fails is none.
use Rattle.std.proofs.Common.{◌≡◌, ℕ, ◌<◌, List, length, get_or, refl, subst}
use Rattle.fort_tables.specs.Entries.{Entry}
use Rattle.fort_tables.specs.Tables.{Table}
use Rattle.fort_tables.specs.Merges.{IsMerge}
use Rattle.fort_tables.specs.MergeOutcomes.{MergeOutcome, Merges, IsClassAt, AreClassesTo, IsWholeAt, AreEntriesOf, IsMergeOutcome, IsRight, NotAsMany, NotOfClass, NotWhole}

-- Result
pub IsMerge-tested : (table : Table) (classes : List ℕ) (entries : List Entry) → AreEntriesOf table entries → AreClassesTo table classes (length classes)
    → ((k : ℕ) (d : Entry) → k < length entries → IsWholeAt table classes (get_or entries k d)) → IsMerge table classes
IsMerge-tested table classes entries are h whole = record {
  count = h.count;
  numbered = λ q l. (h.right q l).numbered;
  columns = λ q l. (h.right q l).columns;
  acceptance = λ q l. (h.right q l).acceptance;
  whole = λ e at. let c = are.all e at in subst (IsWholeAt table classes) c.2 (whole c.0 e c.1);
}

class_at : (table : Table) (classes : List ℕ) (q : ℕ) → IsMerge table classes → q < length classes → IsClassAt table classes q
class_at table classes q m l = record { numbered = m.numbered q l; columns = m.columns q l; acceptance = m.acceptance q l }

-- Result: what comes of a merge is that it is one
pub merge_outcome : (table : Table) (classes : List ℕ) {o : MergeOutcome} → IsMerge table classes → IsMergeOutcome table classes o → o ≡ Merges
merge_outcome table classes m (IsRight n) = refl
merge_outcome table classes m (NotAsMany n) = absurd (n m.count)
merge_outcome table classes m (NotOfClass q h l n) = absurd (n (class_at table classes q m l))
merge_outcome table classes m (NotWhole entries i d are h l before n) = absurd (n (m.whole (get_or entries i d) (are.order.are i d l)))
