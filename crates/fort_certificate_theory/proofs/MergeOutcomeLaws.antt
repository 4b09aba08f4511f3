-- What comes of a merge is one outcome: the entries of a table in order are one list, and each outcome but the first fault is ruled out by another one.
use Rattle.std.proofs.Common.{◌≡◌, ℕ, ◌<◌, List, length, get_or, refl, ap, sym, ◌∙◌, arith, subst, ⊎_elim}
use Rattle.std.specs.Prelude.{Contains}
use Rattle.std.proofs.lemmas.Bool.{cases_lt}
use Rattle.std.proofs.lemmas.List.{get_or_default}
use Rattle.fort_tables.specs.Entries.{Entry, no_entry, ComesBefore}
use Rattle.fort_tables.specs.Tables.{Table, IsTableEntry}
use Rattle.fort_tables.proofs.OrderLaws.{before_irrefl, before_trans}
use Rattle.fort_tables.specs.MergeOutcomes.{MergeOutcome, WrongClass, IsSplitAt, AreClassesTo, IsClassAt, IsWholeAt, AreEntriesOf, IsMergeOutcome, IsRight, NotAsMany, NotOfClass, NotWhole}
use Rattle.fort_tables.proofs.MergeOutcomeLaws.{merge_outcome}
use Rattle.fort_alike.proofs.OneInOrder.{ordered_same}

entry_in : (table : Table) (es : List Entry) (x : Entry) → AreEntriesOf table es → Contains es x → IsTableEntry table x
entry_in table es x h c = subst (IsTableEntry table) c.2 (h.order.are c.0 x c.1)

-- Result: a table's entries are one list
pub entries_one : (table : Table) (es fs : List Entry) → AreEntriesOf table es → AreEntriesOf table fs → es ≡ fs
entries_one table es fs h k =
    let d = no_entry table.columns in
    ordered_same ComesBefore d (λ x y l m. before_irrefl x (before_trans x y x l m)) es fs (λ i j l m. h.order.order i j d l m) (λ i j l m. k.order.order i j d l m)
    (λ x. ((λ c. k.all x (entry_in table es x h c)), (λ c. h.all x (entry_in table fs x k c))))

-- the first wrong class is one
class_one : (table : Table) (classes : List ℕ) (p q : ℕ) → AreClassesTo table classes p → AreClassesTo table classes q → (IsClassAt table classes p → ⊥) → (IsClassAt table classes q → ⊥) → p ≡ q
class_one table classes p q h k m n =
    ⊎_elim (λ (l : p < q). absurd (m (k.right p l)))
    (λ l. ⊎_elim (λ (b : q < p). absurd (n (h.right q b))) (λ b. omega arith) (cases_lt q p))
    (cases_lt p q)

-- an entry that isn't whole comes before none that follows whole ones
no_earlier : (table : Table) (classes : List ℕ) (es fs : List Entry) (i j : ℕ) (d x : Entry) → es ≡ fs → i < length es → ((k : ℕ) → k < j → IsWholeAt table classes (get_or fs k x))
    → (IsWholeAt table classes (get_or es i d) → ⊥) → i < j → ⊥
no_earlier table classes es fs i j d x e l whole n m =
    n (subst (IsWholeAt table classes) (sym (get_or_default es i d x l ∙ ap (λ (zs : List Entry). get_or zs i x) e)) (whole i m))

-- Result: of two outcomes each is the other
pub merge_outcome_one : (table : Table) (classes : List ℕ) (a b : MergeOutcome) → IsMergeOutcome table classes a → IsMergeOutcome table classes b → a ≡ b
merge_outcome_one table classes a b (IsRight m) k = sym (merge_outcome table classes m k)
merge_outcome_one table classes a b h (IsRight m) = merge_outcome table classes m h
merge_outcome_one table classes a b (NotAsMany n) (NotAsMany m) = refl
merge_outcome_one table classes a b (NotAsMany n) (NotOfClass q h l m) = absurd (n h.count)
merge_outcome_one table classes a b (NotAsMany n) (NotWhole es i d are h l whole m) = absurd (n h.count)
merge_outcome_one table classes a b (NotOfClass q h l m) (NotAsMany n) = absurd (n h.count)
merge_outcome_one table classes a b (NotOfClass p h l m) (NotOfClass q k j n) = ap WrongClass (class_one table classes p q h k m n)
merge_outcome_one table classes a b (NotOfClass q h l m) (NotWhole es i d are k j whole n) = absurd (m (k.right q l))
merge_outcome_one table classes a b (NotWhole es i d are h l whole m) (NotAsMany n) = absurd (n h.count)
merge_outcome_one table classes a b (NotWhole es i d are h l whole m) (NotOfClass q k j n) = absurd (n (h.right q j))
merge_outcome_one table classes a b (NotWhole es i d are h l whole m) (NotWhole fs j x also k b' all n) =
    let e = entries_one table es fs are also in
    ap IsSplitAt (⊎_elim (λ (c : i < j). absurd (no_earlier table classes es fs i j d x e l all m c))
    (λ c. ⊎_elim (λ (o : j < i). absurd (no_earlier table classes fs es j i x d (sym e) b' whole n o)) (λ o. omega arith) (cases_lt j i))
    (cases_lt i j))
