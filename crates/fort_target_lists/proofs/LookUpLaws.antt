-- The numbers of tuple symbols with one more column are within the flat form, and an entry's states have ranks there.
use Rattle.std.proofs.Common.{◌≡◌, ℕ, suc, ◌+◌, ◌-◌, ◌*◌, ◌^◌, ◌<◌, ◌||◌, List, length, get_or, Bool, true, false, Option, None, Some, IsTrue, refl, ap, sym, ◌∙◌, arith, subst}
use Rattle.std.proofs.lemmas.Bool.{false≢true}
use Rattle.std.specs.Prelude.{is_some}
use Rattle.std.specs.List.{insert}
use Rattle.fort_tables.specs.Tuples.{TupleSymbol, IsTupleSymbol}
use Rattle.fort_tables.specs.Entries.{Entry, entry}
use Rattle.fort_tables.specs.Tables.{Table, IsTableEntry}
use Rattle.fort_tables.proofs.InsertSymbolLaws.{IsTupleSymbol-insert_some, IsTupleSymbol-insert_none}
use Rattle.fort_target_lists.specs.Places.{number_of, place_from, AreStatesIn}
use Rattle.fort_target_lists.specs.Flats.{base_of, flat_place, IsFlatOf}
use Rattle.fort_target_lists.specs.TargetLists.{IsTargetListOf, read_in, target_read}
use Rattle.fort_target_lists.specs.LookUps.{FindsUnder}
use Rattle.fort_target_lists.specs.declared.look_up.LookUp.{LookUp}
use Rattle.fort_target_lists.specs.declared.class_list.ClassList.{ClassList}
use Rattle.fort_target_lists.specs.declared.target_list.TargetList.{TargetList}
use Rattle.fort_target_lists.specs.declared.flat.FlatTargets.{FlatTargets}
use Rattle.fort_target_lists.proofs.SymbolNumbers.{number_below, number_of-insert}

-- the number of a tuple symbol
pub symbol_below : (body : Table) (flat : FlatTargets) (f : TupleSymbol) → IsFlatOf body flat → IsTupleSymbol body.signature body.columns f → number_of flat.base f < flat.base ^ body.columns
symbol_below body flat f h s = omega (arith, number_below body.signature flat.base f h.base_is s.symbols, ap (λ n. flat.base ^ n) s.width)

-- by the table's own base
pub table_symbol_below : (body : Table) (f : TupleSymbol) → IsTupleSymbol body.signature body.columns f → number_of (base_of body) f < base_of body ^ body.columns
table_symbol_below body f s = omega (arith, number_below body.signature (base_of body) f refl s.symbols, ap (λ n. base_of body ^ n) s.width)

-- tuple symbols with one more column
pub absent_symbol : (body : Table) (f : TupleSymbol) (c : ℕ) → c < body.columns → IsTupleSymbol body.signature (body.columns - 1) f → IsTupleSymbol body.signature body.columns (insert f c None)
absent_symbol body f c l s =
    let w : suc (body.columns - 1) ≡ body.columns = omega (arith, l) in
    subst (λ (n : ℕ). IsTupleSymbol body.signature n (insert f c None)) w (IsTupleSymbol-insert_none body.signature (body.columns - 1) f c (omega (arith, l)) s)

pub under_symbol : (body : Table) (f : TupleSymbol) (c g : ℕ) → c < body.columns → g < length body.signature → IsTupleSymbol body.signature (body.columns - 1) f → IsTupleSymbol body.signature body.columns (insert f c (Some g))
under_symbol body f c g l b s =
    let w : suc (body.columns - 1) ≡ body.columns = omega (arith, l) in
    subst (λ (n : ℕ). IsTupleSymbol body.signature n (insert f c (Some g))) w (IsTupleSymbol-insert_some body.signature (body.columns - 1) f c g (omega (arith, l)) b s)

pub under_is : (body : Table) (f : TupleSymbol) (c g : ℕ) → c < body.columns → IsTupleSymbol body.signature (body.columns - 1) f
    → number_of (base_of body) (insert f c (Some g)) ≡ number_of (base_of body) (insert f c None) + suc g * base_of body ^ (body.columns - 1 - c)
under_is body f c g l s =
    number_of-insert (base_of body) f c g (omega (arith, l, s.width)) ∙ ap (λ n. number_of (base_of body) (insert f c None) + suc g * base_of body ^ (n - c)) s.width

-- where the table has an entry, one of both forms is there
forms : {P : Type 0} (m : Bool) (o : Option ClassList) → IsTrue (m || is_some o) → (IsTrue m → P) → ((c : ClassList) → o ≡ Some c → P) → P
forms true o h dense classes = dense refl
forms false (Some c) h dense classes = classes c refl
forms false None h dense classes = absurd (false≢true h)

-- Result: tuple symbols have numbers that a word holds
pub few_symbols : (body : Table) (l : TargetList) (e : Entry) → IsTargetListOf body l → IsTableEntry body e → base_of body ^ body.columns < 2 ^ 64
few_symbols body l e is h = forms l.is_made l.by_classes (is.made e h)
    (λ m. let flat = is.list_is m in omega (arith, flat.few, ap (λ b. b ^ body.columns) flat.base_is))
    (λ c at. let list = is.classes_are c at in omega (arith, list.few, ap (λ b. b ^ body.columns) list.base_is))

-- Result: without classes the list is made
pub made_without : (body : Table) (l : TargetList) (e : Entry) → IsTargetListOf body l → IsTableEntry body e → l.by_classes ≡ None → IsTrue l.is_made
made_without body l e is h none = by l.is_made (subst (λ (o : Option ClassList). IsTrue (l.is_made || is_some o)) none (is.made e h))
  where
    by : (m : Bool) → IsTrue (m || false) → IsTrue m
    by true t = t
    by false t = t

-- an entry's states have ranks
pub states_in : (table : Table) (list : FlatTargets) (e : Entry) → IsFlatOf table list → IsTableEntry table e → AreStatesIn list.spots e.kids
states_in table list e h is = λ i l. (omega (arith, is.within i l, h.spots.ranks_are.size), omega (arith, is.within i l, h.spots.alike_are.size))

-- the starts of a list that is made
pub dense_starts : (body : Table) (l : TargetList) → IsTargetListOf body l → IsTrue l.is_made → length l.list.listing.starts.items ≡ base_of body ^ body.columns
dense_starts body l is made = let flat = is.list_is made in flat.starts_all ∙ ap (λ b. b ^ body.columns) flat.base_is

-- a look-up of an entry in such a list
pub record IsFoundIn (body : Table) (e : Entry) (l : LookUp) : Type 0 where
  pub states : AreStatesIn l.list.now.list.spots e.kids
  pub within : l.start + place_from l.list.now.list.spots.ranks.items l.list.now.list.spots.alike.items 0 e.kids < length l.list.now.list.listing.targets.items
  pub is : get_or l.list.now.list.listing.targets.items (l.start + place_from l.list.now.list.spots.ranks.items l.list.now.list.spots.alike.items 0 e.kids) 0 ≡ body.target e

-- Result: without classes each entry is found so
pub dense_look_up : (body : Table) (f : TupleSymbol) (ks : List ℕ) (l : LookUp) → FindsUnder body f l → IsTableEntry body (entry f ks) → l.list.now.by_classes ≡ None → IsFoundIn body (entry f ks) l
dense_look_up body f ks l finds whole none =
    let e = entry f ks in
    let made = made_without body l.list.now e finds.list whole none in
    let flat = l.list.now.list in
    let is = finds.list.list_is made in
    let at = is.entries e whole in
    let number : l.number ≡ number_of flat.base f = finds.number ∙ ap (λ b. number_of b f) (sym is.base_is) in
    let start : l.start ≡ get_or flat.listing.starts.items (number_of flat.base f) 0 = finds.start made ∙ ap (λ n. get_or flat.listing.starts.items n 0) number in
    let place : l.start + place_from flat.spots.ranks.items flat.spots.alike.items 0 ks ≡ flat_place flat e = ap (λ n. n + place_from flat.spots.ranks.items flat.spots.alike.items 0 ks) start in
    record {
      states = states_in body flat e is whole;
      within = omega (arith, at.within, place);
      is = ap (λ p. get_or flat.listing.targets.items p 0) place ∙ at.is;
    }

-- Result: what the list has for an entry is its target
pub target_read_is : (body : Table) (l : TargetList) (e : Entry) → IsTargetListOf body l → IsTableEntry body e → target_read l e ≡ body.target e
target_read_is body l e is h = by l.by_classes refl
  where
    by : (o : Option ClassList) → l.by_classes ≡ o → read_in o l.list e ≡ body.target e
    by None none = ((is.list_is (made_without body l e is h none)).entries e h).is
    by (Some c) some = (is.classes_are c some).targets_are e h
