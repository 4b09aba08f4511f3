-- A walk over all entries, tuple symbol by tuple symbol: the stop at which one begins, and one more passed.
use Rattle.std.proofs.Common.{◌≡◌, ℕ, suc, ◌+◌, ◌^◌, ◌<◌, List, [], ◌∷◌, ◌++◌, map, length, true, false, IsTrue, refl, ap, sym, ◌∙◌, arith, subst}
use Rattle.std.proofs.lemmas.List.{append-nil, map-append}
use Rattle.fort_tables.specs.Tuples.{TupleSymbol, IsTupleSymbol, symbol_kids}
use Rattle.fort_tables.specs.Tables.{Listed, listed_table}
use Rattle.fort_tables.specs.Selections.{is_present}
use Rattle.fort_tables.specs.Laid.{entries_from, entries_under}
use Rattle.fort_tables.proofs.KidLists.{under_absent, under_present}
use Rattle.fort_tuple_symbols.specs.SymbolNumbers.{columns_at}
use Rattle.fort_target_lists.specs.Flats.{laid}
use Rattle.fort_target_lists.specs.Walks.{entries_before, IsWalkOf, AreBegins, HasPassed, Stop, IsStopOf, IsBetween}
use Rattle.fort_target_lists.specs.declared.walk.LayingWalk.{LayingWalk}
use Rattle.fort_target_lists.proofs.LaidTargets.{laid_targets, absent_presence}
use Rattle.fort_target_lists.proofs.ListingLaws.{tuple_symbol_at, laid_none, laid_one}
use Rattle.fort_target_lists.proofs.SymbolPlaces.{entries_more, entries_behind, entries_split}

-- the tuple symbol with a number
abbrev pub symbol_with : Listed → LayingWalk → ℕ → TupleSymbol
symbol_with t walk n = columns_at walk.base t.columns n

symbol_base : (t : Listed) (walk : LayingWalk) (n : ℕ) → IsWalkOf t walk → symbol_with t walk n ≡ columns_at (suc (length t.signature)) t.columns n
symbol_base t walk n goes = ap (λ b. columns_at b t.columns n) goes.base

low_base : (t : Listed) (walk : LayingWalk) (n : ℕ) → IsWalkOf t walk → n < walk.base ^ walk.columns → n < suc (length t.signature) ^ t.columns
low_base t walk n goes l = omega (arith, l, ap (λ b. b ^ walk.columns) goes.base, ap (λ c. suc (length t.signature) ^ c) goes.columns_are)

-- the stop before its entries
abbrev pub first_stop : Listed → List ℕ → ℕ → Stop
first_stop t begins n = record { table = t; begins = begins; passed = entries_before t n; kids = []; left = entries_behind t n }

pub first_stop_of : (t : Listed) (begins : List ℕ) (walk : LayingWalk) (n : ℕ) → IsWalkOf t walk → AreBegins t walk.lays begins → n < walk.base ^ walk.columns
    → is_present (symbol_with t walk n) ≡ true → (f : TupleSymbol) → f ≡ symbol_with t walk n → (count : ℕ) → count ≡ symbol_kids t.signature f → IsStopOf (first_stop t begins n) walk f 0 0 count
first_stop_of t begins walk n goes begin l present f is count e =
    let own = columns_at (suc (length t.signature)) t.columns n in
    let same : f ≡ own = is ∙ symbol_base t walk n goes in
    let there : IsTupleSymbol t.signature t.columns f = tuple_symbol_at (listed_table t) walk.base n f goes.base is (ap is_present is ∙ present) in
    let split = entries_split t n (low_base t walk n goes l) in
    let under : entries_under t.signature t.presences own ≡ entries_from t.signature t.presences f [] 0 count =
    ap (entries_under t.signature t.presences) (sym same) ∙ (under_present t.signature t.presences f there.present ∙ ap (entries_from t.signature t.presences f [] 0) (sym e)) in
    record {
      goes = goes;
      begin = begin;
      symbol = there;
      stage_is = refl;
      whole = split ∙ ap (λ es. entries_before t n ++ (es ++ entries_behind t n)) under;
    }

pub stop_first : (t : Listed) (begins : List ℕ) (walk : LayingWalk) (n : ℕ) (cursors starts targets : List ℕ) → IsBetween t begins walk n cursors starts targets → n < walk.base ^ walk.columns
    → is_present (symbol_with t walk n) ≡ true → (f : TupleSymbol) → f ≡ symbol_with t walk n → (count : ℕ) → count ≡ symbol_kids t.signature f → IsStopOf (first_stop t begins n) walk f 0 0 count
stop_first t begins walk n cursors starts targets h = first_stop_of t begins walk n h.goes h.begin

-- without a present column it has no entries
pub before_absent : (t : Listed) (walk : LayingWalk) (n : ℕ) → IsWalkOf t walk → n < walk.base ^ walk.columns → is_present (symbol_with t walk n) ≡ false → entries_before t (n + 1) ≡ entries_before t n
before_absent t walk n goes l absent =
    let own = columns_at (suc (length t.signature)) t.columns n in
    let no_entry = absent_presence own (ap is_present (sym (symbol_base t walk n goes)) ∙ absent) in
    entries_more t n (low_base t walk n goes l)
    ∙ (ap (λ es. entries_before t n ++ es) (under_absent t.signature t.presences own no_entry) ∙ append-nil (entries_before t n))

pub between_absent : (t : Listed) (begins : List ℕ) (walk : LayingWalk) (n : ℕ) (cursors starts targets new : List ℕ) → IsBetween t begins walk n cursors starts targets → n < walk.base ^ walk.columns
    → is_present (symbol_with t walk n) ≡ false → (IsTrue walk.lays → new ≡ starts ++ length targets ∷ []) → IsBetween t begins walk (n + 1) cursors new targets
between_absent t begins walk n cursors starts targets new h l absent grown = record {
  goes = h.goes;
  begin = h.begin;
  passed = subst (λ es. HasPassed t walk.lays begins es cursors targets) (sym (before_absent t walk n h.goes l absent)) h.passed;
  laid_are = λ b. laid_none (listed_table t) walk.base n (symbol_with t walk n) starts targets new h.goes.base refl (h.laid_are b) absent (grown b);
}

-- with one it has those over its children
pub before_present : (t : Listed) (walk : LayingWalk) (n : ℕ) → IsWalkOf t walk → n < walk.base ^ walk.columns → is_present (symbol_with t walk n) ≡ true
    → (f : TupleSymbol) → f ≡ symbol_with t walk n → (count : ℕ) → count ≡ symbol_kids t.signature f
    → entries_before t n ++ entries_from t.signature t.presences f [] 0 count ≡ entries_before t (n + 1)
before_present t walk n goes l present f is count e =
    let own = columns_at (suc (length t.signature)) t.columns n in
    let same : f ≡ own = is ∙ symbol_base t walk n goes in
    let there : IsTupleSymbol t.signature t.columns f = tuple_symbol_at (listed_table t) walk.base n f goes.base is (ap is_present is ∙ present) in
    let under : entries_from t.signature t.presences f [] 0 count ≡ entries_under t.signature t.presences own =
    ap (entries_from t.signature t.presences f [] 0) e ∙ (sym (under_present t.signature t.presences f there.present) ∙ ap (entries_under t.signature t.presences) same) in
    ap (λ es. entries_before t n ++ es) under ∙ sym (entries_more t n (low_base t walk n goes l))

pub between_present : (t : Listed) (begins : List ℕ) (walk : LayingWalk) (n : ℕ) (cursors starts targets new_cursors new new_targets : List ℕ) → IsBetween t begins walk n cursors starts targets
    → n < walk.base ^ walk.columns → is_present (symbol_with t walk n) ≡ true → (f : TupleSymbol) → f ≡ symbol_with t walk n → (count : ℕ) → count ≡ symbol_kids t.signature f
    → (IsTrue walk.lays → new ≡ starts ++ length targets ∷ [])
    → HasPassed t walk.lays begins (entries_before t n ++ entries_from t.signature t.presences f [] 0 count) new_cursors new_targets
    → IsBetween t begins walk (n + 1) new_cursors new new_targets
between_present t begins walk n cursors starts targets new_cursors new new_targets h l present f is count e grown made =
    let body = listed_table t in
    let entries = entries_from t.signature t.presences f [] 0 count in
    let all = before_present t walk n h.goes l present f is count e in
    record {
      goes = h.goes;
      begin = h.begin;
      passed = subst (λ es. HasPassed t walk.lays begins es new_cursors new_targets) all made;
      laid_are = λ b.
          laid_one body walk.base n f starts targets new new_targets h.goes.base is (ap is_present is ∙ present) (h.laid_are b) (grown b)
          (made.laid_are b
          ∙ (map-append body.target (entries_before t n) entries
          ∙ (ap (λ qs. qs ++ map body.target entries) (sym (h.passed.laid_are b))
          ∙ ap (λ qs. targets ++ qs) (sym (laid_targets body f [] 0 count) ∙ ap (laid body f [] 0) e))));
    }
