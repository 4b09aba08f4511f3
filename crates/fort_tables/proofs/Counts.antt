-- How many entries there are: as many stage by stage, and no fewer than tuple symbols with a present column.
use Rattle.std.proofs.Common.{◌≡◌, ℕ, zero, suc, ◌+◌, ◌*◌, ◌^◌, ◌<◌, ◌≤◌, List, [], ◌∷◌, ◌++◌, map, length, Bool, ◌==◌, if◌then◌else◌, None, Some, refl, ap, sym, ◌∙◌, arith, ⊎_elim, length-append, eq-eqb}
use Rattle.std.specs.Prelude.{Contains}
use Rattle.std.specs.List.{flat_map}
use Rattle.std.proofs.lemmas.Bool.{cases_lt, cases_eq}
use Rattle.fort_theory.specs.Signatures.{Signature}
use Rattle.fort_theory.proofs.Members.{Contains-head, Contains-behind}
use Rattle.fort_tables.specs.Tuples.{TupleSymbol, IsPresent, presence, IsTupleSymbol}
use Rattle.fort_tables.specs.Entries.{Entry, stage}
use Rattle.fort_tables.specs.Tables.{Listed, listed_table, IsListed}
use Rattle.fort_tables.proofs.EqualTests.{test_from_apart}
use Rattle.fort_tables.specs.Laid.{joined_below, column_of, symbol_list, entries_under, by_symbol, in_stage, all_entries}
use Rattle.fort_tables.proofs.KidLists.{present_from_presence}
use Rattle.fort_tables.proofs.SymbolLists.{length-symbol_list, symbol_width, symbols_are}
use Rattle.fort_tables.proofs.BySymbol.{by_symbol_are}
use Rattle.fort_tables.proofs.KidTuples.{listed_term, under_some}
use Rattle.fort_tables.proofs.AllEntries.{entry_stage, entries_unique}

-- stages
stage_skips : (s : ℕ) (e : Entry) (es : List Entry) → (stage e.kids ≡ s → ⊥) → in_stage s (e ∷ es) ≡ in_stage s es
stage_skips s e es h = rw (test_from_apart (stage e.kids) s h) refl

stage_keeps : (s : ℕ) (e : Entry) (es : List Entry) → stage e.kids ≡ s → in_stage s (e ∷ es) ≡ e ∷ in_stage s es
stage_keeps s e es h = rw (eq-eqb (stage e.kids) s h) refl

-- the stages below one, one behind the other
abbrev staged : ℕ → List Entry → List Entry
staged n es = joined_below n (λ s. in_stage s es)

staged_past : (n : ℕ) (e : Entry) (es : List Entry) → n ≤ stage e.kids → length (staged n (e ∷ es)) ≡ length (staged n es)
staged_past zero e es l = refl
staged_past (suc n) e es l =
    omega (
      arith,
      length-append (staged n (e ∷ es)) (in_stage n (e ∷ es)),
      length-append (staged n es) (in_stage n es),
      staged_past n e es (omega arith),
      ap length (stage_skips n e es (λ s. omega arith)),
    )

staged_more : (n : ℕ) (e : Entry) (es : List Entry) → stage e.kids < n → length (staged n (e ∷ es)) ≡ suc (length (staged n es))
staged_more zero e es l = absurd (omega arith)
staged_more (suc n) e es l =
    let a = length-append (staged n (e ∷ es)) (in_stage n (e ∷ es)) in
    let b = length-append (staged n es) (in_stage n es) in
    ⊎_elim
    (λ (o : stage e.kids < n). omega (arith, a, b, staged_more n e es o, ap length (stage_skips n e es (λ s. omega arith))))
    (λ (o : n ≤ stage e.kids). omega (arith, a, b, staged_past n e es o, ap length (stage_keeps n e es (omega arith))))
    (cases_lt (stage e.kids) n)

staged_none : (n : ℕ) → length (staged n []) ≡ 0
staged_none zero = refl
staged_none (suc n) = omega (arith, length-append (staged n []) [], staged_none n)

pub length-staged : (n : ℕ) (es : List Entry) → ((e : Entry) → Contains es e → stage e.kids < n) → length (staged n es) ≡ length es
length-staged n [] h = staged_none n
length-staged n (e ∷ es) h = staged_more n e es (h e (Contains-head e es)) ∙ ap suc (length-staged n es (λ x c. h x (Contains-behind e es x c)))

-- Result: there are as many stage by stage as tuple symbol by tuple symbol
pub length-all_entries : (sig : Signature) (c : ℕ) (ps : List ℕ) → length (all_entries sig c ps) ≡ length (by_symbol sig c ps)
length-all_entries sig c ps = length-staged (suc (length ps)) (by_symbol sig c ps) (λ e m. entry_stage sig c ps e (by_symbol_are sig c ps e m))

abbrev one_if : Bool → ℕ
one_if b = if b then 1 else 0

-- how many of these tuple symbols have no present column
abbrev absent_in : List TupleSymbol → ℕ
absent_in [] = 0
absent_in (f ∷ fs) = one_if (presence f == 0) + absent_in fs

absent_in-append : (fs gs : List TupleSymbol) → absent_in (fs ++ gs) ≡ absent_in fs + absent_in gs
absent_in-append [] gs = omega arith
absent_in-append (f ∷ fs) gs = omega (arith, absent_in-append fs gs)

double_test : (n : ℕ) → (2 * n == 0) ≡ (n == 0)
double_test n =
    ⊎_elim
    (λ e. eq-eqb (2 * n) 0 (omega arith) ∙ sym (eq-eqb n 0 e))
    (λ e. test_from_apart (2 * n) 0 (λ s. e (omega arith)) ∙ sym (test_from_apart n 0 e))
    (cases_eq n 0)

absent_in-absent : (fs : List TupleSymbol) → absent_in (map (λ f. None ∷ f) fs) ≡ absent_in fs
absent_in-absent [] = refl
absent_in-absent (f ∷ fs) = omega (arith, ap one_if (double_test (presence f)), absent_in-absent fs)

absent_in-present : (g : ℕ) (fs : List TupleSymbol) → absent_in (map (λ f. Some g ∷ f) fs) ≡ 0
absent_in-present g [] = refl
absent_in-present g (f ∷ fs) = omega (arith, ap one_if (test_from_apart (1 + 2 * presence f) 0 (λ e. omega arith)), absent_in-present g fs)

absent_in-begun : (fs : List TupleSymbol) (m : ℕ) → absent_in (joined_below (suc m) (λ d. map (λ f. column_of d ∷ f) fs)) ≡ absent_in fs
absent_in-begun fs zero = absent_in-absent fs
absent_in-begun fs (suc m) =
    let g : ℕ → List TupleSymbol = λ d. map (λ f. column_of d ∷ f) fs in
    omega (arith, absent_in-append (joined_below (suc m) g) (g (suc m)), absent_in-begun fs m, absent_in-present m fs)

absent_one : (n c : ℕ) → absent_in (symbol_list n c) ≡ 1
absent_one n zero = refl
absent_one n (suc c) = absent_in-begun (symbol_list n c) n ∙ absent_one n c

-- where each one with a present column has something in its list, all of them are at most one more than what the lists have
lists_many : {B : Type 0} (g : TupleSymbol → List B) (fs : List TupleSymbol) → ((f : TupleSymbol) → Contains fs f → IsPresent f → 0 < length (g f))
    → length fs ≤ absent_in fs + length (flat_map g fs)
lists_many g [] h = omega arith
lists_many g (f ∷ fs) h =
    let rest = lists_many g fs (λ x c. h x (Contains-behind f fs x c)) in
    let long = length-append (g f) (flat_map g fs) in
    ⊎_elim
    (λ e. omega (arith, rest, long, ap one_if (eq-eqb (presence f) 0 e)))
    (λ e. omega (arith, rest, long, ap one_if (test_from_apart (presence f) 0 e), h f (Contains-head f fs) (present_from_presence f e)))
    (cases_eq (presence f) 0)

-- Result: in a listed table with an entry, each tuple symbol but the all-absent one has an entry, so there are at most one more than entries
pub symbols_few : (t : Listed) → IsListed t → 0 < length t.entries → suc (length t.signature) ^ t.columns ≤ suc (length t.entries)
symbols_few t h l =
    let sig = t.signature in
    let c = t.columns in
    let n = length sig in
    let term = listed_term t h l in
    let symbol : (f : TupleSymbol) → Contains (symbol_list n c) f → IsPresent f → IsTupleSymbol sig c f =
    λ f m p. record { width = symbol_width n c f m; present = p; symbols = symbols_are sig c f m } in
    let many = lists_many (entries_under sig t.presences) (symbol_list n c) (λ f m p. under_some (listed_table t) f term h.table (symbol f m p)) in
    let same = ap length (entries_unique sig c t.presences t.entries h.order h.all) in
    omega (arith, many, absent_one n c, length-symbol_list n c, length-all_entries sig c t.presences, same)
