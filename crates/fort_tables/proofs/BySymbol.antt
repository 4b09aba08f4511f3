-- All entries tuple symbol by tuple symbol: what is in the list is an entry, each entry is in it, and it is in order within a stage.
use Rattle.std.proofs.Common.{◌≡◌, ℕ, ◌+◌, List, [], length, ap, sym, ◌∙◌, arith, subst, inl, ⊎_elim}
use Rattle.std.specs.Prelude.{Contains, ◌↔◌}
use Rattle.std.specs.List.{AllPairs}
use Rattle.std.proofs.lemmas.Bool.{cases_eq}
use Rattle.fort_theory.specs.Signatures.{Signature}
use Rattle.fort_theory.proofs.Members.{Contains-none}
use Rattle.fort_tables.specs.Tuples.{TupleSymbol, IsPresent, presence, AreSymbols, symbol_kids, kid_presence}
use Rattle.fort_tables.specs.Entries.{Entry, IsEntry, ColumnBefore, LexBefore, StageBefore}
use Rattle.fort_tables.specs.Laid.{entries_from, entries_under, symbol_list, by_symbol}
use Rattle.fort_tables.proofs.OrderedLists.{AllPairs-none}
use Rattle.fort_tables.proofs.JoinedLists.{flat_map_has, flat_map_from, flat_map_in_order}
use Rattle.fort_tables.proofs.SymbolLists.{symbols_in_order, symbol_width, symbols_are, symbol_there}
use Rattle.fort_tables.proofs.KidLists.{IsFrom, kids_from_index, kids_within, kids_presence, from_members, from_has, from_in_order, under_absent, under_present, present_from_presence}

-- the entries of one tuple symbol
pub under_from : (sig : Signature) (ps : List ℕ) (f : TupleSymbol) (e : Entry) → Contains (entries_under sig ps f) e
    → IsPresent f × IsFrom sig ps f [] 0 (symbol_kids sig f) e
under_from sig ps f e c =
    ⊎_elim
    (λ z. absurd (Contains-none e (subst (λ es. Contains es e) (under_absent sig ps f z) c)))
    (λ z. let p = present_from_presence f z in (p, from_members sig ps f [] 0 (symbol_kids sig f) e (subst (λ es. Contains es e) (under_present sig ps f p) c)))
    (cases_eq (presence f) 0)

pub under_symbol : (sig : Signature) (ps : List ℕ) (f : TupleSymbol) (e : Entry) → Contains (entries_under sig ps f) e → f ≡ e.symbol
under_symbol sig ps f e c = ap (λ (x : Entry). x.symbol) (under_from sig ps f e c).1.is

pub under_are : (sig : Signature) (c : ℕ) (ps : List ℕ) (f : TupleSymbol) (e : Entry) → length f ≡ c → AreSymbols sig f
    → Contains (entries_under sig ps f) e → IsEntry sig c ps e
under_are sig c ps f e w s h =
    let r = under_from sig ps f e h in
    let i = r.1 in
    subst (IsEntry sig c ps) i.is
    (record {
      symbol = record { width = w; present = r.0; symbols = s };
      count = i.count;
      within = kids_within ps (kid_presence sig f) 0 i.later i.are;
      presence = λ j l. kids_presence ps (kid_presence sig f) 0 i.later i.are j l ∙ ap (kid_presence sig f) (let z : 0 + j ≡ j = omega arith in z);
    })

pub under_has : (sig : Signature) (c : ℕ) (ps : List ℕ) (e : Entry) → IsEntry sig c ps e → Contains (entries_under sig ps e.symbol) e
under_has sig c ps e h =
    let f = e.symbol in
    let w = kid_presence sig f in
    let kids = kids_from_index ps w 0 e.kids h.within (λ i l. let z : i ≡ 0 + i = omega arith in h.presence i l ∙ ap w z) in
    subst (λ es. Contains es e) (sym (under_present sig ps f h.symbol.present))
    (subst (λ n. Contains (entries_from sig ps f [] 0 n) e) h.count (from_has sig ps f [] 0 e.kids kids))

under_in_order : (sig : Signature) (ps : List ℕ) (f : TupleSymbol) → AllPairs StageBefore (entries_under sig ps f)
under_in_order sig ps f =
    ⊎_elim
    (λ z. subst (AllPairs StageBefore) (sym (under_absent sig ps f z)) (AllPairs-none StageBefore))
    (λ z. subst (AllPairs StageBefore) (sym (under_present sig ps f (present_from_presence f z))) (from_in_order sig ps f [] 0 (symbol_kids sig f)))
    (cases_eq (presence f) 0)

-- all of them
pub by_symbol_are : (sig : Signature) (c : ℕ) (ps : List ℕ) (e : Entry) → Contains (by_symbol sig c ps) e → IsEntry sig c ps e
by_symbol_are sig c ps e h =
    let r = flat_map_from (entries_under sig ps) (symbol_list (length sig) c) e h in
    under_are sig c ps r.0 e (symbol_width (length sig) c r.0 r.1) (symbols_are sig c r.0 r.1) r.2

pub by_symbol_has : (sig : Signature) (c : ℕ) (ps : List ℕ) (e : Entry) → IsEntry sig c ps e → Contains (by_symbol sig c ps) e
by_symbol_has sig c ps e h =
    flat_map_has (entries_under sig ps) (symbol_list (length sig) c) e.symbol e
    (symbol_there sig c e.symbol h.symbol.width h.symbol.symbols)
    (under_has sig c ps e h)

-- Result: the members are the entries
pub by_symbol_members : (sig : Signature) (c : ℕ) (ps : List ℕ) (e : Entry) → Contains (by_symbol sig c ps) e ↔ IsEntry sig c ps e
by_symbol_members sig c ps e = (by_symbol_are sig c ps e, by_symbol_has sig c ps e)

pub by_symbol_in_order : (sig : Signature) (c : ℕ) (ps : List ℕ) → AllPairs StageBefore (by_symbol sig c ps)
by_symbol_in_order sig c ps =
    flat_map_in_order (LexBefore ColumnBefore) StageBefore (entries_under sig ps) (symbol_list (length sig) c) (symbols_in_order (length sig) c)
    (λ f m. under_in_order sig ps f)
    (λ f g a b l c d.
    inl (subst (λ x. LexBefore ColumnBefore x b.symbol) (under_symbol sig ps f a c) (subst (LexBefore ColumnBefore f) (under_symbol sig ps g b d) l)))
