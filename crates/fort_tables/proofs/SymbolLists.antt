-- The list of tuple symbols: its members, its order, its length, and that all of them but one have a present column.
use Rattle.std.proofs.Common.{◌≡◌, ℕ, zero, suc, ◌*◌, ◌^◌, ◌<◌, List, [], ◌∷◌, map, length, None, Some, refl, ap, sym, ◌∙◌, arith, subst, inl, inr, ⊎_elim, length-append}
use Rattle.std.specs.Prelude.{Contains}
use Rattle.std.specs.List.{AllPairs}
use Rattle.std.proofs.Math.Nat.{pow-succ', pow-zero}
use Rattle.std.proofs.lemmas.List.{length-map}
use Rattle.fort_theory.specs.Signatures.{Signature}
use Rattle.fort_theory.proofs.Lists.{Contains-map, Contains-map_from}
use Rattle.fort_theory.proofs.Members.{Contains-head, Contains-none, Contains-cons_cases}
use Rattle.fort_tables.specs.Tuples.{TupleSymbol, AreSymbols}
use Rattle.fort_tables.specs.Entries.{ColumnBefore, LexBefore}
use Rattle.fort_tables.specs.Laid.{joined_below, column_of, symbol_list}
use Rattle.fort_tables.proofs.OrderedLists.{AllPairs-map, AllPairs-one}
use Rattle.fort_tables.proofs.JoinedLists.{joined_has, joined_from, joined_in_order}

column_rises : (d e : ℕ) → d < e → ColumnBefore (column_of d) (column_of e)
column_rises zero zero l = absurd (omega arith)
column_rises zero (suc e) l = tt
column_rises (suc d) zero l = absurd (omega arith)
column_rises (suc d) (suc e) l = omega arith

-- the tuple symbols that begin with one column
abbrev begun : ℕ → ℕ → ℕ → List TupleSymbol
begun n c d = map (λ f. column_of d ∷ f) (symbol_list n c)

pub symbols_in_order : (n c : ℕ) → AllPairs (LexBefore ColumnBefore) (symbol_list n c)
symbols_in_order n zero = AllPairs-one (LexBefore ColumnBefore) []
symbols_in_order n (suc c) =
    joined_in_order (LexBefore ColumnBefore) (suc n) (begun n c)
    (λ d l.
    AllPairs-map (LexBefore ColumnBefore) (LexBefore ColumnBefore) (λ f. column_of d ∷ f) (λ x y b. inr (refl, b)) (symbol_list n c) (symbols_in_order n c))
    (λ d e x y l m u v.
    let a = Contains-map_from (λ f. column_of d ∷ f) (symbol_list n c) x u in
    let b = Contains-map_from (λ f. column_of e ∷ f) (symbol_list n c) y v in
    subst (λ (z : TupleSymbol). LexBefore ColumnBefore z y) a.2
    (subst (λ (z : TupleSymbol). LexBefore ColumnBefore (column_of d ∷ a.0) z) b.2 (inl (column_rises d e l))))

-- members
pub symbol_width : (n c : ℕ) (f : TupleSymbol) → Contains (symbol_list n c) f → length f ≡ c
symbol_width n zero f h = ⊎_elim (λ e. ap length (sym e)) (λ m. absurd (Contains-none f m)) (Contains-cons_cases [] [] f h)
symbol_width n (suc c) f h =
    let r = joined_from (suc n) (begun n c) f h in
    let s = Contains-map_from (λ g. column_of r.0 ∷ g) (symbol_list n c) f r.2 in
    ap length (sym s.2) ∙ ap suc (symbol_width n c s.0 s.1)

symbols_more : (sig : Signature) (d : ℕ) (f : TupleSymbol) → d < suc (length sig) → AreSymbols sig f → AreSymbols sig (column_of d ∷ f)
symbols_more sig zero f l h = h
symbols_more sig (suc g) f l h = (omega arith, h)

pub symbols_are : (sig : Signature) (c : ℕ) (f : TupleSymbol) → Contains (symbol_list (length sig) c) f → AreSymbols sig f
symbols_are sig zero f h = ⊎_elim (λ e. subst (AreSymbols sig) e tt) (λ m. absurd (Contains-none f m)) (Contains-cons_cases [] [] f h)
symbols_are sig (suc c) f h =
    let r = joined_from (suc (length sig)) (begun (length sig) c) f h in
    let s = Contains-map_from (λ g. column_of r.0 ∷ g) (symbol_list (length sig) c) f r.2 in
    subst (AreSymbols sig) s.2 (symbols_more sig r.0 s.0 r.1 (symbols_are sig c s.0 s.1))

pub symbol_there : (sig : Signature) (c : ℕ) (f : TupleSymbol) → length f ≡ c → AreSymbols sig f → Contains (symbol_list (length sig) c) f
symbol_there sig zero [] w h = Contains-head [] []
symbol_there sig zero (x ∷ f) w h = absurd (omega arith)
symbol_there sig (suc c) [] w h = absurd (omega arith)
symbol_there sig (suc c) (None ∷ f) w h =
    joined_has (suc (length sig)) (begun (length sig) c) 0 (None ∷ f) (omega arith)
    (Contains-map (λ g. column_of 0 ∷ g) (symbol_list (length sig) c) f (symbol_there sig c f (omega arith) h))
symbol_there sig (suc c) (Some y ∷ f) w h =
    joined_has (suc (length sig)) (begun (length sig) c) (suc y) (Some y ∷ f) (omega (arith, h.0))
    (Contains-map (λ g. column_of (suc y) ∷ g) (symbol_list (length sig) c) f (symbol_there sig c f (omega arith) h.1))

-- how many there are
pub length-joined_alike : {A : Type 0} (n m : ℕ) (g : ℕ → List A) → ((k : ℕ) → length (g k) ≡ m) → length (joined_below n g) ≡ n * m
length-joined_alike zero m g h = omega arith
length-joined_alike (suc n) m g h = omega (arith, length-append (joined_below n g) (g n), length-joined_alike n m g h, h n)

pub length-symbol_list : (n c : ℕ) → length (symbol_list n c) ≡ suc n ^ c
length-symbol_list n zero = sym (pow-zero (suc n))
length-symbol_list n (suc c) =
    length-joined_alike (suc n) (suc n ^ c) (begun n c) (λ d. length-map (symbol_list n c) (λ f. column_of d ∷ f) ∙ length-symbol_list n c)
    ∙ sym (pow-succ' (suc n) c)
