use Rattle.std.proofs.Common.{◌≡◌, ℕ, ◌+◌, ◌<◌, ◌≤◌, List, map, take, length, get_or, Option, ap, ◌∙◌, arith}
use Rattle.std.specs.List.{insert}
use Rattle.std.proofs.lemmas.List.{ext_get_or, length-map, length-take-le, get_or-take}
use Rattle.std.proofs.lemmas.List.Edits.{length-insert}
use Rattle.indexmap.proofs.SetLemmas.{map-insert}
use Rattle.fort_tuple_symbols.specs.Columns.{as_column, column_of, symbol_of, digit_of}
use Rattle.fort_tuple_symbols.proofs.Bounds.{symbol_again}
use Rattle.fort_tuple_symbols.proofs.SymbolNumberLaws.{column_again}
use Rattle.fort_tuple_symbols.proofs.symbol.TupleSym.with_column.Goals as goal

-- digits read one by one
digits_read : (ds all : List ℕ) (n : ℕ) → length ds ≡ n → n ≤ length all → ((k : ℕ) → k < n → get_or all k 0 ≡ get_or ds k 0) → take n all ≡ ds
digits_read ds all n e l h =
    let a = length-take-le n all l in
    ext_get_or 0 (take n all) ds (omega (arith, a, e))
    (λ k m. let less : k < n = omega (arith, a) in get_or-take n all k 0 less ∙ h k less)

-- one more column by its digit
symbol_with : (ds : List ℕ) (f : List (Option ℕ)) (i : ℕ) (c : Option ℕ) → ds ≡ map digit_of f → symbol_of (insert ds i (digit_of c)) ≡ insert f i c
symbol_with ds f i c is =
    map-insert column_of ds i (digit_of c)
    ∙ (ap (λ (xs : List (Option ℕ)). insert xs i (column_of (digit_of c))) (ap symbol_of is ∙ symbol_again f)
    ∙ ap (λ (x : Option ℕ). insert f i x) (column_again c))

pub returns : goal.returns
returns c =
    let inv = c.loop-k.invariant in
    let own = c.digits-own.result.now in
    let d : ℕ = digit_of (as_column c.args.sym) in
    let fits : c.args.place ≤ length own = omega (arith, c.requires.within, ap length c.digits-own.ensures.digits, length-map c.args.self.now digit_of) in
    let l = length-insert own c.args.place d fits in
    c.from_digits.ensures
    ∙ (ap symbol_of (digits_read (insert own c.args.place d) c.loop-k.digits (length own + 1) (omega (arith, l)) (omega (arith, inv.size, c.requires.room, ap length c.digits-own.ensures.digits, length-map c.args.self.now digit_of))
    (λ k m. inv.digits k (omega (arith, c.loop-k-test.false))))
    ∙ symbol_with own c.args.self.now c.args.place (as_column c.args.sym) c.digits-own.ensures.digits)
