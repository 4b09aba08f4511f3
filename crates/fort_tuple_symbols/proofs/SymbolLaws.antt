-- The digits of columns, filled in one after another.
use Rattle.std.proofs.Common.{◌≡◌, ℕ, suc, ◌+◌, ◌-◌, ◌<◌, ◌≤◌, List, [], ◌∷◌, ◌++◌, map, length, take, set, replicate, get_or, Option, None, Some, refl, ap, sym, ◌∙◌, arith}
use Rattle.std.proofs.lemmas.List.{length-map, length-take-le, set_at, map_more, take_all, take_at, append_assoc}
use Rattle.fort_terms.specs.declared.sym.Sym.{Sym}
use Rattle.fort_tuple_symbols.specs.Columns.{as_column, as_symbol, symbol_of, digit_of}

abbrev pub digit_at : Option Sym → ℕ
digit_at c = digit_of (as_column c)

pub filled_more : (cs : List (Option Sym)) (ds : List ℕ) (i v : ℕ) (c : Option Sym) → i < length cs → length cs ≤ 16 → ds ≡ map digit_at (take i cs) ++ replicate (16 - i) 0 → v ≡ digit_at (get_or cs i c) → set ds i v ≡ map digit_at (take (i + 1) cs) ++ replicate (16 - (i + 1)) 0
filled_more cs ds i v c l few is value =
    let xs : List ℕ = map digit_at (take i cs) in
    let rest : List ℕ = replicate (16 - (i + 1)) 0 in
    let count : length xs ≡ i = length-map (take i cs) digit_at ∙ length-take-le i cs (omega arith) in
    let one : 16 - i ≡ suc (16 - (i + 1)) = omega arith in
    ap (λ es. set es i v) (is ∙ ap (λ n. xs ++ replicate n 0) one)
    ∙ (set_at xs 0 rest v i count
    ∙ (ap (λ x. xs ++ x ∷ rest) value
    ∙ (sym (append_assoc xs (digit_at (get_or cs i c) ∷ []) rest)
    ∙ ap (λ es. es ++ rest) (sym (map_more digit_at cs i c l)))))

pub filled_all : (cs : List (Option Sym)) (ds : List ℕ) (i : ℕ) → i ≡ length cs → ds ≡ map digit_at (take i cs) ++ replicate (16 - i) 0 → ds ≡ map digit_at cs ++ replicate (16 - length cs) 0
filled_all cs ds i e is =
    is ∙ (ap (λ n. map digit_at (take n cs) ++ replicate (16 - n) 0) e
    ∙ ap (λ es. map digit_at es ++ replicate (16 - length cs) 0) (take_all (length cs) cs (omega arith)))

columns_again : (cs : List (Option Sym)) → symbol_of (map digit_at cs) ≡ as_symbol cs
columns_again [] = refl
columns_again (None ∷ cs) = ap (λ f. None ∷ f) (columns_again cs)
columns_again (Some f ∷ cs) = ap (λ g. Some f.0 ∷ g) (columns_again cs)

pub symbol_filled : (cs : List (Option Sym)) → symbol_of (take (length cs) (map digit_at cs ++ replicate (16 - length cs) 0)) ≡ as_symbol cs
symbol_filled cs = ap symbol_of (take_at (map digit_at cs) (replicate (16 - length cs) 0) (length cs) (length-map cs digit_at)) ∙ columns_again cs
