-- The columns of a tuple symbol, read one by one: those at some places and their number, which are present, how many children they have.
use Rattle.std.proofs.Common.{◌≡◌, ℕ, zero, suc, ◌+◌, ◌*◌, ◌<◌, ◌≤◌, max, nat_lt, Bool, IfSome, if◌then◌else◌, List, [], ◌∷◌, take, drop, length, get_or, slice_get, set, get_or-set_same, get_or-set_other, Option, None, Some, true, false, refl, ap, sym, ◌∙◌, arith, ⊎_elim}
use Rattle.std.proofs.lemmas.List.{ext_get_or, length-map, get_or-map, length-take-le, get_or-take}
use Rattle.std.proofs.lemmas.Bool.{cases_lt}
use Rattle.std.proofs.lemmas.List.Elements.{All-get_or}
use Rattle.std.proofs.lemmas.Option.{get_or_from_slice_get}
use Rattle.std.specs.Option.{is_some}
use Rattle.fort_theory.specs.Signatures.{Symbol, Signature, IsSignature, symbol}
use Rattle.fort_tables.specs.Tuples.{TupleSymbol, AreSymbols, symbol_kids, kid_presence, arity}
use Rattle.fort_terms.specs.declared.sym.Sym.{Sym}
use Rattle.fort_tuple_symbols.specs.Columns.{as_column, as_symbol, digit_of}
use Rattle.fort_tables.specs.Selections.{selected, is_present}
use Rattle.fort_target_lists.specs.Places.{number_of}
use Rattle.fort_target_lists.proofs.SymbolNumbers.{number_of-take}

-- one column, then those behind it
pub present_here : (f : TupleSymbol) (k : ℕ) (x : Option Sym) → slice_get f k ≡ Some (as_column x) → is_some x ≡ true → is_present (drop k f) ≡ true
present_here [] k x h s = absurd cc
present_here (y ∷ f) zero None h s = absurd cc
present_here (None ∷ f) zero (Some z) h s = absurd cc
present_here (Some g ∷ f) zero (Some z) h s = refl
present_here (y ∷ f) (suc k) x h s = present_here f k x h s

pub present_behind : (f : TupleSymbol) (k : ℕ) (x : Option Sym) → slice_get f k ≡ Some (as_column x) → is_some x ≡ false → is_present (drop k f) ≡ is_present (drop (suc k) f)
present_behind [] k x h s = absurd cc
present_behind (y ∷ f) zero (Some z) h s = absurd cc
present_behind (Some g ∷ f) zero None h s = absurd cc
present_behind (None ∷ f) zero None h s = refl
present_behind (y ∷ f) (suc k) x h s = present_behind f k x h s

-- columns read one by one
pub columns_read : (f : TupleSymbol) (n : ℕ) (all : List (Option Sym)) → length f ≡ n → n ≤ length all → ((k : ℕ) → k < n → as_column (get_or all k None) ≡ get_or f k None) → as_symbol (take n all) ≡ f
columns_read f n all e l h =
    let a = length-take-le n all l in
    let b = length-map (take n all) as_column in
    ext_get_or None (as_symbol (take n all)) f (omega (arith, a, b))
    (λ k m. let less : k < n = omega (arith, a, b) in
    get_or-map as_column (take n all) k None None (omega (arith, a, b)) ∙ (ap as_column (get_or-take n all k None less) ∙ h k less))

-- a symbol that is there
pub symbol_within : (sig : Signature) (f : TupleSymbol) (k g : ℕ) → AreSymbols sig f → slice_get f k ≡ Some (Some g) → g < length sig
symbol_within sig [] k g h e = absurd cc
symbol_within sig (None ∷ f) zero g h e = absurd cc
symbol_within sig (Some x ∷ f) zero g h e = let r : x ≡ g = cc in omega (arith, h.0, r)
symbol_within sig (None ∷ f) (suc k) g h e = symbol_within sig f k g h e
symbol_within sig (Some x ∷ f) (suc k) g h e = symbol_within sig f k g h.1 e

pub kids_some : (sig : Signature) (f : TupleSymbol) (k g : ℕ) → slice_get f k ≡ Some (Some g) → symbol_kids sig (take (suc k) f) ≡ max (symbol_kids sig (take k f)) (arity sig g)
kids_some sig [] k g e = absurd cc
kids_some sig (None ∷ f) zero g e = absurd cc
kids_some sig (Some x ∷ f) zero g e = let r : x ≡ g = cc in omega (arith, ap (arity sig) r)
kids_some sig (None ∷ f) (suc k) g e = kids_some sig f k g e
kids_some sig (Some x ∷ f) (suc k) g e = omega (arith, kids_some sig f k g e)

pub kids_none : (sig : Signature) (f : TupleSymbol) (k : ℕ) → slice_get f k ≡ Some None → symbol_kids sig (take (suc k) f) ≡ symbol_kids sig (take k f)
kids_none sig [] k e = absurd cc
kids_none sig (None ∷ f) zero e = refl
kids_none sig (Some x ∷ f) zero e = absurd cc
kids_none sig (None ∷ f) (suc k) e = kids_none sig f k e
kids_none sig (Some x ∷ f) (suc k) e = omega (arith, kids_none sig f k e)

-- an arity of a lawful signature
pub kids_next : (sig : Signature) (f : TupleSymbol) (k : ℕ) → symbol_kids sig (take (k + 1) f) ≡ symbol_kids sig (take (suc k) f)
kids_next sig f k = let e : k + 1 ≡ suc k = omega arith in ap (λ n. symbol_kids sig (take n f)) e

-- one more column read
pub selected_more : (f : TupleSymbol) (places : List ℕ) (columns : List (Option Sym)) (at : ℕ) (x : Option Sym) → at < length places → at < length columns → slice_get f (get_or places at 0) ≡ Some (as_column x)
    → ((k : ℕ) → k < at → as_column (get_or columns k None) ≡ get_or (selected places f) k None) → (k : ℕ) → k < at + 1 → as_column (get_or (set columns at x) k None) ≡ get_or (selected places f) k None
selected_more f places columns at x l m e h k n =
    let here : as_column x ≡ get_or (selected places f) at None = sym (get_or-map (λ p. get_or f p None) places at 0 None l ∙ get_or_from_slice_get f (get_or places at 0) (as_column x) None e) in
    ⊎_elim
    (λ (o : k < at). let ne : k ≡ at → ⊥ = λ s. omega arith in ap as_column (get_or-set_other columns at k x None ne) ∙ h k o)
    (λ (o : at ≤ k). let s : k ≡ at = omega arith in
    ap (λ i. as_column (get_or (set columns at x) i None)) s ∙ (ap as_column (get_or-set_same columns at x None m) ∙ (here ∙ ap (λ i. get_or (selected places f) i None) (sym s))))
    (cases_lt k at)

-- the presence of a child, column by column
pub kid_presence_at : (sig : Signature) (f : TupleSymbol) (i j : ℕ) → i < length f → kid_presence sig (drop i f) j ≡ kid_presence sig (get_or f i None ∷ []) j + 2 * kid_presence sig (drop (suc i) f) j
kid_presence_at sig [] i j l = absurd (omega arith)
kid_presence_at sig (None ∷ f) zero j l = omega arith
kid_presence_at sig (Some g ∷ f) zero j l = omega arith
kid_presence_at sig (x ∷ f) (suc i) j l = kid_presence_at sig f i j (omega arith)

one_at_most : (b : Bool) → (if b then 1 else 0) ≤ 1
one_at_most true = omega arith
one_at_most false = omega arith

pub kid_presence_one : (sig : Signature) (x : Option ℕ) (j : ℕ) → kid_presence sig (x ∷ []) j ≤ 1
kid_presence_one sig None j = omega arith
kid_presence_one sig (Some g) j = omega (arith, one_at_most (nat_lt j (arity sig g)))

-- a column that was read is a symbol of the signature
pub column_within : (sig : Signature) (f : TupleSymbol) (k : ℕ) (x : Option Sym) → AreSymbols sig f → slice_get f k ≡ Some (as_column x) → IfSome x (λ (g : Sym). g.0 < length sig)
column_within sig f k None h e = tt
column_within sig f k (Some g) h e = symbol_within sig f k g.0 h e

-- a symbol has at most eight arguments
pub arity_small : (sig : Signature) (g : ℕ) → IsSignature sig → g < length sig → arity sig g ≤ 8
arity_small sig g is l =
    let d : Symbol = symbol [] 0 in
    omega (arith, get_or-map (λ (s : Symbol). s.arity) sig g d 0 l, All-get_or (λ (s : Symbol). s.arity ≤ 8) sig g d l is.small)

-- one of the columns
pub selected_is : (f : TupleSymbol) (places : List ℕ) (k : ℕ) (x : Option ℕ) → k < length places → slice_get f (get_or places k 0) ≡ Some x → get_or (selected places f) k None ≡ x
selected_is f places k x l e = get_or-map (λ p. get_or f p None) places k 0 None l ∙ get_or_from_slice_get f (get_or places k 0) x None e

-- one more column behind
pub number_turn : (base : ℕ) (f : TupleSymbol) (places : List ℕ) (k number : ℕ) (x : Option ℕ) → k < length places → slice_get f (get_or places k 0) ≡ Some x → number ≡ number_of base (take k (selected places f))
    → number * base + digit_of x ≡ number_of base (take (k + 1) (selected places f))
number_turn base f places k number x l s h =
    let g = selected places f in
    let long : k < length g = omega (arith, l, length-map places (λ p. get_or f p None)) in
    omega (arith, number_of-take base g k long, ap (λ n. n * base) h, ap digit_of (selected_is f places k x l s))
