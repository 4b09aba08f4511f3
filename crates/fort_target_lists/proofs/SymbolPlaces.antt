-- Tuple symbols in order: each one's place is its number, and the entries of the first ones.
use Rattle.std.proofs.Common.{◌≡◌, ℕ, zero, suc, ◌+◌, ◌*◌, ◌/◌, ◌%◌, ◌^◌, ◌<◌, List, [], ◌∷◌, ◌++◌, map, take, drop, length, get_or, Option, None, Some, refl, ap, sym, ◌∙◌, arith, append_assoc}
use Rattle.std.proofs.Math.Nat.{pow-succ', pow-zero, mod-lt}
use Rattle.std.proofs.lemmas.Nat.{mod-mul-add, div-add-mod'}
use Rattle.std.proofs.lemmas.List.{append-nil, length-map, take_more, take-append-drop, take_all}
use Rattle.std.specs.List.{flat_map}
use Rattle.std.proofs.lemmas.Grind.{flat_map-append}
use Rattle.fort_theory.specs.Signatures.{Signature}
use Rattle.fort_tables.specs.Tuples.{TupleSymbol, AreSymbols}
use Rattle.fort_tables.specs.Entries.{Entry}
use Rattle.fort_tables.specs.Tables.{Listed}
use Rattle.fort_tuple_symbols.specs.Columns.{digit_of}
use Rattle.fort_tuple_symbols.proofs.DigitNumberLaws.{pow_some}
use Rattle.fort_tuple_symbols.proofs.SymbolNumberLaws.{digit_again, length-columns_at}
use Rattle.fort_tables.specs.Laid as laid
use Rattle.fort_tables.proofs.JoinedLists.{get_or-joined}
use Rattle.fort_tables.proofs.SymbolLists.{length-joined_alike, length-symbol_list}
use Rattle.fort_tuple_symbols.specs.SymbolNumbers.{columns_at}
use Rattle.fort_target_lists.specs.Places.{number_of}
use Rattle.fort_target_lists.specs.Walks.{entries_of, entries_before}
use Rattle.fort_target_lists.proofs.SymbolNumbers.{below_digits, digit_below, later_symbols, number_below, symbols_at}

map_at : {A B : Type 0} (f : A → B) (xs : List A) (i : ℕ) (d : A) (e : B) → i < length xs → get_or (map f xs) i e ≡ f (get_or xs i d)
map_at f [] i d e l = absurd (omega arith)
map_at f (x ∷ xs) zero d e l = refl
map_at f (x ∷ xs) (suc i) d e l = map_at f xs i d e (omega arith)

column_again : (x : Option ℕ) → laid.column_of (digit_of x) ≡ x
column_again None = refl
column_again (Some g) = refl

-- Result: a tuple symbol's place is its number
pub symbol_at_number : (sig : Signature) (f : TupleSymbol) → AreSymbols sig f → get_or (laid.symbol_list (length sig) (length f)) (number_of (suc (length sig)) f) [] ≡ f
symbol_at_number sig [] h = refl
symbol_at_number sig (x ∷ f) h =
    let n = length sig in
    let base = suc n in
    let p = base ^ length f in
    let d = digit_of x in
    let m = number_of base f in
    let fs = laid.symbol_list n (length f) in
    let g : ℕ → List TupleSymbol = λ k. map (λ s. laid.column_of k ∷ s) fs in
    let later = later_symbols sig x f h in
    let long : length fs ≡ p = length-symbol_list n (length f) in
    let low : m < length fs = omega (arith, long, number_below sig base f refl later) in
    let front : length (laid.joined_below d g) ≡ d * p = length-joined_alike d p g (λ k. length-map fs (λ s. laid.column_of k ∷ s) ∙ long) in
    let at : d * p + m ≡ length (laid.joined_below d g) + m = ap (λ z. z + m) (sym front) in
    let within : m < length (g d) = omega (arith, low, length-map fs (λ s. laid.column_of d ∷ s)) in
    ap (λ z. get_or (laid.joined_below base g) z []) at
    ∙ (get_or-joined base g d m [] (digit_below sig base x f refl h) within
    ∙ (map_at (λ s. laid.column_of d ∷ s) fs m [] [] low
    ∙ (λ i. column_again x i ∷ symbol_at_number sig f later i)))

-- the number of the columns that a number has
whole_digits : (q b d p r m : ℕ) → m ≡ q * p + r → q ≡ d * b + q % b → m ≡ d * (b * p) + ((q % b) * p + r)
whole_digits q b d p r m e h = let s = ap (λ z. z * p) h in omega (arith, e, s)

number_again : (base c m : ℕ) → 0 < base → number_of base (columns_at base c m) ≡ m % base ^ c
number_again base zero m l =
    let e : m % base ^ 0 ≡ m % 1 = ap (λ z. m % z) (pow-zero base) in
    omega (arith, e, mod-lt m {m = 1} (omega arith))
number_again base (suc c) m l =
    let p = base ^ c in
    let q = m / p in
    let r = (q % base) * p + m % p in
    let low : r < base * p = below_digits (q % base) base (m % p) p (mod-lt q {m = base} l) (mod-lt m {m = p} (pow_some base c l)) in
    let whole : m ≡ q / base * (base * p) + r = whole_digits q base (q / base) p (m % p) m (sym (div-add-mod' m p)) (sym (div-add-mod' q base)) in
    let same : m % base ^ suc c ≡ r = ap (λ z. m % z) (pow-succ' base c) ∙ (ap (λ z. z % (base * p)) whole ∙ mod-mul-add (q / base) (base * p) r low) in
    let first = ap (λ z. z * base ^ length (columns_at base c m)) (digit_again (q % base)) in
    let width = ap (λ z. (q % base) * base ^ z) (length-columns_at base c m) in
    omega (arith, same, first, width, number_again base c m l)

-- Result: at a number's place stand its columns
pub symbol_at_place : (sig : Signature) (c m : ℕ) → m < suc (length sig) ^ c → get_or (laid.symbol_list (length sig) c) m [] ≡ columns_at (suc (length sig)) c m
symbol_at_place sig c m l =
    let n = length sig in
    let f = columns_at (suc n) c m in
    let z : m ≡ 0 * suc n ^ c + m = omega arith in
    let same : number_of (suc n) f ≡ m = number_again (suc n) c m (omega arith) ∙ (ap (λ k. k % suc n ^ c) z ∙ mod-mul-add 0 (suc n ^ c) m l) in
    ap (λ k. get_or (laid.symbol_list n c) k []) (sym same)
    ∙ (ap (λ w. get_or (laid.symbol_list n w) (number_of (suc n) f) []) (sym (length-columns_at (suc n) c m))
    ∙ symbol_at_number sig f (symbols_at sig (suc n) c m refl))

-- one more tuple symbol's entries
pub entries_more : (t : Listed) (m : ℕ) → m < suc (length t.signature) ^ t.columns
    → entries_before t (m + 1) ≡ entries_before t m ++ laid.entries_under t.signature t.presences (columns_at (suc (length t.signature)) t.columns m)
entries_more t m l =
    let fs = laid.symbol_list (length t.signature) t.columns in
    let under = laid.entries_under t.signature t.presences in
    let low : m < length fs = omega (arith, l, length-symbol_list (length t.signature) t.columns) in
    ap (flat_map under) (take_more fs m [] low)
    ∙ (flat_map-append under (take m fs) (get_or fs m [] ∷ [])
    ∙ ap (λ es. flat_map under (take m fs) ++ es) (append-nil (under (get_or fs m [])) ∙ ap under (symbol_at_place t.signature t.columns m l)))

-- those of the tuple symbols behind a number
abbrev pub entries_behind : Listed → ℕ → List Entry
entries_behind t m = flat_map (laid.entries_under t.signature t.presences) (drop (m + 1) (laid.symbol_list (length t.signature) t.columns))

pub entries_split : (t : Listed) (m : ℕ) → m < suc (length t.signature) ^ t.columns
    → entries_of t ≡ entries_before t m ++ (laid.entries_under t.signature t.presences (columns_at (suc (length t.signature)) t.columns m) ++ entries_behind t m)
entries_split t m l =
    let fs = laid.symbol_list (length t.signature) t.columns in
    let under = laid.entries_under t.signature t.presences in
    ap (flat_map under) (sym (take-append-drop (m + 1) fs))
    ∙ (flat_map-append under (take (m + 1) fs) (drop (m + 1) fs)
    ∙ (ap (λ es. es ++ entries_behind t m) (entries_more t m l)
    ∙ append_assoc (entries_before t m) (under (columns_at (suc (length t.signature)) t.columns m)) (entries_behind t m)))

-- all of them
pub entries_all : (t : Listed) (m : ℕ) → m ≡ suc (length t.signature) ^ t.columns → entries_before t m ≡ entries_of t
entries_all t m e =
    let fs = laid.symbol_list (length t.signature) t.columns in
    let all : m ≡ length fs = e ∙ sym (length-symbol_list (length t.signature) t.columns) in
    ap (flat_map (laid.entries_under t.signature t.presences)) (take_all m fs (omega (arith, all)))
