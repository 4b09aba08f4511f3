-- A node that passes the tests is an entry over the nodes before it, and one that fails them is none.
use Rattle.std.specs.Prelude.{◌≡◌, ℕ, zero, suc, ◌+◌, ◌<◌, ◌≤◌, List, [], ◌∷◌, ◌++◌, map, take, length, get_or, Option, None, Some, IfSome, refl}
use Rattle.std.proofs.Common.{sym, ap, ◌∙◌, subst, arith, true, false, true≢false}
use Rattle.std.proofs.lemmas.List.{length-map, length-take-le, ext_get_or, get_or-take, get_or-map, map_more, take-map}
use Rattle.fort_theory.specs.Signatures.{most_columns, Signature, IsSignature}
use Rattle.fort_tables.specs.Tuples.{TupleSymbol, IsPresent, AreSymbols, symbol_kids}
use Rattle.fort_tables.specs.Entries.{Entry, IsEntry, AreNodes, node_presences}
use Rattle.fort_tables.specs.Selections.{is_present}
use Rattle.fort_tables.proofs.SelectionLaws.{present_from_test, test_from_present}
use Rattle.fort_tuple_symbols.specs.Columns.{digit_of, symbol_of}
use Rattle.fort_target_lists.proofs.ColumnLaws.{arity_small}
use Rattle.fort_steps.specs.OpenView.{as_node}
use Rattle.fort_steps.specs.declared.open_certificate.Node.{Node}
use Rattle.fort_open_checker.specs.NodeTests.{IsSmallSymbol, HasKidsOver, IsRowOver}

-- symbols of a signature, column by column
abbrev pub IsColumnOf : Signature → Option ℕ → Type 0
IsColumnOf sig column = IfSome column (λ g. g < length sig)

pub symbols_all : (sig : Signature) (f : TupleSymbol) → ((i : ℕ) → i < length f → IsColumnOf sig (get_or f i None)) → AreSymbols sig f
symbols_all sig [] h = tt
symbols_all sig (None ∷ f) h = symbols_all sig f (λ i l. h (suc i) (omega arith))
symbols_all sig (Some g ∷ f) h = (h 0 (omega arith), symbols_all sig f (λ i l. h (suc i) (omega arith)))

pub symbols_at : (sig : Signature) (f : TupleSymbol) (i : ℕ) → AreSymbols sig f → IsColumnOf sig (get_or f i None)
symbols_at sig [] i h = tt
symbols_at sig (None ∷ f) zero h = tt
symbols_at sig (Some g ∷ f) zero h = h.0
symbols_at sig (None ∷ f) (suc i) h = symbols_at sig f i h
symbols_at sig (Some g ∷ f) (suc i) h = symbols_at sig f i h.1

-- they are so few that each has a digit
pub small_symbol : (sig : Signature) → length sig ≤ 255 → (column : Option ℕ) → IsColumnOf sig column → IsSmallSymbol column
small_symbol sig few None h = tt
small_symbol sig few (Some g) h = omega (arith, few, h)

-- a column by its digit
column_again : (f : TupleSymbol) → symbol_of (map digit_of f) ≡ f
column_again [] = refl
column_again (None ∷ f) = ap (λ g. None ∷ g) (column_again f)
column_again (Some x ∷ f) = ap (λ g. Some x ∷ g) (column_again f)

pub symbol_read : (f : TupleSymbol) (digits : List ℕ) → length f ≤ length digits → ((i : ℕ) → i < length f → get_or digits i 0 ≡ digit_of (get_or f i None)) → symbol_of (take (length f) digits) ≡ f
symbol_read f digits l h =
    let len : length (take (length f) digits) ≡ length f = length-take-le (length f) digits l in
    let same : take (length f) digits ≡ map digit_of f =
    ext_get_or 0 (take (length f) digits) (map digit_of f) (len ∙ sym (length-map f digit_of))
    (λ i m. let b : i < length f = omega arith in get_or-take (length f) digits i 0 b ∙ (h i b ∙ sym (get_or-map digit_of f i None 0 b))) in
    ap symbol_of same ∙ column_again f

-- ---- what the tests tell

module _ (sig : Signature) (columns : ℕ) (presences : List ℕ) (e : Entry) (syms symbol : TupleSymbol) (kids : List ℕ) (syms_are : syms ≡ e.symbol) (kids_are : kids ≡ e.kids) (symbol_is : symbol ≡ syms) where
  own_symbol : symbol ≡ e.symbol
  own_symbol = symbol_is ∙ syms_are

  -- Result
  pub entry_there : length syms ≡ columns → AreSymbols sig syms → is_present symbol ≡ true → HasKidsOver sig presences symbol kids → IsEntry sig columns presences e
  entry_there width symbols there over =
      let k : HasKidsOver sig presences e.symbol e.kids = subst (λ (f : TupleSymbol). HasKidsOver sig presences f e.kids) own_symbol (subst (HasKidsOver sig presences symbol) kids_are over) in
      record {
        symbol = record {
          width = ap length (sym syms_are) ∙ width;
          present = subst IsPresent own_symbol (present_from_test symbol there);
          symbols = subst (AreSymbols sig) syms_are symbols;
        };
        count = k.count;
        within = λ j l. (k.each j l).0;
        presence = λ j l. (k.each j l).1;
      }

  -- Result
  pub absent_there : is_present symbol ≡ false → IsEntry sig columns presences e → ⊥
  absent_there none h = true≢false (sym (test_from_present symbol (subst IsPresent (sym own_symbol) h.symbol.present)) ∙ none)

  -- Result
  pub kids_there : IsEntry sig columns presences e → HasKidsOver sig presences symbol kids
  kids_there h =
      subst (λ (f : TupleSymbol). HasKidsOver sig presences f kids) (sym own_symbol)
      (subst (HasKidsOver sig presences e.symbol) (sym kids_are) record { count = h.count; each = λ j l. (h.within j l, h.presence j l) })

-- ---- nodes as rows

pub few_kids : (sig : Signature) (f : TupleSymbol) → IsSignature sig → AreSymbols sig f → symbol_kids sig f ≤ 8
few_kids sig [] is h = omega arith
few_kids sig (None ∷ f) is h = few_kids sig f is h
few_kids sig (Some g ∷ f) is h = omega (arith, arity_small sig g is h.0, few_kids sig f is h.1)

pub row_over : (sig : Signature) (columns : ℕ) (presences : List ℕ) (e : Entry) → IsSignature sig → columns ≤ most_columns → IsEntry sig columns presences e → IsRowOver sig e
row_over sig columns presences e is narrow h = record {
  signature = is;
  columns = omega (arith, h.symbol.width, narrow);
  symbols = h.symbol.symbols;
  kids_few = omega (arith, h.count, few_kids sig e.symbol is h.symbol.symbols);
}

pub nodes_front : (sig : Signature) (columns : ℕ) (es : List Entry) (n : ℕ) → n ≤ length es → AreNodes sig columns es → AreNodes sig columns (take n es)
nodes_front sig columns es n l h k d m =
    let count = length-take-le n es l in
    let low : k < n = omega (arith, m, count) in
    subst (λ (e : Entry). IsEntry sig columns (node_presences (take k (take n es))) e) (sym (get_or-take n es k d low))
    (subst (λ (xs : List Entry). IsEntry sig columns (node_presences xs) (get_or es k d)) (sym (front_front es k n (omega (arith, low)))) (h k d (omega (arith, low, l))))
  where
    front_front : (xs : List Entry) (a b : ℕ) → a ≤ b → take a (take b xs) ≡ take a xs
    front_front xs zero b r = refl
    front_front [] (suc a) zero r = refl
    front_front [] (suc a) (suc b) r = refl
    front_front (x ∷ xs) (suc a) zero r = absurd (omega arith)
    front_front (x ∷ xs) (suc a) (suc b) r = ap (λ ys. x ∷ ys) (front_front xs a b (omega arith))

module _ (sig : Signature) (columns : ℕ) (nodes : List Node) (h : AreNodes sig columns (map as_node nodes)) (i : ℕ) (node : Node) (low : i < length nodes) (is : node ≡ get_or nodes i node) where
  here : get_or (map as_node nodes) i (as_node node) ≡ as_node node
  here = get_or-map as_node nodes i node (as_node node) low ∙ ap as_node (sym is)

  -- Result
  pub node_row : IsSignature sig → columns ≤ most_columns → IsRowOver sig (as_node node)
  node_row lawful narrow =
      row_over sig columns (node_presences (take i (map as_node nodes))) (as_node node) lawful narrow
      (subst (IsEntry sig columns (node_presences (take i (map as_node nodes)))) here (h i (as_node node) (omega (arith, low, length-map nodes as_node))))

  -- Result
  pub one_more : map as_node (take (i + 1) nodes) ≡ map as_node (take i nodes) ++ as_node node ∷ []
  one_more = map_more as_node nodes i node low ∙ ap (λ x. map as_node (take i nodes) ++ as_node x ∷ []) (sym is)

  -- Result
  pub nodes_so_far : (all : List Entry) (e : Entry) → all ≡ map as_node (take i nodes) → e ≡ as_node node → AreNodes sig columns (all ++ e ∷ [])
  nodes_so_far all e all_are e_is =
      let whole : all ++ e ∷ [] ≡ take (i + 1) (map as_node nodes) =
      (λ j. all_are j ++ e_is j ∷ []) ∙ (sym one_more ∙ sym (take-map as_node (i + 1) nodes)) in
      subst (AreNodes sig columns) (sym whole) (nodes_front sig columns (map as_node nodes) (i + 1) (omega (arith, low, length-map nodes as_node)) h)
