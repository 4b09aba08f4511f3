-- The search for children, entry by entry.
use Rattle.std.proofs.Common.{◌≡◌, ◌≢◌, ℕ, zero, suc, ◌+◌, ◌-◌, ◌<◌, ◌≤◌, ◌==◌, ◌&&◌, ◌||◌, List, [], ◌∷◌, ◌++◌, length, map, replicate, get_or, take, set, Option, None, Some, if◌then◌else◌, Bool, true, false, ⊎_elim, refl, ap, sym, ◌∙◌, arith, subst, append_assoc, get_or-set_same, get_or-set_other}
use Rattle.std.specs.List.{insert, list_any}
use Rattle.std.proofs.lemmas.Bool.{cases_lt, or_cases}
use Rattle.std.proofs.lemmas.List.{append-nil, take_more, take_more_set, take_all, length-take-le, get_or-take, get_or-map}
use Rattle.std.proofs.lemmas.List.Folds.{list_any-append, list_any_at}
use Rattle.std.proofs.lemmas.List.Elements.{All-get_or}
use Rattle.fort_theory.specs.Signatures.{Signature, Symbol, symbol, IsSignature}
use Rattle.fort_theory.proofs.Members.{Contains-Decides}
use Rattle.fort_tables.specs.Tuples.{TupleSymbol, all_absent, symbol_kids, arity}
use Rattle.fort_tables.specs.Entries.{entry}
use Rattle.fort_tables.specs.Tables.{Table, IsTableEntry}
use Rattle.fort_tables.proofs.InsertSymbolLaws.{symbol_kids-alone}
use Rattle.fort_tables.specs.Projections.{some_below, some_choice, is_pure, ArePure}
use Rattle.fort_tables.proofs.SearchLaws.{found_below, below_found, same_truth, both, left, right}
use Rattle.fort_tables.specs.PureStates.{IsPureState}
use Rattle.fort_tables.specs.PureSearch.{lone_symbol, has_number, is_child_after, is_child_under, is_child}
use Rattle.fort_tables.proofs.PureSearchLaws.{pure_from_test, pure_entry_made, is_child_exactly}
use Rattle.fort_tables.proofs.ManySearchLaws.{choice_turn}
use Rattle.fort_tuple_symbols.specs.Columns.{as_column, as_symbol}
use Rattle.fort_terms.specs.declared.sym.Sym.{Sym}
use Rattle.fort_infinity.specs.Children.{AreChildren, IsPureColumn, IsLone}
use Rattle.fort_infinity.proofs.ListLaws.{has_number-noted}

-- arities are small
pub arity_small : (sig : Signature) (g : ℕ) → IsSignature sig → g < length sig → arity sig g ≤ 8
arity_small sig g is l =
    let d : Symbol = symbol [] 0 in
    omega (arith, get_or-map (λ (s : Symbol). s.arity) sig g d 0 l, All-get_or (λ (s : Symbol). s.arity ≤ 8) sig g d l is.small)

absent_columns : (n m : ℕ) → n ≤ m → map as_column (take n (replicate {A = Option Sym} m None)) ≡ all_absent n
absent_columns zero m h = refl
absent_columns (suc n) zero h = absurd (omega arith)
absent_columns (suc n) (suc m) h = ap (λ f. None ∷ f) (absent_columns n m (omega arith))

pub lone_made : (n c g : ℕ) (f r : TupleSymbol) → n ≤ 16 → f ≡ as_symbol (take n (replicate {A = Option Sym} 16 None)) → r ≡ insert f c (Some g) → r ≡ insert (all_absent n) c (Some g)
lone_made n c g f r l p q = q ∙ ap (λ z. insert z c (Some g)) (p ∙ absent_columns n 16 l)

-- a whole choice makes an entry
pub lone_entry_made : (body : Table) (c g : ℕ) (alone : List ℕ) (f : TupleSymbol) (chosen : List ℕ) (j rest : ℕ) → IsPureColumn body c alone → IsLone body c g f → j + rest ≡ symbol_kids body.signature f → rest ≡ 0 → j ≤ length chosen
    → ((i : ℕ) → i < j → IsPureState body c (get_or chosen i 0)) → IsTableEntry body (entry f (take j chosen))
lone_entry_made body c g alone f chosen j rest column lone count none l before =
    let ks = take j chosen in
    let w = length-take-le j chosen l in
    let a : length ks ≡ arity body.signature g = omega (arith, w, count, none, ap (symbol_kids body.signature) lone.symbol, symbol_kids-alone body.signature c (body.columns - 1) g) in
    let made = pure_entry_made body c g (body.target (entry (lone_symbol body c g) ks)) ks column.column lone.within a
    (λ i m. subst (IsPureState body c) (sym (get_or-take j chosen i 0 (omega (arith, m, w)))) (before i (omega (arith, m, w)))) refl in
    subst (λ (z : TupleSymbol). IsTableEntry body (entry z ks)) (sym lone.symbol) made.is_entry

-- one more chosen state
pub pure_more : (body : Table) (c : ℕ) (alone chosen : List ℕ) (j i : ℕ) → ArePure body c alone → j < length chosen → i < length alone → ((n : ℕ) → n < j → IsPureState body c (get_or chosen n 0)) → (n : ℕ) → n < j + 1 → IsPureState body c (get_or (set chosen j (get_or alone i 0)) n 0)
pure_more body c alone chosen j i pure l m h n b = ⊎_elim
    (λ (a : n < j). let ne : n ≢ j = omega arith in subst (IsPureState body c) (sym (get_or-set_other chosen j n (get_or alone i 0) 0 ne)) (h n a))
    (λ (a : j ≤ n).
    let e : j ≡ n = omega arith in
    let p = pure.each i m in
    subst (λ (x : ℕ). IsPureState body c (get_or (set chosen j (get_or alone i 0)) x 0)) e (subst (IsPureState body c) (sym (get_or-set_same chosen j (get_or alone i 0) 0 l)) (pure_from_test body c (get_or alone i 0) p.0 p.1)))
    (cases_lt n j)

child_turn : (body : Table) (c : ℕ) (f : TupleSymbol) (before : List ℕ) (j rest q n : ℕ) → rest ≢ 0
    → is_child_after body c f before j rest q n ≡ some_below (length body.presences) (λ k. is_pure body c k && is_child_after body c f (before ++ k ∷ []) (j + 1) (rest - 1) q n)
child_turn body c f before j rest q n h =
    let m = length body.presences in
    let e : suc j ≡ j + 1 = omega arith in
    let test : List ℕ → Bool = λ ks. (body.target (entry f ks) == q) && has_number n ks in
    choice_turn m (λ _ k. is_pure body c k) j rest (λ ks. test (before ++ ks)) h
    ∙ ap (λ (r : ℕ → Bool). some_below m (λ k. is_pure body c k && r k))
    (let s : (k : ℕ) → some_choice m (λ _ i. is_pure body c i) (suc j) (rest - 1) (λ ks. test (before ++ k ∷ ks)) ≡ is_child_after body c f (before ++ k ∷ []) (j + 1) (rest - 1) q n =
    λ k. ap (some_choice m (λ _ i. is_pure body c i) (suc j) (rest - 1)) (λ i ks. test (sym (append_assoc before (k ∷ []) ks) i))
    ∙ ap (λ a. some_choice m (λ _ i. is_pure body c i) a (rest - 1) (λ ks. test ((before ++ k ∷ []) ++ ks))) e in
    λ i k. s k i)

-- the pure states are all in the list
pub below-listed : (body : Table) (c : ℕ) (alone : List ℕ) (p : ℕ → Bool) → ArePure body c alone → some_below (length body.presences) (λ k. is_pure body c k && p k) ≡ list_any p alone
below-listed body c alone p pure = same_truth (some_below (length body.presences) (λ k. is_pure body c k && p k)) (list_any p alone)
    (λ e.
    let r = found_below (length body.presences) (λ k. is_pure body c k && p k) e in
    let at = (Contains-Decides alone r.0).0 (pure.all r.0 r.1 (left (is_pure body c r.0) (p r.0) r.2)) in
    list_any_at p alone at.0 r.0 at.1 (ap p at.2 ∙ right (is_pure body c r.0) (p r.0) r.2))
    (λ e.
    let r = listed alone e in
    let q = pure.each r.0 r.1 in
    below_found (length body.presences) (λ k. is_pure body c k && p k) (get_or alone r.0 0) q.0 (both (is_pure body c (get_or alone r.0 0)) (p (get_or alone r.0 0)) q.1 r.2))
  where
    listed : (xs : List ℕ) → list_any p xs ≡ true → (i : ℕ) × (i < length xs) × (p (get_or xs i 0) ≡ true)
    listed [] h = absurd cc
    listed (x ∷ xs) h = ⊎_elim
        (λ (e : p x ≡ true). (0, omega arith, e))
        (λ (e : list_any p xs ≡ true). let r = listed xs e in (suc r.0, omega (arith, r.1), r.2))
        (or_cases (p x) (list_any p xs) h)

or_more : (a b new mid old : Bool) → new ≡ (b || mid) → mid ≡ (a || old) → new ≡ ((a || (b || false)) || old)
or_more true true new mid old h k = h
or_more true false new mid old h k = h ∙ k
or_more false true new mid old h k = h
or_more false false new mid old h k = h ∙ k

-- one turn of the loop over the pure states
pub noted_turn : (body : Table) (c : ℕ) (alone : List ℕ) (f : TupleSymbol) (chosen : List ℕ) (j rest i q n : ℕ) (new mid old : Bool) → j < length chosen → i < length alone
    → new ≡ (is_child_after body c f (take (j + 1) (set chosen j (get_or alone i 0))) (j + 1) (rest - 1) q n || mid)
    → mid ≡ (list_any (λ k. is_child_after body c f (take j chosen ++ k ∷ []) (j + 1) (rest - 1) q n) (take i alone) || old)
    → new ≡ (list_any (λ k. is_child_after body c f (take j chosen ++ k ∷ []) (j + 1) (rest - 1) q n) (take (i + 1) alone) || old)
noted_turn body c alone f chosen j rest i q n new mid old l m h g =
    let p : ℕ → Bool = λ k. is_child_after body c f (take j chosen ++ k ∷ []) (j + 1) (rest - 1) q n in
    let k = get_or alone i 0 in
    let b = is_child_after body c f (take (j + 1) (set chosen j k)) (j + 1) (rest - 1) q n in
    let here : p k ≡ b = ap (λ z. is_child_after body c f z (j + 1) (rest - 1) q n) (sym (take_more_set chosen j k l)) in
    or_more (list_any p (take i alone)) (p k) new mid old (h ∙ ap (λ z. z || mid) (sym here)) g
    ∙ ap (λ z. z || old) (sym (ap (list_any p) (take_more alone i 0 m) ∙ list_any-append p (take i alone) (k ∷ [])))

-- the loop's end
pub noted_all : (body : Table) (c : ℕ) (alone : List ℕ) (f : TupleSymbol) (before : List ℕ) (j rest i q n : ℕ) (old : Bool) → ArePure body c alone → rest ≢ 0 → length alone ≤ i
    → (list_any (λ k. is_child_after body c f (before ++ k ∷ []) (j + 1) (rest - 1) q n) (take i alone) || old) ≡ (is_child_after body c f before j rest q n || old)
noted_all body c alone f before j rest i q n old pure h l =
    let p : ℕ → Bool = λ k. is_child_after body c f (before ++ k ∷ []) (j + 1) (rest - 1) q n in
    ap (λ z. z || old) (ap (list_any p) (take_all i alone l) ∙ (sym (below-listed body c alone p pure) ∙ sym (child_turn body c f before j rest q n h)))

-- a whole choice
pub noted_end : (body : Table) (c : ℕ) (f : TupleSymbol) (ks : List ℕ) (j rest x q n : ℕ) (new old : List ℕ) → rest ≡ 0 → x ≡ body.target (entry f ks) → new ≡ (if q == x then old ++ ks else old)
    → has_number n new ≡ (is_child_after body c f ks j rest q n || has_number n old)
noted_end body c f ks j rest x q n new old none target is =
    let test : List ℕ → Bool = λ is. (body.target (entry f is) == q) && has_number n is in
    let whole : is_child_after body c f ks j rest q n ≡ ((x == q) && has_number n ks) =
    ap (λ m. is_child_after body c f ks j m q n) none ∙ (ap test (append-nil ks) ∙ ap (λ z. (z == q) && has_number n ks) (sym target)) in
    ap (has_number n) is ∙ (has_number-noted x q n old ks ∙ ap (λ z. z || has_number n old) (sym whole))

-- all symbols
pub under_turn : (body : Table) (c g q n : ℕ) (new mid : Bool) → new ≡ (is_child_under body c q n g || mid) → mid ≡ some_below g (is_child_under body c q n) → new ≡ some_below (g + 1) (is_child_under body c q n)
under_turn body c g q n new mid h k =
    let e : g + 1 ≡ suc g = omega arith in
    h ∙ (ap (λ z. is_child_under body c q n g || z) k ∙ (turned (is_child_under body c q n g) (some_below g (is_child_under body c q n)) ∙ ap (λ m. some_below m (is_child_under body c q n)) (sym e)))
  where
    turned : (a b : Bool) → (a || b) ≡ (b || a)
    turned true true = refl
    turned true false = refl
    turned false true = refl
    turned false false = refl

pub under_made : (body : Table) (c g a q n : ℕ) (f : TupleSymbol) → IsLone body c g f → a ≡ arity body.signature g → is_child_after body c f [] 0 a q n ≡ is_child_under body c q n g
under_made body c g a q n f lone e = ap (λ z. is_child_after body c z [] 0 a q n) lone.symbol ∙ ap (λ m. is_child_after body c (lone_symbol body c g) [] 0 m q n) e

-- Result: what was noted under all symbols are the children
pub children_noted : (body : Table) (c g : ℕ) (children : List (List ℕ)) → c < body.columns → length children ≡ length body.presences → g ≡ length body.signature
    → ((q n : ℕ) → has_number n (get_or children q []) ≡ some_below g (is_child_under body c q n)) → AreChildren body c children
children_noted body c g children low count all noted = record {
  count = count;
  each = λ q k.
      let e : has_number k (get_or children q []) ≡ is_child body c q k = noted q k ∙ ap (λ m. some_below m (is_child_under body c q k)) all in
      let d = Contains-Decides (get_or children q []) k in
      let x = is_child_exactly body c q k low in
      ((λ y. x.0 (sym e ∙ d.1 y)), (λ y. d.0 (e ∙ x.1 y)));
}

pub none_noted : (m q n : ℕ) → has_number n (get_or (replicate {A = List ℕ} m []) q []) ≡ false
none_noted m q n = ap (has_number n) (empty m q)
  where
    empty : (m q : ℕ) → get_or (replicate {A = List ℕ} m []) q [] ≡ []
    empty zero q = refl
    empty (suc m) zero = refl
    empty (suc m) (suc q) = empty m q
