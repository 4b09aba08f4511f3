-- The label of a product goes by its keys in views.
use Rattle.std.proofs.Common.{◌≡◌, ℕ, suc, ◌-◌, ◌<◌, ◌≤◌, List, [], ◌∷◌, map, length, get_or, true, false, nat_lt, if◌then◌else◌, ⊎_elim, refl, ap, sym, ◌∙◌, arith, subst}
use Rattle.std.proofs.lemmas.Bool.{cases_lt, lt-ltb, le-ltb}
use Rattle.std.proofs.lemmas.List.{length-map, get_or-map}
use Rattle.fort_theory.specs.Signatures.{Signature}
use Rattle.fort_tables.specs.Tuples.{Tuple, TupleSymbol, root, kid, kids, kid_count, AreSymbols, IsTuple, symbol_kids}
use Rattle.fort_tables.specs.Tables.{Table, IsTable, state_of}
use Rattle.fort_tables.specs.LabelRules.{label_of}
use Rattle.fort_tables.specs.Selections.{selected, is_present}
use Rattle.fort_tables.specs.Products.{Operand, OfTable, OfTruth, IsOperand, AreOperands, IsLawful, operand_word, state_at, product_rule}
use Rattle.fort_tables.proofs.TupleLaws.{length-tabulate, get_or-tabulate, IsTuple-kid, IsTupleSymbol-root, kid_present, kid_count_is}
use Rattle.fort_tables.proofs.TableLaws.{table_state, entry_of, IsEntry-states}
use Rattle.fort_tables.proofs.SelectionLaws.{root-selected, kid-selected, AreGroundColumns-selected, IsTuple-selected, test_from_present}
use Rattle.fort_tables.proofs.ProductLabels.{word_there, product_words, product_exact}
use Rattle.fort_classes.specs.Leaders.{Leaders, MayBeKid}
use Rattle.fort_classes.specs.Keys.{GoesByEachKey}
use Rattle.fort_classes.proofs.LeaderLaws.{kid_may_be}
use Rattle.fort_operand_keys.specs.ProductKeys.{IsLedOperand, operand_key, product_key}
use Rattle.fort_operand_keys.proofs.ProductKeyLaws.{GoesByEachKey-product}
use Rattle.fort_label_keys.specs.ViewKeys.{keys_by}
use Rattle.fort_product_keys.specs.ProductViews.{has_kid_at, view_word, presence_word, tells_state, key_word, product_view, key_in_view}
use Rattle.fort_product_keys.proofs.SymbolTests.{tuple_over_kid, test_from_kid}
use Rattle.fort_product_keys.proofs.WordLaws.{view_there, view_none, presence_there, key_none, key_of_state, told}

-- a place's leaders are those in its view; a truth has none
abbrev pub LeadsInViews : (TupleSymbol → ℕ → ℕ) → (ℕ → ℕ → ℕ) → Leaders → Operand → Type 0
LeadsInViews number leader lead (OfTable table places) = (f : TupleSymbol) (j q : ℕ) → MayBeKid table.signature table.columns table.presences f j q → lead f j q ≡ leader (number f j) q
LeadsInViews number leader lead (OfTruth b) = Unit {0}

-- each child's state may stand at its place
state_may_stand : (table : Table) → IsTable table → (t : Tuple) → IsTuple table.signature table.columns t → (j : ℕ) → j < kid_count t → MayBeKid table.signature table.columns table.presences (root t) j (state_of table (kid t j))
state_may_stand table is t h j l =
    let state = state_of table in
    let long : length (map state (kids t)) ≡ kid_count t = length-map (kids t) state ∙ length-tabulate (kid_count t) (kid t) in
    let at : get_or (map state (kids t)) j 0 ≡ state (kid t j) = get_or-map state (kids t) j [] 0 (omega (arith, length-tabulate (kid_count t) (kid t))) ∙ ap state (get_or-tabulate (kid_count t) (kid t) j [] l) in
    let e = IsEntry-states table.signature table.columns table.presences state t h (λ i m. table_state table is (kid t i) (IsTuple-kid table.signature table.columns t i h m)) in
    subst (λ (q : ℕ). MayBeKid table.signature table.columns table.presences (root t) j q) at (kid_may_be table.signature table.columns table.presences (entry_of state t) e j (omega (arith, long)))

module _ (sig : Signature) (n : ℕ) (table : Table) (places : List ℕ) (o : IsOperand sig n (OfTable table places)) (is : IsTable table)
    (number : TupleSymbol → ℕ → ℕ) (leader : ℕ → ℕ → ℕ) (lead : Leaders) (leads : LeadsInViews number leader lead (OfTable table places))
    (t : Tuple) (h : IsTuple sig n t) (j : ℕ) where
  -- the own symbols are the table's, and as many children are there as they have
  symbols_are : AreSymbols table.signature (root t)
  symbols_are = subst (λ (s : Signature). AreSymbols s (root t)) (sym o.0) (IsTupleSymbol-root sig n t h).symbols

  own_count : kid_count (selected places t) ≡ symbol_kids table.signature (selected places (root t))
  own_count =
      kid_count_is sig (selected places t) (AreGroundColumns-selected sig places t h.grounded)
      ∙ (ap (symbol_kids sig) (root-selected places t) ∙ ap (λ s. symbol_kids s (selected places (root t))) (sym o.0))

  test_is : has_kid_at table places n (root t) j ≡ nat_lt j (symbol_kids table.signature (selected places (root t)))
  test_is = test_from_kid table places n (root t) j ((IsTupleSymbol-root sig n t h).width) symbols_are

  -- the state of the child that the own columns have
  own_may_stand : j < kid_count (selected places t) → MayBeKid table.signature table.columns table.presences (selected places (root t)) j (state_of table (kid (selected places t) j))
  own_may_stand l =
      let s = selected places t in
      let at : IsTuple sig (length places) s = IsTuple-selected sig places t h.grounded (tuple_over_kid s (omega arith)) in
      let own : IsTuple table.signature table.columns s = subst (λ (x : Signature). IsTuple x table.columns s) (sym o.0) (subst (λ (c : ℕ). IsTuple sig c s) o.1.0 at) in
      subst (λ (f : TupleSymbol). MayBeKid table.signature table.columns table.presences f j (state_of table (kid s j))) (root-selected places t) (state_may_stand table is s own j l)

  own_word : j < kid_count (selected places t) → operand_word (OfTable table places) (kid t j) ≡ suc (state_of table (kid (selected places t) j))
  own_word l =
      let e : selected places (kid t j) ≡ kid (selected places t) j = sym (kid-selected places t j) in
      let there : is_present (selected places (kid t j)) ≡ true = ap is_present e ∙ test_from_present (kid (selected places t) j) (kid_present (selected places t) j l) in
      word_there table places (kid t j) there ∙ ap (λ s. suc (state_of table s)) e

  -- Result: the key in the view of a child's place is that of its leaders
  pub table_key_is : (i : ℕ) (v : List ℕ) → get_or v i 0 ≡ operand_word (OfTable table places) (kid t j)
      → key_word leader (OfTable table places) (view_word number (OfTable table places) n (root t) j) (presence_word (OfTable table places) n (root t) j) (get_or v i 0)
      ≡ operand_key i lead (OfTable table places) (root t) j v
  table_key_is i v tells =
      let f = selected places (root t) in
      let m = symbol_kids table.signature f in
      let view = view_word number (OfTable table places) n (root t) j in
      let seen = presence_word (OfTable table places) n (root t) j in
      let w = get_or v i 0 in
      ⊎_elim
      (λ (l : j < m).
      let there : has_kid_at table places n (root t) j ≡ true = test_is ∙ lt-ltb j m l in
      let here : j < kid_count (selected places t) = omega (arith, own_count) in
      let q = state_of table (kid (selected places t) j) in
      let may = own_may_stand here in
      let word : w ≡ suc q = tells ∙ own_word here in
      let view_is : view ≡ suc (number f j) = view_there table places n (root t) j number there in
      let less : w - 1 ≡ q = omega (arith, word) in
      let one : view - 1 ≡ number f j = omega (arith, view_is) in
      let state : tells_state table seen w ≡ true = told table seen w (omega (arith, word)) (omega (arith, less, may.within))
      (ap (λ p. get_or table.presences p 0) less ∙ (may.presence ∙ sym (presence_there table places n (root t) j number there))) in
      key_of_state table places leader view seen w (λ z. absurd (omega (arith, z, view_is))) state
      ∙ ((λ i. suc (leader (one i) (less i)))
      ∙ (ap suc (sym (leads f j q may))
      ∙ (ap (λ p. suc (lead f j p)) (sym less)
      ∙ sym (ap (λ b. if b then suc (lead f j (state_at i v)) else 0) (lt-ltb j m l))))))
      (λ (l : m ≤ j).
      let none : has_kid_at table places n (root t) j ≡ false = test_is ∙ le-ltb j m l in
      key_none table places leader view seen w (view_none table places n (root t) j number none)
      ∙ sym (ap (λ b. if b then suc (lead f j (state_at i v)) else 0) (le-ltb j m l)))
      (cases_lt j m)

-- the same of any operand
operand_key_is : (sig : Signature) (n : ℕ) (operand : Operand) (number : TupleSymbol → ℕ → ℕ) (leader : ℕ → ℕ → ℕ) (lead : Leaders)
    → IsOperand sig n operand → IsLawful operand → LeadsInViews number leader lead operand
    → (t : Tuple) → IsTuple sig n t → (i j : ℕ) (v : List ℕ) → get_or v i 0 ≡ operand_word operand (kid t j)
    → key_word leader operand (view_word number operand n (root t) j) (presence_word operand n (root t) j) (get_or v i 0) ≡ operand_key i lead operand (root t) j v
operand_key_is sig n (OfTable table places) number leader lead o is leads t h i j v tells = table_key_is sig n table places o is.0 number leader lead leads t h j i v tells
operand_key_is sig n (OfTruth b) number leader lead o is leads t h i j v tells = refl

module _ (sig : Signature) (columns : ℕ) (first second : Operand) (number1 number2 : TupleSymbol → ℕ → ℕ) (leader1 leader2 : ℕ → ℕ → ℕ) (lead1 lead2 : Leaders)
    (are : AreOperands sig columns first second) (is1 : IsLawful first) (is2 : IsLawful second)
    (leads1 : LeadsInViews number1 leader1 lead1 first) (leads2 : LeadsInViews number2 leader2 lead2 second) where
  -- the key of a child's label in the view of its place
  key_is : (t : Tuple) (j : ℕ) → IsTuple sig columns t → j < kid_count t
      → keys_by (product_view number1 number2 first second columns) (key_in_view leader1 leader2 first second) (root t) j (label_of (product_rule columns first second) (kid t j))
      ≡ product_key lead1 lead2 first second (root t) j (label_of (product_rule columns first second) (kid t j))
  key_is t j h l =
      let w = label_of (product_rule columns first second) (kid t j) in
      let exact : w ≡ product_words first second (kid t j) = product_exact sig columns first second are.first_is are.second_is (kid t j) (IsTuple-kid sig columns t j h l) in
      let a = operand_key_is sig columns first number1 leader1 lead1 are.first_is is1 leads1 t h 1 j w (ap (λ x. get_or x 1 0) exact) in
      let b = operand_key_is sig columns second number2 leader2 lead2 are.second_is is2 leads2 t h 2 j w (ap (λ x. get_or x 2 0) exact) in
      (λ i. a i ∷ b i ∷ [])

  -- Result: the label of a product goes by its keys in views, where the leaders tell the operands' targets
  pub GoesByEachKey-views : IsLedOperand first lead1 → IsLedOperand second lead2
      → GoesByEachKey sig columns (label_of (product_rule columns first second)) (keys_by (product_view number1 number2 first second columns) (key_in_view leader1 leader2 first second))
  GoesByEachKey-views led1 led2 t u j h k l differ same =
      let count : kid_count t ≡ kid_count u = kid_count_is sig t h.grounded ∙ (ap (symbol_kids sig) differ.root_is ∙ sym (kid_count_is sig u k.grounded)) in
      let w = label_of (product_rule columns first second) (kid u j) in
      let there = ap (λ f. keys_by (product_view number1 number2 first second columns) (key_in_view leader1 leader2 first second) f j w) differ.root_is
      ∙ (key_is u j k (omega (arith, count)) ∙ ap (λ f. product_key lead1 lead2 first second f j w) (sym differ.root_is)) in
      GoesByEachKey-product sig columns first second lead1 lead2 are is1 is2 led1 led2 t u j h k l differ (sym (key_is t j h l) ∙ (same ∙ there))
