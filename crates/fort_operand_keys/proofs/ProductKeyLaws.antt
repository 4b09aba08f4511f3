-- The label of a product goes by the leaders of its operands' states.
use Rattle.std.proofs.Common.{◌≡◌, ℕ, suc, ◌-◌, ◌<◌, List, [], ◌∷◌, length, get_or, Bool, true, false, nat_lt, if◌then◌else◌, ⊎_elim, refl, ap, sym, ◌∙◌, arith, subst}
use Rattle.std.proofs.lemmas.Bool.{cases_eq, lt-ltb}
use Rattle.fort_theory.specs.Signatures.{Signature}
use Rattle.fort_tables.specs.Tuples.{Tuple, root, kid, kid_count, presence, IsTuple, symbol_kids}
use Rattle.fort_tables.specs.Tables.{Table, state_of}
use Rattle.fort_tables.specs.LabelRules.{label_of}
use Rattle.fort_tables.specs.Selections.{selected, is_present}
use Rattle.fort_tables.specs.Products.{Operand, OfTable, OfTruth, IsOperand, AreOperands, IsLawful, operand_word, state_at, product_rule}
use Rattle.fort_tables.proofs.TupleLaws.{IsTuple-kid, kid_present, kid_count_is}
use Rattle.fort_tables.proofs.TableLaws.{presence_root}
use Rattle.fort_tables.proofs.SelectionLaws.{root-selected, kid-selected, kid_count-selected, AreGroundColumns-selected, IsTuple-selected, present_from_test, test_from_present, is_present-root}
use Rattle.fort_tables.proofs.ProductLabels.{word_there, product_words, product_exact}
use Rattle.fort_classes.specs.Leaders.{Leaders}
use Rattle.fort_classes.specs.Keys.{GoesByEachKey}
use Rattle.fort_operand_keys.specs.ProductKeys.{IsLedOperand, operand_key, product_key}
use Rattle.fort_operand_keys.proofs.ClassStates.{same_state}

-- equal tests, and equal numbers where they hold
if_alike : (a b : Bool) (x y : ℕ) → a ≡ b → (a ≡ true → x ≡ y) → (if a then x else 0) ≡ (if b then y else 0)
if_alike true b x y same h = ap (λ z. if z then x else 0) same ∙ ap (λ n. if b then n else 0) (h refl)
if_alike false b x y same h = ap (λ z. if z then y else 0) same

-- a word that is there tells the state
told_state : (i : ℕ) (w : List ℕ) (q : ℕ) → get_or w i 0 ≡ suc q → state_at i w ≡ q
told_state i w q h = ap (λ n. n - 1) h ∙ (let e : suc q - 1 ≡ q = omega arith in e)

module _ (sig : Signature) (n : ℕ) (table : Table) (places : List ℕ) (lead : Leaders) (o : IsOperand sig n (OfTable table places)) (is : IsLawful (OfTable table places)) (led : IsLedOperand (OfTable table places) lead)
    (t u : Tuple) (h : IsTuple sig n t) (k : IsTuple sig n u) (same : root t ≡ root u) where
  -- the roots and the tests of the selected columns
  root_same : root (selected places t) ≡ root (selected places u)
  root_same = root-selected places t ∙ (ap (selected places) same ∙ sym (root-selected places u))

  test_same : is_present (selected places t) ≡ is_present (selected places u)
  test_same = sym (is_present-root (selected places t)) ∙ (ap is_present root_same ∙ is_present-root (selected places u))

  selected_is : (x : Tuple) → IsTuple sig n x → is_present (selected places x) ≡ true → IsTuple table.signature table.columns (selected places x)
  selected_is x hx p =
      let at : IsTuple sig (length places) (selected places x) = IsTuple-selected sig places x hx.grounded (present_from_test (selected places x) p) in
      subst (λ (s : Signature). IsTuple s table.columns (selected places x)) (sym o.0) (subst (λ (c : ℕ). IsTuple sig c (selected places x)) o.1.0 at)

  -- the word of a child that the selected columns have
  kid_word : (x : Tuple) (m : ℕ) → m < kid_count (selected places x) → operand_word (OfTable table places) (kid x m) ≡ suc (state_of table (kid (selected places x) m))
  kid_word x m l =
      let e : selected places (kid x m) ≡ kid (selected places x) m = sym (kid-selected places x m) in
      let there : is_present (selected places (kid x m)) ≡ true = ap is_present e ∙ test_from_present (kid (selected places x) m) (kid_present (selected places x) m l) in
      word_there table places (kid x m) there ∙ ap (λ s. suc (state_of table s)) e

  count_is : (x : Tuple) → IsTuple sig n x → kid_count (selected places x) ≡ symbol_kids table.signature (selected places (root x))
  count_is x hx =
      kid_count_is sig (selected places x) (AreGroundColumns-selected sig places x hx.grounded)
      ∙ (ap (symbol_kids sig) (root-selected places x) ∙ ap (λ s. symbol_kids s (selected places (root x))) (sym o.0))

  -- Result: equal words of all children but one, and equal keys there, give equal words
  word_same : (i j : ℕ) (v w : List ℕ) → ((m : ℕ) → m < kid_count t → (m ≡ j → ⊥) → operand_word (OfTable table places) (kid t m) ≡ operand_word (OfTable table places) (kid u m))
      → get_or v i 0 ≡ operand_word (OfTable table places) (kid t j) → get_or w i 0 ≡ operand_word (OfTable table places) (kid u j)
      → operand_key i lead (OfTable table places) (root t) j v ≡ operand_key i lead (OfTable table places) (root t) j w
      → operand_word (OfTable table places) t ≡ operand_word (OfTable table places) u
  word_same i j v w others tells tells' keys =
      let f = selected places (root t) in
      if_alike (is_present (selected places t)) (is_present (selected places u)) (suc (state_of table (selected places t))) (suc (state_of table (selected places u))) test_same
      (λ p. ap suc (same_state table lead led.goes is.0 (selected places t) (selected places u) (selected_is t h p) (selected_is u k (sym test_same ∙ p)) root_same
      (λ m l.
      let here : m < symbol_kids table.signature f = omega (arith, count_is t h) in
      let there : m < kid_count (selected places u) = omega (arith, count_is t h, count_is u k, ap (λ g. symbol_kids table.signature (selected places g)) same) in
      let a = state_of table (kid (selected places t) m) in
      let b = state_of table (kid (selected places u) m) in
      ap (λ g. lead g m a) (root-selected places t)
      ∙ (⊎_elim
      (λ (e : m ≡ j).
      let x : state_at i v ≡ a = told_state i v a (tells ∙ (ap (λ z. operand_word (OfTable table places) (kid t z)) (sym e) ∙ kid_word t m l)) in
      let y : state_at i w ≡ b = told_state i w b (tells' ∙ (ap (λ z. operand_word (OfTable table places) (kid u z)) (sym e) ∙ kid_word u m there)) in
      let low : nat_lt j (symbol_kids table.signature f) ≡ true = lt-ltb j (symbol_kids table.signature f) (omega (arith, here, e)) in
      let z : suc (lead f j (state_at i v)) ≡ suc (lead f j (state_at i w)) =
      sym (ap (λ d. if d then suc (lead f j (state_at i v)) else 0) low) ∙ (keys ∙ ap (λ d. if d then suc (lead f j (state_at i w)) else 0) low) in
      let r : lead f j (state_at i v) ≡ lead f j (state_at i w) = omega (arith, z) in
      ap (lead f m) (sym x) ∙ (ap (λ d. lead f d (state_at i v)) e ∙ (r ∙ (ap (λ d. lead f d (state_at i w)) (sym e) ∙ ap (lead f m) y))))
      (λ (apart : m ≡ j → ⊥).
      let z : suc a ≡ suc b = sym (kid_word t m l) ∙ (others m (omega (arith, kid_count-selected places t)) apart ∙ kid_word u m there) in
      let r : a ≡ b = omega (arith, z) in
      ap (lead f m) r)
      (cases_eq m j)
      ∙ ap (λ g. lead g m b) (sym (root-selected places t))))))

-- the same of any operand
operand_same : (sig : Signature) (n : ℕ) (operand : Operand) (lead : Leaders) → IsOperand sig n operand → IsLawful operand → IsLedOperand operand lead
    → (t u : Tuple) → IsTuple sig n t → IsTuple sig n u → root t ≡ root u
    → (i j : ℕ) (v w : List ℕ) → ((m : ℕ) → m < kid_count t → (m ≡ j → ⊥) → operand_word operand (kid t m) ≡ operand_word operand (kid u m))
    → get_or v i 0 ≡ operand_word operand (kid t j) → get_or w i 0 ≡ operand_word operand (kid u j)
    → operand_key i lead operand (root t) j v ≡ operand_key i lead operand (root t) j w → operand_word operand t ≡ operand_word operand u
operand_same sig n (OfTable table places) lead o is led t u h k same i j v w others tells tells' keys = word_same sig n table places lead o is led t u h k same i j v w others tells tells' keys
operand_same sig n (OfTruth b) lead o is led t u h k same i j v w others tells tells' keys = refl

-- Result: the label of a product goes by its key
pub GoesByEachKey-product : (sig : Signature) (columns : ℕ) (first second : Operand) (lead1 lead2 : Leaders) → AreOperands sig columns first second → IsLawful first → IsLawful second → IsLedOperand first lead1 → IsLedOperand second lead2
    → GoesByEachKey sig columns (label_of (product_rule columns first second)) (product_key lead1 lead2 first second)
GoesByEachKey-product sig columns first second lead1 lead2 are is1 is2 led1 led2 t u j h k l differ keys =
    let label = label_of (product_rule columns first second) in
    let exact : (x : Tuple) → IsTuple sig columns x → label x ≡ product_words first second x = product_exact sig columns first second are.first_is are.second_is in
    let count : kid_count t ≡ kid_count u = kid_count_is sig t h.grounded ∙ (ap (symbol_kids sig) differ.root_is ∙ sym (kid_count_is sig u k.grounded)) in
    let kid_t : (m : ℕ) → m < kid_count t → label (kid t m) ≡ product_words first second (kid t m) = λ m o. exact (kid t m) (IsTuple-kid sig columns t m h o) in
    let kid_u : (m : ℕ) → m < kid_count t → label (kid u m) ≡ product_words first second (kid u m) = λ m o. exact (kid u m) (IsTuple-kid sig columns u m k (omega arith)) in
    let words : (m : ℕ) → m < kid_count t → (m ≡ j → ⊥) → product_words first second (kid t m) ≡ product_words first second (kid u m) = λ m o apart. sym (kid_t m o) ∙ (differ.others m o apart ∙ kid_u m o) in
    let a : presence t ≡ presence u = sym (presence_root t) ∙ (ap presence differ.root_is ∙ presence_root u) in
    let b = operand_same sig columns first lead1 are.first_is is1 led1 t u h k differ.root_is 1 j (label (kid t j)) (label (kid u j))
    (λ m o apart. ap (λ w. get_or w 1 0) (words m o apart)) (ap (λ w. get_or w 1 0) (kid_t j l)) (ap (λ w. get_or w 1 0) (kid_u j l)) (ap (λ w. get_or w 0 0) keys) in
    let c = operand_same sig columns second lead2 are.second_is is2 led2 t u h k differ.root_is 2 j (label (kid t j)) (label (kid u j))
    (λ m o apart. ap (λ w. get_or w 2 0) (words m o apart)) (ap (λ w. get_or w 2 0) (kid_t j l)) (ap (λ w. get_or w 2 0) (kid_u j l)) (ap (λ w. get_or w 1 0) keys) in
    exact t h ∙ ((λ z. a z ∷ b z ∷ c z ∷ []) ∙ sym (exact u k))
