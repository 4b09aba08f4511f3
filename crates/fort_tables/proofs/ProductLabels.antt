-- The label of a product: the presence, and the operands' words, which tell their states on their own columns.
use Rattle.std.proofs.Common.{◌≡◌, ℕ, suc, ◌-◌, ◌<◌, List, [], ◌∷◌, map, take, length, None, get_or, Bool, true, false, if◌then◌else◌, refl, ap, sym, ◌∙◌, arith}
use Rattle.std.proofs.lemmas.List.{length-map, get_or-map, ext_get_or, length-take-le, get_or-take}
use Rattle.fort_theory.specs.Signatures.{Signature}
use Rattle.fort_tables.specs.Tuples.{Tuple, TupleSymbol, root, kid, kids, kid_count, presence, IsFull, IsTuple, symbol_kids}
use Rattle.fort_tables.specs.Entries.{entry}
use Rattle.fort_tables.specs.Tables.{Table, state_of}
use Rattle.fort_tables.specs.Labels.{Labelling}
use Rattle.fort_tables.specs.LabelRules.{label_of}
use Rattle.fort_tables.proofs.TupleLaws.{tuple_induction, fold_tuple-step, length-tabulate, get_or-tabulate, IsTuple-kid, kid_present, kid_count_is}
use Rattle.fort_tables.proofs.TableLaws.{presence_root}
use Rattle.fort_tables.proofs.LabelRuleLaws.{label_of-step}
use Rattle.fort_tables.specs.Selections.{selected, is_present, ArePlaces}
use Rattle.fort_tables.specs.Products.{Operand, OfTable, OfTruth, IsOperand, operand_word, state_at, operand_step, product_rule}
use Rattle.fort_tables.proofs.SelectionLaws.{root-selected, kid-selected, kid_count-selected, AreGroundColumns-selected, test_from_present, is_present-root, IsTuple-selected, IsFull-selected, present_from_full}
use Rattle.fort_tables.proofs.ProjectLabels.{kid_words, length-kid_words, get_or-kid_words}

pub word_there : (table : Table) (places : List ℕ) (t : Tuple) → is_present (selected places t) ≡ true → operand_word (OfTable table places) t ≡ suc (state_of table (selected places t))
word_there table places t h = ap (λ b. if b then suc (state_of table (selected places t)) else 0) h

pub word_none : (table : Table) (places : List ℕ) (t : Tuple) → is_present (selected places t) ≡ false → operand_word (OfTable table places) t ≡ 0
word_none table places t h = ap (λ b. if b then suc (state_of table (selected places t)) else 0) h

if_same : (b : Bool) (x y : ℕ) → (b ≡ true → x ≡ y) → (if b then x else 0) ≡ (if b then y else 0)
if_same true x y h = h refl
if_same false x y h = refl

-- a table's word from the root and the children's words
table_exact : (sig : Signature) (n : ℕ) (table : Table) (places : List ℕ) (i : ℕ) (label : Labelling) (t : Tuple) → table.signature ≡ sig → IsTuple sig n t
    → ((j : ℕ) → j < kid_count t → get_or (label (kid t j)) i 0 ≡ operand_word (OfTable table places) (kid t j))
    → operand_step i (OfTable table places) (root t) (kid_words label t) ≡ operand_word (OfTable table places) t
table_exact sig n table places i label t same h known =
    let s = selected places t in
    let ws = kid_words label t in
    let lw = length-kid_words label t in
    let f = selected places (root t) in
    let fs : root s ≡ f = root-selected places t in
    let bs : is_present f ≡ is_present s = ap is_present (sym fs) ∙ is_present-root s in
    let ground = AreGroundColumns-selected sig places t h.grounded in
    let m = symbol_kids table.signature f in
    let count : m ≡ kid_count s = ap (λ z. symbol_kids z f) same ∙ (ap (symbol_kids sig) (sym fs) ∙ sym (kid_count_is sig s ground)) in
    let less = kid_count-selected places t in
    let lt : length (take m ws) ≡ m = length-take-le m ws (omega arith) in
    let lm : length (map (state_at i) (take m ws)) ≡ length (take m ws) = length-map (take m ws) (state_at i) in
    let ls : length (map (state_of table) (kids s)) ≡ kid_count s = length-map (kids s) (state_of table) ∙ length-tabulate (kid_count s) (kid s) in
    let step : TupleSymbol → List ℕ → ℕ = λ g ks. table.target (entry g ks) in
    let words : map (state_at i) (take m ws) ≡ map (state_of table) (kids s) =
    ext_get_or 0 (map (state_at i) (take m ws)) (map (state_of table) (kids s)) (omega arith)
    (λ j l.
    let k : j < kid_count s = omega arith in
    let there : is_present (selected places (kid t j)) ≡ true = ap is_present (sym (kid-selected places t j)) ∙ test_from_present (kid s j) (kid_present s j k) in
    let x : get_or (label (kid t j)) i 0 ≡ suc (state_of table (selected places (kid t j))) = known j (omega arith) ∙ word_there table places (kid t j) there in
    let y : get_or (label (kid t j)) i 0 - 1 ≡ state_of table (selected places (kid t j)) = omega (arith, x) in
    get_or-map (state_at i) (take m ws) j [] 0 (omega arith)
    ∙ (ap (state_at i) (get_or-take m ws j [] (omega arith) ∙ get_or-kid_words label t j (omega arith))
    ∙ (y ∙ (ap (state_of table) (sym (kid-selected places t j))
    ∙ sym (get_or-map (state_of table) (kids s) j [] 0 (omega (arith, length-tabulate (kid_count s) (kid s))) ∙ ap (state_of table) (get_or-tabulate (kid_count s) (kid s) j [] k)))))) in
    let is : step f (map (state_at i) (take m ws)) ≡ state_of table s =
    ap (step f) words ∙ (ap (λ g. step g (map (state_of table) (kids s))) (sym fs) ∙ sym (fold_tuple-step step s)) in
    ap (λ b. if b then suc (step f (map (state_at i) (take m ws))) else 0) bs
    ∙ if_same (is_present s) _ _ (λ _. ap suc is)

-- an operand's word from the root and the children's words
pub operand_exact : (sig : Signature) (n : ℕ) (o : Operand) (i : ℕ) (label : Labelling) (t : Tuple) → IsOperand sig n o → IsTuple sig n t
    → ((j : ℕ) → j < kid_count t → get_or (label (kid t j)) i 0 ≡ operand_word o (kid t j)) → operand_step i o (root t) (kid_words label t) ≡ operand_word o t
operand_exact sig n (OfTable table places) i label t o h known = table_exact sig n table places i label t o.0 h known
operand_exact sig n (OfTruth b) i label t o h known = refl

abbrev pub product_words : Operand → Operand → Tuple → List ℕ
product_words first second t = presence t ∷ operand_word first t ∷ operand_word second t ∷ []

-- Result: the label of a product is the presence and its operands' words
pub product_exact : (sig : Signature) (n : ℕ) (first second : Operand) → IsOperand sig n first → IsOperand sig n second → (t : Tuple) → IsTuple sig n t → label_of (product_rule n first second) t ≡ product_words first second t
product_exact sig n first second o p = tuple_induction (λ t. IsTuple sig n t → label_of (product_rule n first second) t ≡ product_words first second t)
    (λ t ih h.
    let label = label_of (product_rule n first second) in
    let known : (j : ℕ) → j < kid_count t → label (kid t j) ≡ product_words first second (kid t j) = λ j l. ih j l (IsTuple-kid sig n t j h l) in
    let a = presence_root t in
    let b = operand_exact sig n first 1 label t o h (λ j l. ap (λ w. get_or w 1 0) (known j l)) in
    let c = operand_exact sig n second 2 label t p h (λ j l. ap (λ w. get_or w 2 0) (known j l)) in
    label_of-step (product_rule n first second) t ∙ (λ i. a i ∷ b i ∷ c i ∷ []))

-- on tuples of terms a table's word is its state
pub record IsFullWord (sig : Signature) (table : Table) (places : List ℕ) (t : Tuple) : Type 0 where
  pub word : operand_word (OfTable table places) t ≡ suc (state_of table (selected places t))
  pub tuple : IsTuple sig (length places) (selected places t)
  pub full : IsFull (selected places t)

pub full_word : (sig : Signature) (n : ℕ) (table : Table) (places : List ℕ) (t : Tuple) → IsTuple sig n t → IsFull t → 0 < length places → ArePlaces n places → IsFullWord sig table places t
full_word sig n table places t h f some within =
    let full = IsFull-selected places t f (λ k l. omega (arith, within k l, h.width)) in
    let p = present_from_full (selected places t) full (omega (arith, length-map places (λ p. get_or t p None))) in
    record { word = word_there table places t (test_from_present (selected places t) p); tuple = IsTuple-selected sig places t h.grounded p; full = full }
