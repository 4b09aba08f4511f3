-- An operand's columns of an entry over the labels of a product are an entry of the operand.
use Rattle.std.proofs.Common.{◌≡◌, ℕ, suc, ◌<◌, ◌≤◌, List, [], ◌∷◌, map, take, length, get_or, slice_set, None, true, refl, ap, sym, ◌∙◌, arith, subst}
use Rattle.std.proofs.lemmas.List.{length-map, get_or-map, get_or-take, length-take-le}
use Rattle.fort_theory.specs.Signatures.{Signature}
use Rattle.fort_tables.specs.Tuples.{Tuple, TupleSymbol, presence, IsTuple, symbol_kids, kid_presence}
use Rattle.fort_tables.specs.Entries.{Entry, entry}
use Rattle.fort_tables.specs.Tables.{Table, IsTable, state_of}
use Rattle.fort_tables.specs.Labels.{first_word, IsOverLabels, IsFullLabel}
use Rattle.fort_tables.specs.LabelRules.{label_of}
use Rattle.fort_tables.proofs.TupleLaws.{fits_presence}
use Rattle.fort_tables.proofs.TableLaws.{IsTableEntry-kid_states, table_state}
use Rattle.fort_tables.specs.Selections.{selected, is_present}
use Rattle.fort_tables.specs.Products.{Operand, OfTable, AreOperands, state_at, product_rule}
use Rattle.fort_tables.proofs.SelectionLaws.{present_from_test, test_from_present, AreSymbols-selected, symbol_kids-selected, FitsKid-selected, present_under, IsTuple-selected}
use Rattle.fort_tables.proofs.ProductLabels.{word_there, product_words, product_exact, full_word}
use Rattle.fort_target_lists.specs.LabelLists.{labels_at}
use Rattle.fort_products.specs.OperandRows.{IsOverWords, IsOperandEntry, IsFullWordAt}

-- the words of the labels of a product
tells : (sig : Signature) (n : ℕ) (first second : Operand) (labels : List (List ℕ)) (e : Entry) → AreOperands sig n first second → IsOverLabels sig n (label_of (product_rule n first second)) labels e
    → (q : ℕ) → q < length labels → (t : Tuple) × IsTuple sig n t × (get_or labels q [] ≡ product_words first second t)
tells sig n first second labels e o over q l =
    let r = over.are q l in
    (r.0, r.1, sym r.2 ∙ product_exact sig n first second o.first_is o.second_is r.0 r.1)

pub over_first : (sig : Signature) (n : ℕ) (first second : Operand) (labels : List (List ℕ)) (e : Entry) → AreOperands sig n first second → IsOverLabels sig n (label_of (product_rule n first second)) labels e → IsOverWords sig n first 1 labels e
over_first sig n first second labels e o over = record {
  entry = over.entry;
  operand = o.first_is;
  words = λ q l. let r = tells sig n first second labels e o over q l in (r.0, r.1, record { first = ap (λ w. get_or w 0 0) r.2; word = ap (λ w. get_or w 1 0) r.2 });
}

pub over_second : (sig : Signature) (n : ℕ) (first second : Operand) (labels : List (List ℕ)) (e : Entry) → AreOperands sig n first second → IsOverLabels sig n (label_of (product_rule n first second)) labels e → IsOverWords sig n second 2 labels e
over_second sig n first second labels e o over = record {
  entry = over.entry;
  operand = o.second_is;
  words = λ q l. let r = tells sig n first second labels e o over q l in (r.0, r.1, record { first = ap (λ w. get_or w 0 0) r.2; word = ap (λ w. get_or w 2 0) r.2 });
}

pub three_long : (sig : Signature) (n : ℕ) (first second : Operand) (labels : List (List ℕ)) (e : Entry) → AreOperands sig n first second → IsOverLabels sig n (label_of (product_rule n first second)) labels e → (q : ℕ) → q < length labels → length (get_or labels q []) ≡ 3
three_long sig n first second labels e o over q l = ap length (tells sig n first second labels e o over q l).2

three_words : (out : List ℕ) (a b d : ℕ) → length out ≡ 3 → slice_set (slice_set (slice_set out 0 a) 1 b) 2 d ≡ a ∷ b ∷ d ∷ []
three_words [] a b d h = absurd (omega arith)
three_words (x ∷ []) a b d h = absurd (omega arith)
three_words (x ∷ y ∷ []) a b d h = absurd (omega arith)
three_words (x ∷ y ∷ z ∷ []) a b d h = refl
three_words (x ∷ y ∷ z ∷ w ∷ out) a b d h = absurd (omega arith)

pub words_written : (out : List ℕ) (a b d x y z : ℕ) → length out ≡ 3 → a ≡ x → b ≡ y → d ≡ z → slice_set (slice_set (slice_set out 0 a) 1 b) 2 d ≡ x ∷ y ∷ z ∷ []
words_written out a b d x y z h p q r = three_words out a b d h ∙ (λ i. p i ∷ q i ∷ r i ∷ [])

-- over the operand's own signature
pub own_signature : (sig : Signature) (n : ℕ) (table : Table) (places : List ℕ) (i : ℕ) (labels : List (List ℕ)) (e : Entry) → IsOverWords sig n (OfTable table places) i labels e → IsOverWords table.signature n (OfTable table places) i labels e
own_signature sig n table places i labels e over = subst (λ (s : Signature). IsOverWords s n (OfTable table places) i labels e) (sym over.operand.0) over

-- Result
pub operand_entry : (n : ℕ) (table : Table) (places : List ℕ) (i : ℕ) (labels : List (List ℕ)) (e : Entry) → IsTable table → IsOverWords table.signature n (OfTable table places) i labels e → is_present (selected places e.symbol) ≡ true
    → IsOperandEntry table places i e (labels_at labels e.kids)
operand_entry n table places i labels e is over there =
    let sig = table.signature in
    let ws = labels_at labels e.kids in
    let f = selected places e.symbol in
    let m = symbol_kids sig f in
    let word : List ℕ → ℕ = state_at i in
    let lw : length ws ≡ length e.kids = length-map e.kids (λ q. get_or labels q []) in
    let less : m ≤ length ws = omega (arith, symbol_kids-selected sig places e.symbol, over.entry.count, lw) in
    let lt = length-take-le m ws less in
    let lm = length-map (take m ws) word in
    let syms = AreSymbols-selected sig places e.symbol over.entry.symbol.symbols in
    record {
      symbols = syms;
      count = less;
      entry = IsTableEntry-kid_states table (entry f (map word (take m ws))) is
          (record { width = length-map places (λ p. get_or e.symbol p None) ∙ over.operand.1.0; present = present_from_test f there; symbols = syms })
          (omega (arith, lm, lt))
          (λ j l.
          let a : j < m = omega (arith, lm, lt) in
          let b : j < length e.kids = omega (arith, less, lw) in
          let q = get_or e.kids j 0 in
          let inside : q < length labels = omega (arith, over.entry.within j b, length-map labels first_word) in
          let r = over.words q inside in
          let p : presence r.0 ≡ kid_presence sig e.symbol j = sym r.2.first ∙ (sym (get_or-map first_word labels q [] 0 inside) ∙ over.entry.presence j b) in
          let fits = FitsKid-selected sig places e.symbol j r.0 (fits_presence sig e.symbol j r.0 (r.1.width ∙ sym over.entry.symbol.width) p) in
          let here = present_under sig f j (selected places r.0) fits a in
          let at : get_or (map word (take m ws)) j 0 ≡ word (get_or labels q []) = get_or-map word (take m ws) j [] 0 (omega (arith, lt)) ∙ ap word (get_or-take m ws j [] a ∙ get_or-map (λ q. get_or labels q []) e.kids j 0 [] b) in
          let w : get_or (get_or labels q []) i 0 ≡ suc (state_of table (selected places r.0)) = r.2.word ∙ word_there table places r.0 (test_from_present (selected places r.0) here) in
          record { tuple = selected places r.0; is_tuple = subst (λ (c : ℕ). IsTuple sig c (selected places r.0)) over.operand.1.0 (IsTuple-selected sig places r.0 r.1.grounded here); fits = fits; state = omega (arith, at, w) });
    }

-- a state that a child's label tells is one of the table
pub state_small : (table : Table) (places : List ℕ) (i : ℕ) (labels : List (List ℕ)) (e : Entry) → IsOperandEntry table places i e (labels_at labels e.kids) → (j : ℕ) → j < symbol_kids table.signature (selected places e.symbol) → state_at i (get_or labels (get_or e.kids j 0) []) < length table.presences
state_small table places i labels e h j l =
    let ws = labels_at labels e.kids in
    let m = symbol_kids table.signature (selected places e.symbol) in
    let lw = length-map e.kids (λ q. get_or labels q []) in
    let lt = length-take-le m ws h.count in
    let lm = length-map (take m ws) (state_at i) in
    let x = h.entry.within j (omega (arith, lm, lt)) in
    let at : get_or (map (state_at i) (take m ws)) j 0 ≡ state_at i (get_or labels (get_or e.kids j 0) []) =
    get_or-map (state_at i) (take m ws) j [] 0 (omega (arith, lt)) ∙ ap (state_at i) (get_or-take m ws j [] (omega arith) ∙ get_or-map (λ q. get_or labels q []) e.kids j 0 [] (omega (arith, h.count, lw))) in
    omega (arith, x, at)

-- the same where the columns and their symbol were read
pub entry_read : (sig : Signature) (n : ℕ) (table : Table) (places : List ℕ) (i : ℕ) (labels : List (List ℕ)) (e : Entry) (s f : TupleSymbol) → IsTable table → IsOverWords sig n (OfTable table places) i labels e → s ≡ e.symbol → f ≡ selected places s → is_present f ≡ true
    → (f ≡ selected places e.symbol) × IsOperandEntry table places i e (labels_at labels e.kids)
entry_read sig n table places i labels e s f is over p q there =
    let same : f ≡ selected places e.symbol = q ∙ ap (selected places) p in
    (same, operand_entry n table places i labels e is (own_signature sig n table places i labels e over) (ap is_present (sym same) ∙ there))

-- what is read of an operand's entry
pub kids_read : (table : Table) (places : List ℕ) (i : ℕ) (labels : List (List ℕ)) (e : Entry) (z : Signature) (f : TupleSymbol) (count : ℕ) → f ≡ selected places e.symbol → z ≡ table.signature → count ≡ symbol_kids z f → count ≡ symbol_kids table.signature (selected places e.symbol)
kids_read table places i labels e z f count p s k = k ∙ (λ j. symbol_kids (s j) (p j))

pub entry_made : (table : Table) (places : List ℕ) (i : ℕ) (labels : List (List ℕ)) (e : Entry) (f : TupleSymbol) (count : ℕ) (states : List ℕ) → f ≡ selected places e.symbol → count ≡ symbol_kids table.signature (selected places e.symbol) → states ≡ map (state_at i) (take count (labels_at labels e.kids))
    → entry (selected places e.symbol) (map (state_at i) (take (symbol_kids table.signature (selected places e.symbol)) (labels_at labels e.kids))) ≡ entry f states
entry_made table places i labels e f count states p k s =
    let same = sym (s ∙ ap (λ n. map (state_at i) (take n (labels_at labels e.kids))) k) in
    λ j. entry (sym p j) (same j)

-- the words of the label of a tuple of terms
pub full_first : (sig : Signature) (n : ℕ) (first second : Operand) (w : List ℕ) → AreOperands sig n first second → IsFullLabel sig n (label_of (product_rule n first second)) w → IsFullWordAt first 1 w
full_first sig n first second w o h =
    let e = sym h.3 ∙ product_exact sig n first second o.first_is o.second_is h.0 h.1 in
    record { signature = sig; columns = n; operand = o.first_is; tuple = h.0; is_tuple = h.1; full = h.2; word = ap (λ z. get_or z 1 0) e }

pub full_second : (sig : Signature) (n : ℕ) (first second : Operand) (w : List ℕ) → AreOperands sig n first second → IsFullLabel sig n (label_of (product_rule n first second)) w → IsFullWordAt second 2 w
full_second sig n first second w o h =
    let e = sym h.3 ∙ product_exact sig n first second o.first_is o.second_is h.0 h.1 in
    record { signature = sig; columns = n; operand = o.second_is; tuple = h.0; is_tuple = h.1; full = h.2; word = ap (λ z. get_or z 2 0) e }

-- the state that such a word tells is one of the table
pub full_state_small : (table : Table) (places : List ℕ) (i : ℕ) (w : List ℕ) → IsTable table → IsFullWordAt (OfTable table places) i w → state_at i w < length table.presences
full_state_small table places i w is h =
    let t = selected places h.tuple in
    let r = full_word h.signature h.columns table places h.tuple h.is_tuple h.full (omega (arith, h.operand.1.0, is.some)) h.operand.1.1 in
    let own : IsTuple table.signature table.columns t = subst (λ (s : Signature). IsTuple s table.columns t) (sym h.operand.0) (subst (λ (c : ℕ). IsTuple h.signature c t) h.operand.1.0 r.tuple) in
    omega (arith, (table_state table is t own).within, h.word, r.word)
