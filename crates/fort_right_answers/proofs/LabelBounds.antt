-- The labels of each kind of part are of bounded words: atoms, products, projections, counts.
use Rattle.std.proofs.Common.{◌≡◌, ℕ, zero, suc, ◌+◌, ◌-◌, ◌*◌, ◌^◌, ◌<◌, List, [], ◌∷◌, map, length, None, Some, get_or, Bool, true, false, if◌then◌else◌, refl, ap, sym, ◌∙◌, arith, subst}
use Rattle.std.specs.List.{insert}
use Rattle.fort_theory.specs.Trees.{Tree}
use Rattle.fort_theory.specs.Signatures.{Signature}
use Rattle.fort_theory.specs.Patterns.{Pattern}
use Rattle.fort_tables.specs.Tuples.{Tuple, root, kids, presence, IsTuple}
use Rattle.fort_tables.specs.Tables.{Table, IsTable, IsReached, state_of}
use Rattle.fort_tables.specs.LabelRules.{label_of}
use Rattle.fort_tables.specs.BitRows.{bit_row, words_for}
use Rattle.fort_tables.proofs.BitRowLaws.{AreWords-bit_row}
use Rattle.fort_tables.proofs.LabelRuleLaws.{label_of-step, HasWidth-rule}
use Rattle.fort_tables.proofs.PresenceLaws.{presence_bound}
use Rattle.fort_tables.proofs.TableLaws.{presence_root, table_state}
use Rattle.fort_alike.specs.AtomRules.{atom_rule, bit_in, mark_step, marks_of}
use Rattle.fort_alike.specs.Alike.{is_reaching}
use Rattle.fort_alike.specs.ListedAtoms.{ListedAtom}
use Rattle.fort_alike.specs.Subterms.{subterms}
use Rattle.fort_alike.specs.TermRule.{same_tree, one_further, number_in, number_of, term_rule}
use Rattle.fort_alike.proofs.RuleLaws.{HasWidth-atom}
use Rattle.fort_alike.proofs.SubtermLaws.{children_among}
use Rattle.fort_alike.proofs.TermLabels.{TellsNumber-tuple}
use Rattle.fort_tables.specs.Selections.{selected, is_present}
use Rattle.fort_tables.specs.Products.{Operand, OfTable, OfTruth, IsOperand, IsLawful, signature_of, operand_word, product_rule}
use Rattle.fort_tables.specs.Projections.{absent_state, gives, project_rule}
use Rattle.fort_tables.proofs.CompletedTuples.{absent_small}
use Rattle.fort_tables.proofs.ProductLabels.{word_there, word_none, product_exact}
use Rattle.fort_tables.proofs.ProjectLabels.{label_exact, length-project_rule}
use Rattle.fort_tables.proofs.SelectionLaws.{IsTuple-selected, present_from_test}
use Rattle.fort_tables.specs.ManyLabels.{many_bit, many_rule}
use Rattle.fort_tables.proofs.ManyLabelLaws.{label_told, length-many_rule}
use Rattle.fort_right_answers.proofs.AllLabels.{AreBelow, IsBounded}

-- above words of bits, presences of so many columns, and numbers below m
word_bound : (columns m : ℕ) → ℕ
word_bound columns m = 2 ^ 64 + (2 ^ columns + m)

presence_below : (sig : Signature) (n m : ℕ) (t : Tuple) → IsTuple sig n t → presence t < word_bound n m
unfolding word_bound
presence_below sig n m t h =
    let low : presence t < 2 ^ n = subst (λ k. presence t < 2 ^ k) h.width (presence_bound t) in
    more (2 ^ 64) (2 ^ n) (presence t) low
  where
    more : (a b x : ℕ) → x < b → x < a + (b + m)
    more a b x l = omega arith

number_below : (n m x : ℕ) → x < m → x < word_bound n m
unfolding word_bound
number_below n m x l = more (2 ^ 64) (2 ^ n)
  where
    more : (a b : ℕ) → x < a + (b + m)
    more a b = omega arith

below_from : (bound : ℕ) (w : List ℕ) → ((i : ℕ) → i < length w → get_or w i 0 < bound) → AreBelow bound w
below_from bound [] h = tt
below_from bound (x ∷ w) h = (h 0 (omega arith), below_from bound w (λ i l. h (suc i) (omega arith)))

bits_below : (n m k : ℕ) (p : ℕ → Bool) → AreBelow (word_bound n m) (bit_row k p)
unfolding word_bound
bits_below n m k p = below_from (word_bound n m) (bit_row k p) (λ i l. more (2 ^ 64) (get_or (bit_row k p) i 0) (AreWords-bit_row k p i l))
  where
    more : (a x : ℕ) → x < a → x < a + (2 ^ n + m)
    more a x l = omega arith

-- ---- atoms

pub IsBounded-atom : (a : ListedAtom) (closure : Pattern → Pattern → Bool) → IsBounded (atom_rule a closure)
IsBounded-atom a closure =
    let r = atom_rule a closure in
    let bound = word_bound a.atom.columns 0 in
    record {
      width = suc (words_for (length (marks_of a)));
      bound = bound;
      wide = HasWidth-atom a closure;
      below = λ t h.
          let marks =
          mark_step (is_reaching a.atom.kind) (bit_in a) a.atom.pairs closure (get_or (root t) a.atom.first None) (get_or (root t) a.atom.second None)
          (map (label_of r) (kids t)) in
          subst (AreBelow bound) (sym (label_of-step r t)) (
            subst (λ n. n < bound) (sym (presence_root t)) (presence_below a.atom.signature a.atom.columns 0 t h),
            bits_below a.atom.columns 0 (length (marks_of a)) (λ k. get_or (map marks (marks_of a)) k false),
          );
    }

number_in-low : (xs : List Tree) (v : Tree) → number_in xs v < suc (length xs)
number_in-low [] v = omega arith
number_in-low (x ∷ xs) v = by (same_tree x v) (number_in xs v) (number_in-low xs v)
  where
    by : (b : Bool) (n : ℕ) → n < suc (length xs) → (if b then 1 else one_further n) < suc (length (x ∷ xs))
    by true n l = omega arith
    by false zero l = omega arith
    by false (suc n) l = omega arith

number_of-low : (xs : List Tree) (t : Tuple) → number_of xs (get_or t 0 None) < suc (length xs)
number_of-low xs t = elim (get_or t 0 None) as (λ x. number_of xs x < suc (length xs)) [ None ↦ omega arith | Some v ↦ number_in-low xs v ]

pub IsBounded-term : (sig : Signature) (term : Tree) → IsBounded (term_rule sig (subterms term))
IsBounded-term sig term =
    let listed = subterms term in
    let m = suc (length listed) in
    record {
      width = 2;
      bound = word_bound 1 m;
      wide = HasWidth-rule sig (term_rule sig listed) 2 (λ f ws. refl);
      below = λ t h.
          subst (AreBelow (word_bound 1 m)) (sym (TellsNumber-tuple sig listed (children_among term) t h))
          (presence_below sig 1 m t h, (number_below 1 m (number_of listed (get_or t 0 None)) (number_of-low listed t), tt));
    }

-- ---- products

-- more than an operand's words
abbrev states_of : Operand → ℕ
states_of (OfTable table places) = suc (length table.presences)
states_of (OfTruth b) = 1

operand_word-low : (sig : Signature) (n : ℕ) (o : Operand) (t : Tuple) → IsOperand sig n o → IsLawful o → IsTuple sig n t → operand_word o t < states_of o
operand_word-low sig n (OfTruth b) t o lawful h = omega arith
operand_word-low sig n (OfTable table places) t o lawful h = by (is_present (selected places t)) refl
  where
    by : (b : Bool) → is_present (selected places t) ≡ b → operand_word (OfTable table places) t < suc (length table.presences)
    by false e = let z = word_none table places t e in omega arith
    by true e =
        let s = selected places t in
        let is : IsTuple table.signature table.columns s =
        subst (λ (z : Signature). IsTuple z table.columns s) (sym o.0)
        (subst (λ k. IsTuple sig k s) o.1.0 (IsTuple-selected sig places t h.grounded (present_from_test s e))) in
        omega (arith, word_there table places t e, (table_state table lawful.0 s is).within)

pub IsBounded-product : (n : ℕ) (first second : Operand) → IsOperand (signature_of first second) n first → IsOperand (signature_of first second) n second → IsLawful first → IsLawful second
    → IsBounded (product_rule n first second)
IsBounded-product n first second o p lawful also =
    let sig = signature_of first second in
    let m = states_of first + states_of second in
    record {
      width = 3;
      bound = word_bound n m;
      wide = HasWidth-rule sig (product_rule n first second) 3 (λ f ws. refl);
      below = λ t h.
          subst (AreBelow (word_bound n m)) (sym (product_exact sig n first second o p t h)) (
            presence_below sig n m t h,
            (
              number_below n m (operand_word first t) (omega (arith, operand_word-low sig n first t o lawful h)),
              (number_below n m (operand_word second t) (omega (arith, operand_word-low sig n second t p also h)), tt),
            ),
          );
    }

-- ---- a column that ranges over all terms

-- the presence, the body's state with the column absent, and bits
states_below : (body : Table) (c : ℕ) → IsTable body → c < body.columns → (t : Tuple) → IsTuple body.signature (body.columns - 1) t → (w : List ℕ) (x k : ℕ) (p : ℕ → Bool)
    → w ≡ presence (root t) ∷ x ∷ bit_row k p → absent_state w ≡ state_of body (insert t c None) → AreBelow (word_bound (body.columns - 1) (length body.presences)) w
states_below body c is low t h w x k p e absent =
    let n = body.columns - 1 in
    let m = length body.presences in
    let same : x ≡ state_of body (insert t c None) = sym (ap absent_state e) ∙ absent in
    subst (AreBelow (word_bound n m)) (sym e) (
      subst (λ y. y < word_bound n m) (sym (presence_root t)) (presence_below body.signature n m t h),
      (number_below n m x (omega (arith, same, absent_small body c t is low h)), bits_below n m k p),
    )

pub IsBounded-project : (body : Table) (c : ℕ) → IsTable body → IsReached body → c < body.columns → IsBounded (project_rule body c)
IsBounded-project body c is reached low = record {
  width = words_for (length body.presences) + 2;
  bound = word_bound (body.columns - 1) (length body.presences);
  wide = HasWidth-rule body.signature (project_rule body c) (words_for (length body.presences) + 2) (length-project_rule body c);
  below = λ t h.
      states_below body c is low t h (label_of (project_rule body c) t) _ (length body.presences)
      (gives body c (root t) (map (label_of (project_rule body c)) (kids t))) (label_of-step (project_rule body c) t) (label_exact body c is reached low t h).absent;
}

pub IsBounded-many : (body : Table) (c : ℕ) (many : ℕ → Bool) → IsTable body → IsReached body → c < body.columns → IsBounded (many_rule body c many)
IsBounded-many body c many is reached low = record {
  width = words_for (2 * length body.presences) + 2;
  bound = word_bound (body.columns - 1) (length body.presences);
  wide = HasWidth-rule body.signature (many_rule body c many) (words_for (2 * length body.presences) + 2) (length-many_rule body c many);
  below = λ t h.
      states_below body c is low t h (label_of (many_rule body c many) t) _ (2 * length body.presences)
      (many_bit body c many (root t) (map (label_of (many_rule body c many)) (kids t))) (label_of-step (many_rule body c many) t) (label_told body c many is reached low t h).absent;
}
