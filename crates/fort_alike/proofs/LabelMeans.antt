-- The labels of an atom of a relation expression: each bit is right, two tuples have one label exactly where they are alike, and the accepted labels are those of the atom.
use Rattle.std.specs.Prelude.{◌≡◌, ◌↔◌, ◌⊎◌, ℕ, suc, ◌<◌, ◌≤◌, List, [], ◌∷◌, map, length, Option, None, Some, get_or, Contains, Bool, Decides, ◌||◌, refl}
use Rattle.std.proofs.Common.{sym, ap, subst, ◌∙◌, arith, inl, inr}
use Rattle.std.proofs.lemmas.List.{length-map, get_or-map}
use Rattle.std.proofs.lemmas.List.Elements.{Contains-append_right}
use Rattle.std.proofs.lemmas.Bool.Decides.{Decides-at, Decides-or}
use Rattle.fort_theory.specs.Trees.{Tree}
use Rattle.fort_theory.specs.Signatures.{Signature, most_columns}
use Rattle.fort_theory.specs.Rewriting.{Relation}
use Rattle.fort_theory.proofs.Members.{Contains-head}
use Rattle.fort_tables.specs.Tuples.{Tuple, TupleSymbol, root, kid, kids, kid_count, presence, IsTuple}
use Rattle.fort_tables.specs.Labels.{first_word, HasWidth, HasMoreLabels}
use Rattle.fort_tables.specs.BitRows.{words_for}
use Rattle.fort_tables.specs.LabelRules.{label_of, IsLabelRule}
use Rattle.fort_tables.specs.OneColumn.{column_root, column_kid}
use Rattle.fort_tables.proofs.TupleLaws.{length-tabulate, get_or-tabulate, tuple_induction, fold_tuple-step, IsTuple-kid}
use Rattle.fort_tables.proofs.TableLaws.{presence_root}
use Rattle.fort_tables.proofs.LabelRuleLaws.{HasWidth-rule}
use Rattle.fort_alike.specs.Atoms.{OfOne, OfTwo}
use Rattle.fort_alike.specs.UnlikeTuples.{IsOver}
use Rattle.fort_alike.proofs.OverLabels.{HasMoreLabels-IsOver}
use Rattle.fort_alike.specs.ListedAtoms.{AreArguments}
use Rattle.fort_alike.proofs.Bits.{Decides-iff, iff_from_same, same_from_iff}
use Rattle.fort_alike.proofs.Kids.{GroundAt}
use Rattle.fort_alike.proofs.NodeMarks.{iff_same, IsExact}
use Rattle.fort_alike.proofs.ArgumentColumns.{column_root-root, column_kid-kid, GroundAt-column, kid_count-arguments}
use Rattle.fort_theory.specs.Contexts.{HoleNumber, OneHole, SomeHoles, AnyHoles, HolePlace, AtTheRoot, BelowTheRoot, AnyPlace, HoldsInContext}
use Rattle.fort_theory.specs.Conditions.{MeetsLeft, MeetsRight}
use Rattle.fort_reachability.specs.CompiledNumbers.{SameOnGround}
use Rattle.fort_theory.proofs.ContextLaws.{one-at_root, some-at_root, any-at_root}
use Rattle.fort_alike.specs.ExpressionAlike.{ExpressionAtom, meaning_of, first_of, second_of, IsTrueOf, PairFact, Same, Anywhere, Below, PairFactHolds, facts_anywhere, facts_for, AlikeAtExpression}
use Rattle.fort_alike.specs.ExpressionStates.{Truths, ExpressionStates}
use Rattle.fort_alike.specs.ConditionStates.{AreConditions}
use Rattle.fort_alike.specs.ExpressionRules.{ExpressionShape, shape_of, bit_count, left_bit, right_bit, some_pair, fact_step, facts_of, bit_of, left_step, right_step, label_row, node_row, expression_rule, accepts_at, expression_accepts}
use Rattle.fort_alike.proofs.LabelBits.{left_bit-row, right_bit-row, fact_bit-row, label_row-same, length-label_row}
use Rattle.fort_alike.proofs.NodeFacts.{Decides-states_at, Decides-root, Decides-fact_step}

module _ (a : ExpressionAtom) (states : ExpressionStates) where
  abbrev label : Tuple → List ℕ
  label t = label_of (expression_rule a.system.signature (shape_of a) states) t

  abbrev kid_labels : Tuple → List (List ℕ)
  kid_labels t = map label (kids t)

  abbrev lefts : Tuple → Truths
  lefts t = left_step states (column_root (first_of a t)) (kid_labels t)

  abbrev rights : Tuple → Truths
  rights t = right_step states (column_root (second_of a t)) (kid_labels t)

  abbrev fact_at : Tuple → PairFact → Bool
  fact_at t k = fact_step (bit_of (shape_of a) states) (some_pair (lefts t) (rights t) states.pairs) (column_root (first_of a t)) (column_root (second_of a t)) (kid_labels t) k

  label-is_row : (t : Tuple) → label t ≡ label_row states.left.count states.right.count (facts_of (shape_of a)) (presence t) (lefts t) (rights t) (fact_at t)
  label-is_row t =
      fold_tuple-step (expression_rule a.system.signature (shape_of a) states).step t
      ∙ (ap (λ n. node_row (shape_of a) states n (get_or (root t) a.first None) (get_or (root t) a.second None) (kid_labels t)) (presence_root t)
      ∙ (ap (λ z. node_row (shape_of a) states (presence t) z (get_or (root t) a.second None) (kid_labels t)) (column_root-root t a.first)
      ∙ ap (λ z. node_row (shape_of a) states (presence t) (column_root (first_of a t)) z (kid_labels t)) (column_root-root t a.second)))

  left_bit-label : (t : Tuple) (k : ℕ) → k < states.left.count → left_bit (label t) k ≡ lefts t k
  left_bit-label t k l =
      ap (λ w. left_bit w k) (label-is_row t) ∙ left_bit-row states.left.count states.right.count (facts_of (shape_of a)) (presence t) (lefts t) (rights t) (fact_at t) k l

  right_bit-label : (t : Tuple) (k : ℕ) → k < states.right.count → right_bit states.left.count (label t) k ≡ rights t k
  right_bit-label t k l =
      ap (λ w. right_bit states.left.count w k) (label-is_row t)
      ∙ right_bit-row states.left.count states.right.count (facts_of (shape_of a)) (presence t) (lefts t) (rights t) (fact_at t) k l

  fact_bit-label : (t : Tuple) (m : PairFact) → Contains (facts_of (shape_of a)) m → bit_of (shape_of a) states m (label t) ≡ fact_at t m
  fact_bit-label t m c =
      ap (bit_of (shape_of a) states m) (label-is_row t) ∙ fact_bit-row states.left.count states.right.count (facts_of (shape_of a)) (presence t) (lefts t) (rights t) (fact_at t) m c

  first_word-label : (t : Tuple) → first_word (label t) ≡ presence t
  first_word-label t = ap first_word (label-is_row t)

  module _ (LeftHolds RightHolds : ℕ → Tree → Type 0) where
    -- the bits of a label are right
    pub record BitsRight (t : Tuple) : Type 0 where
      pub left : (k : ℕ) → k < states.left.count → Decides (left_bit (label t) k) (OfOne (LeftHolds k) (first_of a t))
      pub right : (k : ℕ) → k < states.right.count → Decides (right_bit states.left.count (label t) k) (OfOne (RightHolds k) (second_of a t))
      pub fact : (m : PairFact) → Contains (facts_of (shape_of a)) m → Decides (bit_of (shape_of a) states m (label t)) (OfTwo (PairFactHolds (meaning_of a) m) (first_of a t) (second_of a t))

    module _ (arguments : AreArguments a.columns a.first a.second) (are : AreConditions a.system a.expression LeftHolds RightHolds states) where
      label-kid : (t : Tuple) (j : ℕ) → j < kid_count t → get_or (kid_labels t) j [] ≡ label (kid t j)
      label-kid t j l =
          let n : length (kids t) ≡ kid_count t = length-tabulate (kid_count t) (kid t) in
          get_or-map label (kids t) j [] [] (omega arith) ∙ ap label (get_or-tabulate (kid_count t) (kid t) j [] l)

      length-labels : (t : Tuple) → length (kid_labels t) ≡ kid_count t
      length-labels t = length-map (kids t) label ∙ length-tabulate (kid_count t) (kid t)

      -- the bits of a child
      left-kid : (t : Tuple) (j : ℕ) → j < kid_count t → BitsRight (kid t j) → (k : ℕ) → k < states.left.count
          → Decides (left_bit (get_or (kid_labels t) j []) k) (OfOne (LeftHolds k) (column_kid (first_of a t) j))
      left-kid t j l h k low =
          subst (λ w. Decides (left_bit w k) (OfOne (LeftHolds k) (column_kid (first_of a t) j))) (sym (label-kid t j l))
          (subst (λ z. Decides (left_bit (label (kid t j)) k) (OfOne (LeftHolds k) z)) (column_kid-kid t a.first j) (h.left k low))

      right-kid : (t : Tuple) (j : ℕ) → j < kid_count t → BitsRight (kid t j) → (k : ℕ) → k < states.right.count
          → Decides (right_bit states.left.count (get_or (kid_labels t) j []) k) (OfOne (RightHolds k) (column_kid (second_of a t) j))
      right-kid t j l h k low =
          subst (λ w. Decides (right_bit states.left.count w k) (OfOne (RightHolds k) (column_kid (second_of a t) j))) (sym (label-kid t j l))
          (subst (λ z. Decides (right_bit states.left.count (label (kid t j)) k) (OfOne (RightHolds k) z)) (column_kid-kid t a.second j) (h.right k low))

      fact-kid : (t : Tuple) (j : ℕ) → j < kid_count t → BitsRight (kid t j) → (m : PairFact) → Contains (facts_of (shape_of a)) m
          → Decides (bit_of (shape_of a) states m (get_or (kid_labels t) j [])) (OfTwo (PairFactHolds (meaning_of a) m) (column_kid (first_of a t) j) (column_kid (second_of a t) j))
      fact-kid t j l h m c =
          subst (λ w. Decides (bit_of (shape_of a) states m w) (OfTwo (PairFactHolds (meaning_of a) m) (column_kid (first_of a t) j) (column_kid (second_of a t) j)))
          (sym (label-kid t j l))
          (subst (λ z. Decides (bit_of (shape_of a) states m (label (kid t j))) (OfTwo (PairFactHolds (meaning_of a) m) (column_kid (first_of a t) j) z)) (column_kid-kid t a.second j)
          (subst (λ z. Decides (bit_of (shape_of a) states m (label (kid t j))) (OfTwo (PairFactHolds (meaning_of a) m) z (get_or (kid t j) a.second None))) (column_kid-kid t a.first j)
          (h.fact m c)))

      exact-kids : (t : Tuple) → IsTuple a.system.signature a.columns t → IsExact (kid_labels t) (first_of a t) (second_of a t)
      exact-kids t u = length-labels t ∙ kid_count-arguments t a.first a.second (subst (λ n. AreArguments n a.first a.second) (sym u.width) arguments)

      bits_right-step : (t : Tuple) → IsTuple a.system.signature a.columns t → ((j : ℕ) → j < kid_count t → BitsRight (kid t j)) → BitsRight t
      bits_right-step t u ih =
          let gx = GroundAt-column a.system.signature t a.first u.grounded in
          let gy = GroundAt-column a.system.signature t a.second u.grounded in
          let exact = exact-kids t u in
          let ls : (k : ℕ) → k < states.left.count → Decides (lefts t k) (OfOne (LeftHolds k) (first_of a t)) =
          λ k low. Decides-states_at a.system.signature LeftHolds states.left are.left_steps left_bit (first_of a t) (kid_labels t) gx (omega (arith, exact))
          (λ j l i lo. let n : j < kid_count t = omega (arith, length-labels t) in left-kid t j n (ih j n) i lo) k low in
          let rs : (k : ℕ) → k < states.right.count → Decides (rights t k) (OfOne (RightHolds k) (second_of a t)) =
          λ k low. Decides-states_at a.system.signature RightHolds states.right are.right_steps (right_bit states.left.count) (second_of a t) (kid_labels t) gy (omega (arith, exact))
          (λ j l i lo. let n : j < kid_count t = omega (arith, length-labels t) in right-kid t j n (ih j n) i lo) k low in
          let at_root = Decides-root a.system.signature (meaning_of a) LeftHolds RightHolds states.pairs are.relates (lefts t) (rights t) (first_of a t) (second_of a t) gx gy
          (λ p c. ls p.0 (are.pairs_low p c).0) (λ p c. rs p.1 (are.pairs_low p c).1) in
          record {
            left = λ k low. Decides-at (left_bit (label t) k) (lefts t k) (left_bit-label t k low) (ls k low);
            right = λ k low. Decides-at (right_bit states.left.count (label t) k) (rights t k) (right_bit-label t k low) (rs k low);
            fact = λ m c. Decides-at (bit_of (shape_of a) states m (label t)) (fact_at t m) (fact_bit-label t m c)
                (Decides-fact_step (bit_of (shape_of a) states) (meaning_of a) (kid_labels t) a.system.signature (first_of a t) (second_of a t) gx gy exact
                (some_pair (lefts t) (rights t) states.pairs) at_root a.number a.place
                (λ k d j l. let n : j < kid_count t = omega (arith, length-labels t) in fact-kid t j n (ih j n) k d) m c);
          }

      pub bits_right : (t : Tuple) → IsTuple a.system.signature a.columns t → BitsRight t
      bits_right = tuple_induction (λ t. IsTuple a.system.signature a.columns t → BitsRight t)
          (λ t ih u. bits_right-step t u (λ j l. ih j l (IsTuple-kid a.system.signature a.columns t j u l)))

      -- one state of a component, and the condition that it is
      one-state : (P Q : Tree → Type 0) → SameOnGround a.system.signature P Q → (x y : Option Tree) → GroundAt a.system.signature x → GroundAt a.system.signature y
          → OfOne P x ↔ OfOne P y → OfOne Q x ↔ OfOne Q y
      one-state P Q same None None gx gy h = h
      one-state P Q same None (Some t) gx gy h = ((λ e. absurd e), (λ q. h.1 ((same t gy).1 q)))
      one-state P Q same (Some s) None gx gy h = ((λ q. h.0 ((same s gx).1 q)), (λ e. absurd e))
      one-state P Q same (Some s) (Some t) gx gy h = ((λ q. (same t gy).0 (h.0 ((same s gx).1 q))), (λ q. (same s gx).0 (h.1 ((same t gy).1 q))))

      back : (P Q : Tree → Type 0) → SameOnGround a.system.signature P Q → SameOnGround a.system.signature Q P
      back P Q same t g = ((same t g).1, (same t g).0)

      label-own_row : (t : Tuple) → label t
          ≡ label_row states.left.count states.right.count (facts_of (shape_of a)) (presence t) (left_bit (label t)) (right_bit states.left.count (label t)) (λ m. bit_of (shape_of a) states m (label t))
      label-own_row t = label-is_row t
          ∙ label_row-same states.left.count states.right.count (facts_of (shape_of a)) (lefts t) (rights t) (left_bit (label t)) (right_bit states.left.count (label t)) (fact_at t)
          (λ m. bit_of (shape_of a) states m (label t)) (λ k l. sym (left_bit-label t k l)) (λ k l. sym (right_bit-label t k l)) (λ m c. sym (fact_bit-label t m c))
          (presence t) (presence t) refl

      -- two tuples have one label exactly where they are alike
      pub labels_alike : (t u : Tuple) → IsTuple a.system.signature a.columns t → IsTuple a.system.signature a.columns u
          → (label t ≡ label u) ↔ AlikeAtExpression a t u
      labels_alike t u ti ui =
          let bt = bits_right t ti in
          let bu = bits_right u ui in
          let gxt = GroundAt-column a.system.signature t a.first ti.grounded in
          let gxu = GroundAt-column a.system.signature u a.first ui.grounded in
          let gyt = GroundAt-column a.system.signature t a.second ti.grounded in
          let gyu = GroundAt-column a.system.signature u a.second ui.grounded in (
            (λ e. record {
              present = sym (first_word-label t) ∙ (ap first_word e ∙ first_word-label u);
              firsts = λ c.
                  let w = are.left_state c in
                  one-state (LeftHolds w.0) (MeetsLeft a.system a.expression c) w.2 (first_of a t) (first_of a u) gxt gxu
                  (iff_from_same (left_bit (label t) w.0) (left_bit (label u) w.0) (bt.left w.0 w.1) (bu.left w.0 w.1) (ap (λ v. left_bit v w.0) e));
              seconds = λ c.
                  let w = are.right_state c in
                  one-state (RightHolds w.0) (MeetsRight a.system a.expression c) w.2 (second_of a t) (second_of a u) gyt gyu
                  (iff_from_same (right_bit states.left.count (label t) w.0) (right_bit states.left.count (label u) w.0) (bt.right w.0 w.1) (bu.right w.0 w.1)
                  (ap (λ v. right_bit states.left.count v w.0) e));
              facts = λ m c. iff_from_same (bit_of (shape_of a) states m (label t)) (bit_of (shape_of a) states m (label u)) (bt.fact m c) (bu.fact m c) (ap (bit_of (shape_of a) states m) e);
            }),
            (λ h.
                label-own_row t
                ∙ (label_row-same states.left.count states.right.count (facts_of (shape_of a)) (left_bit (label t)) (right_bit states.left.count (label t)) (left_bit (label u))
                (right_bit states.left.count (label u)) (λ m. bit_of (shape_of a) states m (label t)) (λ m. bit_of (shape_of a) states m (label u))
                (λ k l.
                let w = are.left_condition k l in
                same_from_iff (left_bit (label t) k) (left_bit (label u) k) (bt.left k l) (bu.left k l)
                (one-state (MeetsLeft a.system a.expression w.0) (LeftHolds k) (back (LeftHolds k) (MeetsLeft a.system a.expression w.0) w.1) (first_of a t) (first_of a u) gxt gxu
                (h.firsts w.0)))
                (λ k l.
                let w = are.right_condition k l in
                same_from_iff (right_bit states.left.count (label t) k) (right_bit states.left.count (label u) k) (bt.right k l) (bu.right k l)
                (one-state (MeetsRight a.system a.expression w.0) (RightHolds k) (back (RightHolds k) (MeetsRight a.system a.expression w.0) w.1) (second_of a t) (second_of a u) gyt gyu
                (h.seconds w.0)))
                (λ m c. same_from_iff (bit_of (shape_of a) states m (label t)) (bit_of (shape_of a) states m (label u)) (bt.fact m c) (bu.fact m c) (h.facts m c))
                (presence t) (presence u) h.present
                ∙ sym (label-own_row u))),
          )

      -- acceptance
      OfTwo-each : (R S : Relation) (x y : Option Tree) → ((s t : Tree) → R s t ↔ S s t) → OfTwo R x y ↔ OfTwo S x y
      OfTwo-each R S None y h = iff_same
      OfTwo-each R S (Some s) None h = iff_same
      OfTwo-each R S (Some s) (Some t) h = h s t

      iff_back : {A B : Type 0} → A ↔ B → B ↔ A
      iff_back v = (v.1, v.0)

      OfTwo-or_equal : (R : Relation) (x y : Option Tree) → (OfTwo R x y ⊎ OfTwo ◌≡◌ x y) ↔ OfTwo (HoldsInContext R AnyHoles AtTheRoot) x y
      OfTwo-or_equal R None y = ((λ s. elim s [ inl e ↦ e | inr e ↦ e ]), (λ e. absurd e))
      OfTwo-or_equal R (Some s) None = ((λ s. elim s [ inl e ↦ e | inr e ↦ e ]), (λ e. absurd e))
      OfTwo-or_equal R (Some s) (Some t) = iff_back (any-at_root R s t)

      Decides-accepts_at : (number : HoleNumber) (place : HolePlace) (fact : PairFact → Bool) (at_root : Bool) (x y : Option Tree) → Decides at_root (OfTwo (meaning_of a) x y)
          → ((m : PairFact) → Contains (facts_for number place) m → Decides (fact m) (OfTwo (PairFactHolds (meaning_of a) m) x y))
          → Decides (accepts_at fact at_root number place) (OfTwo (HoldsInContext (meaning_of a) number place) x y)
      Decides-accepts_at OneHole AtTheRoot fact at_root x y d h =
          Decides-iff at_root (OfTwo-each (meaning_of a) (HoldsInContext (meaning_of a) OneHole AtTheRoot) x y (λ s t. iff_back (one-at_root (meaning_of a) s t))) d
      Decides-accepts_at SomeHoles AtTheRoot fact at_root x y d h =
          Decides-iff at_root (OfTwo-each (meaning_of a) (HoldsInContext (meaning_of a) SomeHoles AtTheRoot) x y (λ s t. iff_back (some-at_root (meaning_of a) s t))) d
      Decides-accepts_at AnyHoles AtTheRoot fact at_root x y d h =
          Decides-iff (at_root || fact Same) (OfTwo-or_equal (meaning_of a) x y) (Decides-or at_root (fact Same) d (h Same (0, omega arith, refl)))
      Decides-accepts_at number BelowTheRoot fact at_root x y d h =
          h (Below number) (Contains-append_right (facts_anywhere number) (Below number ∷ []) (Below number) (Contains-head (Below number) []))
      Decides-accepts_at OneHole AnyPlace fact at_root x y d h = h (Anywhere OneHole) (1, omega arith, refl)
      Decides-accepts_at SomeHoles AnyPlace fact at_root x y d h = h (Anywhere SomeHoles) (1, omega arith, refl)
      Decides-accepts_at AnyHoles AnyPlace fact at_root x y d h = h (Anywhere AnyHoles) (0, omega arith, refl)

      -- a label is accepted exactly where both arguments are there and the atom holds of them
      pub Decides-expression_accepts : (t : Tuple) → IsTuple a.system.signature a.columns t → Decides (expression_accepts (shape_of a) states (label t)) (IsTrueOf a t)
      Decides-expression_accepts t u =
          let b = bits_right t u in
          Decides-accepts_at a.number a.place (λ m. bit_of (shape_of a) states m (label t))
          (some_pair (left_bit (label t)) (right_bit states.left.count (label t)) states.pairs) (first_of a t) (second_of a t)
          (Decides-root a.system.signature (meaning_of a) LeftHolds RightHolds states.pairs are.relates (left_bit (label t)) (right_bit states.left.count (label t)) (first_of a t)
          (second_of a t) (GroundAt-column a.system.signature t a.first u.grounded) (GroundAt-column a.system.signature t a.second u.grounded)
          (λ p c. b.left p.0 (are.pairs_low p c).0) (λ p c. b.right p.1 (are.pairs_low p c).1)) b.fact

      -- more labels than the cap exactly where more tuples, no two of them alike
      pub HasMoreLabels-expression : (cap : ℕ) → HasMoreLabels a.system.signature a.columns label cap ↔ IsOver a.system.signature a.columns (AlikeAtExpression a) cap
      HasMoreLabels-expression cap = HasMoreLabels-IsOver a.system.signature a.columns label (AlikeAtExpression a) labels_alike cap

-- the laws of a rule of labels
module _ (signature : Signature) (shape : ExpressionShape) (states : ExpressionStates) where
  tells : (f : TupleSymbol) (ws : List (List ℕ)) → first_word ((expression_rule signature shape states).step f ws) ≡ presence f
  tells f ws = refl

  columns-bounds : (columns first second : ℕ) → AreArguments columns first second → (0 < columns) × (columns ≤ most_columns)
  columns-bounds columns first second (inl w) = let e = w.0 in (omega arith, omega arith)
  columns-bounds columns first second (inr (inl w)) = let e = w.0 in (omega arith, omega arith)
  columns-bounds columns first second (inr (inr w)) = let e = w.0 in (omega arith, omega arith)

  pub IsLabelRule-expression : AreArguments shape.columns shape.first shape.second → IsLabelRule (expression_rule signature shape states)
  IsLabelRule-expression arguments =
      let bounds = columns-bounds shape.columns shape.first shape.second arguments in record { some = bounds.0; narrow = bounds.1; tells = tells }

  length-node_row : (n : ℕ) (x y : Option ℕ) (ws : List (List ℕ)) → length (node_row shape states n x y ws) ≡ suc (words_for (bit_count shape states))
  length-node_row n x y ws =
      length-label_row states.left.count states.right.count (facts_of shape) n (left_step states x ws) (right_step states y ws)
      (λ k. fact_step (bit_of shape states) (some_pair (left_step states x ws) (right_step states y ws) states.pairs) x y ws k)

  pub HasWidth-expression : HasWidth signature shape.columns (label_of (expression_rule signature shape states)) (suc (words_for (bit_count shape states)))
  HasWidth-expression =
      HasWidth-rule signature (expression_rule signature shape states) (suc (words_for (bit_count shape states)))
      (λ f ws. length-node_row (presence f) (get_or f shape.first None) (get_or f shape.second None) ws)
