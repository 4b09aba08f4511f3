-- The labels of an atom: each bit decides its mark, two tuples have one label exactly where they are alike, and the accepted labels are those of the relation.
use Rattle.std.specs.Prelude.{◌≡◌, ◌↔◌, ◌⊎◌, ℕ, ◌<◌, List, [], ◌∷◌, map, length, Option, None, Some, get_or, Contains, Bool, true, false, Decides, ◌&&◌, refl}
use Rattle.std.proofs.Common.{sym, ap, subst, ◌∙◌, arith, inl, inr, true≢false}
use Rattle.std.proofs.lemmas.List.{length-map, get_or-map}
use Rattle.std.proofs.lemmas.Bool.Decides.{Decides-and, Decides-at}
use Rattle.fort_theory.specs.Trees.{Tree}
use Rattle.fort_theory.specs.Signatures.{Signature, HasConstant}
use Rattle.fort_theory.specs.Patterns.{Pattern, IsInstance, FitsPattern, Pair}
use Rattle.fort_theory.specs.Rewriting.{Relation}
use Rattle.fort_theory.specs.PatternSteps.{PatternStep}
use Rattle.fort_theory.proofs.Members.{Contains-none, Contains-cons_cases}
use Rattle.fort_reachability.specs.PatternReachability.{ReachesInstance}
use Rattle.fort_tables.specs.Tuples.{Tuple, root, kid, kids, kid_count, presence, IsTuple}
use Rattle.fort_tables.specs.Labels.{first_word}
use Rattle.fort_tables.proofs.TupleLaws.{length-tabulate, get_or-tabulate, tuple_induction, fold_tuple-step, IsTuple-kid}
use Rattle.fort_tables.proofs.TableLaws.{presence_root}
use Rattle.fort_tables.specs.LabelRules.{label_of}
use Rattle.fort_tables.specs.OneColumn.{column_root, column_kid}
use Rattle.fort_alike.specs.Atoms.{AtomKind, EqKind, RootKind, StepKind, BelowKind, ParKind, NfKind, StarKind, PlusKind, root_of, OfOne, OfTwo, first_of, second_of, HoldsBy, IsTrueOfTuple}
use Rattle.fort_alike.specs.Alike.{Fact, Same, Steps, StepsBelow, StepsInParallel, IsNormal, Goes, GoesStrictly, facts_of, is_reaching, FactHolds, FirstHas, SecondHas, Alike}
use Rattle.fort_alike.specs.ListedAtoms.{Mark, OfFirst, OfSecond, OfBoth, MarkHolds, Holds, AreArguments, IsListedAtom, ListedAtom}
use Rattle.fort_alike.specs.AtomRules.{marks_of, row_of, any_pair, fact_step, mark_step, bit_in, atom_rule, accepts_by, atom_accepts}
use Rattle.fort_alike.proofs.ClosedLists.{ArePatterns, fits-pair, ArePatterns-lefts, ArePatterns-rights, lefts-has_side, rights-has_side}
use Rattle.fort_alike.specs.ClosureTests.{IsClosure}
use Rattle.fort_alike.proofs.Bits.{Decides-iff, iff_from_same, same_from_iff, has-row_of, row_of-same, SomePair, Decides-any_pair}
use Rattle.fort_alike.proofs.Kids.{GroundAt, TwoRight}
use Rattle.fort_alike.proofs.NodeMarks.{iff_same, iff_then, NodePremise, Decides-first_step, Decides-second_step, Decides-Same, Decides-Steps, Decides-StepsBelow, Decides-StepsInParallel, Decides-Goes, Decides-GoesStrictly, Decides-IsNormal}
use Rattle.fort_alike.proofs.ArgumentColumns.{column_root-root, column_kid-kid, GroundAt-column, kid_count-arguments, AreArguments-one}
use Rattle.fort_alike.proofs.AtomMarks.{marks_of-first, marks_of-second, marks_of-both, marks_of-each}

-- the facts of each kind
facts-one : (P : Fact → Type 0) (k l : Fact) → P k → Contains (k ∷ []) l → P l
facts-one P k l h c = elim (Contains-cons_cases k [] l c) [ inl e ↦ subst P e h | inr n ↦ absurd (Contains-none l n) ]

facts-more : (P : Fact → Type 0) (k : Fact) (ks : List Fact) (l : Fact) → P k → (Contains ks l → P l) → Contains (k ∷ ks) l → P l
facts-more P k ks l h rest c = elim (Contains-cons_cases k ks l c) [ inl e ↦ subst P e h | inr n ↦ rest n ]

module _ (sig : Signature) (pairs : List Pair) (lefts rights : List Pattern) (closure : Pattern → Pattern → Bool) (bit : Mark → List ℕ → Bool)
    (lefts_are : ArePatterns sig lefts) (rights_are : ArePatterns sig rights) (left_sides : (r : Pair) → Contains pairs r → Contains lefts r.0)
    (constant : HasConstant sig) (right_sides : (r : Pair) → Contains pairs r → FitsPattern sig r.1) (x y : Option Tree) (ws : List (List ℕ)) where
  abbrev Sides : Type 0
  Sides = (r : Pair) → Contains pairs r → Contains rights r.1

  abbrev Closes : Bool → Type 0
  Closes reaching = reaching ≡ true → (p q : Pattern) → Contains rights p → Contains lefts q → Decides (closure p q) (ReachesInstance sig pairs p q)

  abbrev Right : Fact → Type 0
  Right k = TwoRight (bit (OfBoth k)) (FactHolds (PatternStep sig pairs) k) ws (column_kid x) (column_kid y)

  abbrev Tells : Bool → Fact → Type 0
  Tells reaching k = Decides (fact_step reaching bit pairs closure (column_root x) (column_root y) ws k) (OfTwo (FactHolds (PatternStep sig pairs) k) x y)

  -- no other kind is that of normal forms
  sides_of : (kind : AtomKind) → (kind ≡ NfKind → ⊥) → (kind ≡ NfKind) ⊎ Sides → Sides
  sides_of kind other (inl e) = absurd (other e)
  sides_of kind other (inr s) = s

  Decides-fact_step : (kind : AtomKind) → (kind ≡ NfKind → x ≡ y) → (kind ≡ NfKind) ⊎ Sides → Closes (is_reaching kind)
      → NodePremise (is_reaching kind) sig pairs lefts rights bit x y ws
      → ((k : Fact) → Contains (facts_of kind) k → Right k) → (k : Fact) → Contains (facts_of kind) k → Tells (is_reaching kind) k
  Decides-fact_step EqKind one sides closes p h k c =
      facts-one (Tells false) Same k
      (Decides-Same sig pairs lefts rights closure bit lefts_are rights_are left_sides x y ws false p.ground_first p.ground_second p.exact (h Same (0, omega arith, refl))) c
  Decides-fact_step RootKind one sides closes p h k c = absurd (Contains-none k c)
  Decides-fact_step StepKind one sides closes p h k c =
      let s = sides_of StepKind (λ e. cc) sides in
      facts-more (Tells false) Same (Steps ∷ []) k
      (Decides-Same sig pairs lefts rights closure bit lefts_are rights_are left_sides x y ws false p.ground_first p.ground_second p.exact (h Same (0, omega arith, refl)))
      (λ d. facts-one (Tells false) Steps k
      (Decides-Steps sig pairs lefts rights closure bit lefts_are rights_are left_sides x y ws s p (h Same (0, omega arith, refl)) (h Steps (1, omega arith, refl))) d) c
  Decides-fact_step BelowKind one sides closes p h k c =
      let s = sides_of BelowKind (λ e. cc) sides in
      facts-more (Tells false) Same (Steps ∷ StepsBelow ∷ []) k
      (Decides-Same sig pairs lefts rights closure bit lefts_are rights_are left_sides x y ws false p.ground_first p.ground_second p.exact (h Same (0, omega arith, refl)))
      (λ d. facts-more (Tells false) Steps (StepsBelow ∷ []) k
      (Decides-Steps sig pairs lefts rights closure bit lefts_are rights_are left_sides x y ws s p (h Same (0, omega arith, refl)) (h Steps (1, omega arith, refl)))
      (λ o. facts-one (Tells false) StepsBelow k
      (Decides-StepsBelow sig pairs lefts rights closure bit lefts_are rights_are left_sides x y ws false p.ground_first p.ground_second p.exact
      (h Same (0, omega arith, refl)) (h Steps (1, omega arith, refl))) o) d) c
  Decides-fact_step ParKind one sides closes p h k c =
      let s = sides_of ParKind (λ e. cc) sides in
      facts-one (Tells false) StepsInParallel k
      (Decides-StepsInParallel sig pairs lefts rights closure bit lefts_are rights_are left_sides x y ws s p (h StepsInParallel (0, omega arith, refl))) c
  Decides-fact_step NfKind one sides closes p h k c =
      facts-one (Tells false) IsNormal k
      (subst (λ z. NodePremise false sig pairs lefts rights bit x z ws
      → TwoRight (bit (OfBoth IsNormal)) (FactHolds (PatternStep sig pairs) IsNormal) ws (column_kid x) (column_kid z)
      → Decides (fact_step false bit pairs closure (column_root x) (column_root z) ws IsNormal) (OfTwo (FactHolds (PatternStep sig pairs) IsNormal) x z))
      (one refl) (Decides-IsNormal sig pairs lefts rights closure bit lefts_are rights_are left_sides constant right_sides x ws) p (h IsNormal (0, omega arith, refl))) c
  Decides-fact_step StarKind one sides closes p h k c =
      let s = sides_of StarKind (λ e. cc) sides in
      facts-one (Tells true) Goes k (Decides-Goes sig pairs lefts rights closure bit lefts_are rights_are left_sides x y ws s closes p (h Goes (0, omega arith, refl))) c
  Decides-fact_step PlusKind one sides closes p h k c =
      let s = sides_of PlusKind (λ e. cc) sides in
      facts-more (Tells true) Goes (GoesStrictly ∷ []) k
      (Decides-Goes sig pairs lefts rights closure bit lefts_are rights_are left_sides x y ws s closes p (h Goes (0, omega arith, refl)))
      (λ d. facts-one (Tells true) GoesStrictly k
      (Decides-GoesStrictly sig pairs lefts rights closure bit lefts_are rights_are left_sides x y ws s closes p (h Goes (0, omega arith, refl))
      (h GoesStrictly (1, omega arith, refl))) d) c

  listed_of : (kind : AtomKind) → is_reaching kind ≡ true → (kind ≡ NfKind) ⊎ Sides → Sides
  listed_of kind e (inr s) = s
  listed_of kind e (inl n) = absurd (true≢false (sym e ∙ ap is_reaching n))

  -- all marks of a node
  Decides-mark_step : (kind : AtomKind) → (kind ≡ NfKind → x ≡ y) → (kind ≡ NfKind) ⊎ Sides → Closes (is_reaching kind)
      → NodePremise (is_reaching kind) sig pairs lefts rights bit x y ws
      → ((k : Fact) → Contains (facts_of kind) k → Right k)
      → ((p : Pattern) → Contains lefts p
      → Decides (mark_step (is_reaching kind) bit pairs closure (column_root x) (column_root y) ws (OfFirst p))
      (MarkHolds (is_reaching kind) (PatternStep sig pairs) (OfFirst p) x y))
      × ((p : Pattern) → Contains rights p
      → Decides (mark_step (is_reaching kind) bit pairs closure (column_root x) (column_root y) ws (OfSecond p))
      (MarkHolds (is_reaching kind) (PatternStep sig pairs) (OfSecond p) x y))
      × ((k : Fact) → Contains (facts_of kind) k
      → Decides (mark_step (is_reaching kind) bit pairs closure (column_root x) (column_root y) ws (OfBoth k))
      (MarkHolds (is_reaching kind) (PatternStep sig pairs) (OfBoth k) x y))
  Decides-mark_step kind one sides closes p h = (
    (λ q c. Decides-first_step sig pairs lefts rights closure bit lefts_are rights_are left_sides (is_reaching kind) x y ws (λ e. listed_of kind e sides) closes p q c),
    (λ q c. Decides-second_step sig pairs lefts rights closure bit lefts_are rights_are left_sides (is_reaching kind) x y ws (λ e. listed_of kind e sides) closes p q c),
    (λ k c. Decides-fact_step kind one sides closes p h k c),
  )

module _ (a : ListedAtom) (closure : Pattern → Pattern → Bool) where
  abbrev steps : Tuple → Mark → Bool
  steps t m = mark_step (is_reaching a.atom.kind) (bit_in a) a.atom.pairs closure (column_root (first_of a.atom t)) (column_root (second_of a.atom t))
      (map (label_of (atom_rule a closure)) (kids t)) m

  label-is_row : (t : Tuple) → label_of (atom_rule a closure) t ≡ row_of (marks_of a) (presence t) (steps t)
  label-is_row t =
      fold_tuple-step (atom_rule a closure).step t
      ∙ (ap (λ n. row_of (marks_of a) n
      (mark_step (is_reaching a.atom.kind) (bit_in a) a.atom.pairs closure (get_or (root t) a.atom.first None) (get_or (root t) a.atom.second None)
      (map (label_of (atom_rule a closure)) (kids t)))) (presence_root t)
      ∙ (ap (λ z. row_of (marks_of a) (presence t)
      (mark_step (is_reaching a.atom.kind) (bit_in a) a.atom.pairs closure z (get_or (root t) a.atom.second None) (map (label_of (atom_rule a closure)) (kids t))))
      (column_root-root t a.atom.first)
      ∙ ap (λ z. row_of (marks_of a) (presence t)
      (mark_step (is_reaching a.atom.kind) (bit_in a) a.atom.pairs closure (column_root (first_of a.atom t)) z (map (label_of (atom_rule a closure)) (kids t))))
      (column_root-root t a.atom.second)))

  bit_in-label : (t : Tuple) (m : Mark) → Contains (marks_of a) m → bit_in a m (label_of (atom_rule a closure) t) ≡ steps t m
  bit_in-label t m c = ap (λ w. bit_in a m w) (label-is_row t) ∙ has-row_of (marks_of a) (presence t) (steps t) m c

  abbrev pub BitsRight : Tuple → Type 0
  BitsRight t = (m : Mark) → Contains (marks_of a) m → Decides (bit_in a m (label_of (atom_rule a closure) t)) (Holds a m t)

  module _ (is : IsListedAtom a) (closes : IsClosure a closure) where
    label-kid : (t : Tuple) (j : ℕ) → j < kid_count t → get_or (map (label_of (atom_rule a closure)) (kids t)) j [] ≡ label_of (atom_rule a closure) (kid t j)
    label-kid t j l =
        let n : length (kids t) ≡ kid_count t = length-tabulate (kid_count t) (kid t) in
        get_or-map (label_of (atom_rule a closure)) (kids t) j [] [] (omega arith) ∙ ap (label_of (atom_rule a closure)) (get_or-tabulate (kid_count t) (kid t) j [] l)

    length-labels : (t : Tuple) → length (map (label_of (atom_rule a closure)) (kids t)) ≡ kid_count t
    length-labels t = length-map (kids t) (label_of (atom_rule a closure)) ∙ length-tabulate (kid_count t) (kid t)

    -- a bit of a child
    bit_in-kid : (t : Tuple) (j : ℕ) → j < kid_count t → BitsRight (kid t j) → (m : Mark) → Contains (marks_of a) m
        → Decides (bit_in a m (get_or (map (label_of (atom_rule a closure)) (kids t)) j []))
        (MarkHolds (is_reaching a.atom.kind) (root_of a.atom) m (column_kid (first_of a.atom t) j) (column_kid (second_of a.atom t) j))
    bit_in-kid t j l h m c =
        subst (λ w. Decides (bit_in a m w) (MarkHolds (is_reaching a.atom.kind) (root_of a.atom) m (column_kid (first_of a.atom t) j) (column_kid (second_of a.atom t) j)))
        (sym (label-kid t j l))
        (subst (λ z. Decides (bit_in a m (label_of (atom_rule a closure) (kid t j)))
        (MarkHolds (is_reaching a.atom.kind) (root_of a.atom) m (column_kid (first_of a.atom t) j) z)) (column_kid-kid t a.atom.second j)
        (subst (λ z. Decides (bit_in a m (label_of (atom_rule a closure) (kid t j)))
        (MarkHolds (is_reaching a.atom.kind) (root_of a.atom) m z (get_or (kid t j) a.atom.second None))) (column_kid-kid t a.atom.first j)
        (h m c)))

    NodePremise-kids : (t : Tuple) → IsTuple a.atom.signature a.atom.columns t → ((j : ℕ) → j < kid_count t → BitsRight (kid t j))
        → NodePremise (is_reaching a.atom.kind) a.atom.signature a.atom.pairs a.lefts a.rights (bit_in a) (first_of a.atom t) (second_of a.atom t)
        (map (label_of (atom_rule a closure)) (kids t))
    NodePremise-kids t u ih = record {
      ground_first = GroundAt-column a.atom.signature t a.atom.first u.grounded;
      ground_second = GroundAt-column a.atom.signature t a.atom.second u.grounded;
      exact = length-labels t ∙ kid_count-arguments t a.atom.first a.atom.second (subst (λ n. AreArguments n a.atom.first a.atom.second) (sym u.width) is.arguments);
      firsts = λ j l p c. let k : j < kid_count t = omega (arith, length-labels t) in bit_in-kid t j k (ih j k) (OfFirst p) (marks_of-first a p c);
      seconds = λ j l p c. let k : j < kid_count t = omega (arith, length-labels t) in bit_in-kid t j k (ih j k) (OfSecond p) (marks_of-second a p c);
    }

    bits_right-step : (t : Tuple) → IsTuple a.atom.signature a.atom.columns t → ((j : ℕ) → j < kid_count t → BitsRight (kid t j)) → BitsRight t
    bits_right-step t u ih m c =
        let w = Decides-mark_step a.atom.signature a.atom.pairs a.lefts a.rights closure (bit_in a) (ArePatterns-lefts a is) (ArePatterns-rights a is)
        (lefts-has_side a is) is.constant (λ r c. (fits-pair a is r c).1) (first_of a.atom t) (second_of a.atom t) (map (label_of (atom_rule a closure)) (kids t))
        a.atom.kind (λ e. ap (λ i. get_or t i None) (AreArguments-one a.atom.columns a.atom.first a.atom.second is.arguments (is.single e))) (rights-has_side a is) closes
        (NodePremise-kids t u ih)
        (λ k d j l. let n : j < kid_count t = omega (arith, length-labels t) in bit_in-kid t j n (ih j n) (OfBoth k) (marks_of-both a k d)) in
        Decides-at (bit_in a m (label_of (atom_rule a closure) t)) (steps t m) (bit_in-label t m c)
        (marks_of-each a (λ n. Decides (steps t n) (Holds a n t)) w.0 w.1 w.2 m c)

    -- each bit of a label decides its mark
    pub bits_right : (t : Tuple) → IsTuple a.atom.signature a.atom.columns t → BitsRight t
    bits_right = tuple_induction (λ t. IsTuple a.atom.signature a.atom.columns t → BitsRight t)
        (λ t ih u. bits_right-step t u (λ j l. ih j l (IsTuple-kid a.atom.signature a.atom.columns t j u l)))

    label-own_row : (t : Tuple) → label_of (atom_rule a closure) t ≡ row_of (marks_of a) (presence t) (λ m. bit_in a m (label_of (atom_rule a closure) t))
    label-own_row t = label-is_row t
        ∙ row_of-same (marks_of a) (presence t) (presence t) (steps t) (λ m. bit_in a m (label_of (atom_rule a closure) t)) refl (λ m c. sym (bit_in-label t m c))

    first_word-label : (t : Tuple) → first_word (label_of (atom_rule a closure) t) ≡ presence t
    first_word-label t = ap first_word (label-is_row t)

    -- two tuples have one label exactly where they are alike
    pub labels_alike : (t u : Tuple) → IsTuple a.atom.signature a.atom.columns t → IsTuple a.atom.signature a.atom.columns u
        → (label_of (atom_rule a closure) t ≡ label_of (atom_rule a closure) u) ↔ Alike a.atom t u
    labels_alike t u ti ui = (
      (λ e.
          let one : (m : Mark) → Contains (marks_of a) m → Holds a m t ↔ Holds a m u =
          λ m c. iff_from_same (bit_in a m (label_of (atom_rule a closure) t)) (bit_in a m (label_of (atom_rule a closure) u)) (bits_right t ti m c) (bits_right u ui m c)
          (ap (λ w. bit_in a m w) e) in
          record {
            present = sym (first_word-label t) ∙ (ap first_word e ∙ first_word-label u);
            firsts = λ p c. one (OfFirst p) (marks_of-first a p ((is.left_patterns p).1 c));
            seconds = λ p c. one (OfSecond p) (marks_of-second a p ((is.right_patterns p).1 c));
            facts = λ k c. one (OfBoth k) (marks_of-both a k c);
          }),
      (λ h.
          label-own_row t
          ∙ (row_of-same (marks_of a) (presence t) (presence u) (λ m. bit_in a m (label_of (atom_rule a closure) t)) (λ m. bit_in a m (label_of (atom_rule a closure) u))
          h.present
          (λ m c. same_from_iff (bit_in a m (label_of (atom_rule a closure) t)) (bit_in a m (label_of (atom_rule a closure) u)) (bits_right t ti m c) (bits_right u ui m c)
          (marks_of-each a (λ n. Holds a n t ↔ Holds a n u) (λ p d. h.firsts p ((is.left_patterns p).0 d)) (λ p d. h.seconds p ((is.right_patterns p).0 d)) h.facts m c))
          ∙ sym (label-own_row u))),
    )

-- acceptance
OfTwo-same : (R S : Relation) (x y : Option Tree) → ((s t : Tree) → R s t ↔ S s t) → OfTwo R x y ↔ OfTwo S x y
OfTwo-same R S None y h = iff_same
OfTwo-same R S (Some s) None h = iff_same
OfTwo-same R S (Some s) (Some t) h = h s t

SomePair-OfTwo : (sig : Signature) (pairs : List Pair) (x y : Option Tree) → GroundAt sig x → GroundAt sig y
    → SomePair (λ r. OfOne (IsInstance r.0) x × OfOne (IsInstance r.1) y) pairs ↔ OfTwo (PatternStep sig pairs) x y
SomePair-OfTwo sig pairs None y gx gy = ((λ w. w.2.0), (λ e. absurd e))
SomePair-OfTwo sig pairs (Some s) None gx gy = ((λ w. w.2.1), (λ e. absurd e))
SomePair-OfTwo sig pairs (Some s) (Some t) gx gy = (
  (λ w. record { pair = w.0; among = w.1; left = w.2.0; right = w.2.1; left_grounded = gx; right_grounded = gy }),
  (λ h. (h.pair, h.among, (h.left, h.right))),
)

Decides-accepts_by : (sig : Signature) (pairs : List Pair) (lefts rights : List Pattern) (bit : Mark → Bool) (x y : Option Tree) (kind : AtomKind) → GroundAt sig x
    → GroundAt sig y
    → ((r : Pair) → Contains pairs r → Contains lefts r.0) → (kind ≡ NfKind) ⊎ ((r : Pair) → Contains pairs r → Contains rights r.1)
    → ((p : Pattern) → Contains lefts p → Decides (bit (OfFirst p)) (OfOne (FirstHas (is_reaching kind) (PatternStep sig pairs) p) x))
    → ((p : Pattern) → Contains rights p → Decides (bit (OfSecond p)) (OfOne (SecondHas (is_reaching kind) (PatternStep sig pairs) p) y))
    → ((k : Fact) → Contains (facts_of kind) k → Decides (bit (OfBoth k)) (OfTwo (FactHolds (PatternStep sig pairs) k) x y))
    → Decides (accepts_by bit pairs kind) (OfTwo (HoldsBy (PatternStep sig pairs) kind) x y)
Decides-accepts_by sig pairs lefts rights bit x y EqKind gx gy ls rs f s b =
    Decides-iff (bit (OfBoth Same)) (OfTwo-same (FactHolds (PatternStep sig pairs) Same) (HoldsBy (PatternStep sig pairs) EqKind) x y (λ u v. iff_same))
    (b Same (0, omega arith, refl))
Decides-accepts_by sig pairs lefts rights bit x y RootKind gx gy ls (inl e) f s b = absurd (let d : RootKind ≡ NfKind = e in cc)
Decides-accepts_by sig pairs lefts rights bit x y RootKind gx gy ls (inr rs) f s b =
    Decides-iff (any_pair (λ r. bit (OfFirst r.0) && bit (OfSecond r.1)) pairs)
    (iff_then (SomePair-OfTwo sig pairs x y gx gy) (OfTwo-same (PatternStep sig pairs) (HoldsBy (PatternStep sig pairs) RootKind) x y (λ u v. iff_same)))
    (Decides-any_pair (λ r. bit (OfFirst r.0) && bit (OfSecond r.1)) (λ r. OfOne (IsInstance r.0) x × OfOne (IsInstance r.1) y) pairs
    (λ r c. Decides-and (bit (OfFirst r.0)) (bit (OfSecond r.1))
    (f r.0 (ls r c)) (s r.1 (rs r c))))
Decides-accepts_by sig pairs lefts rights bit x y StepKind gx gy ls rs f s b =
    Decides-iff (bit (OfBoth Steps)) (OfTwo-same (FactHolds (PatternStep sig pairs) Steps) (HoldsBy (PatternStep sig pairs) StepKind) x y (λ u v. iff_same))
    (b Steps (1, omega arith, refl))
Decides-accepts_by sig pairs lefts rights bit x y BelowKind gx gy ls rs f s b =
    Decides-iff (bit (OfBoth StepsBelow)) (OfTwo-same (FactHolds (PatternStep sig pairs) StepsBelow) (HoldsBy (PatternStep sig pairs) BelowKind) x y (λ u v. iff_same))
    (b StepsBelow (2, omega arith, refl))
Decides-accepts_by sig pairs lefts rights bit x y ParKind gx gy ls rs f s b =
    Decides-iff (bit (OfBoth StepsInParallel))
    (OfTwo-same (FactHolds (PatternStep sig pairs) StepsInParallel) (HoldsBy (PatternStep sig pairs) ParKind) x y (λ u v. iff_same)) (b StepsInParallel (0, omega arith, refl))
Decides-accepts_by sig pairs lefts rights bit x y NfKind gx gy ls rs f s b =
    Decides-iff (bit (OfBoth IsNormal)) (OfTwo-same (FactHolds (PatternStep sig pairs) IsNormal) (HoldsBy (PatternStep sig pairs) NfKind) x y (λ u v. iff_same))
    (b IsNormal (0, omega arith, refl))
Decides-accepts_by sig pairs lefts rights bit x y StarKind gx gy ls rs f s b =
    Decides-iff (bit (OfBoth Goes)) (OfTwo-same (FactHolds (PatternStep sig pairs) Goes) (HoldsBy (PatternStep sig pairs) StarKind) x y (λ u v. iff_same))
    (b Goes (0, omega arith, refl))
Decides-accepts_by sig pairs lefts rights bit x y PlusKind gx gy ls rs f s b =
    Decides-iff (bit (OfBoth GoesStrictly)) (OfTwo-same (FactHolds (PatternStep sig pairs) GoesStrictly) (HoldsBy (PatternStep sig pairs) PlusKind) x y (λ u v. iff_same))
    (b GoesStrictly (1, omega arith, refl))

-- a label is accepted exactly where both arguments are there and the relation holds of them
pub Decides-atom_accepts : (a : ListedAtom) (closure : Pattern → Pattern → Bool) → IsListedAtom a → IsClosure a closure
    → (t : Tuple) → IsTuple a.atom.signature a.atom.columns t
    → Decides (atom_accepts a (label_of (atom_rule a closure) t)) (IsTrueOfTuple a.atom t)
Decides-atom_accepts a closure is closes t u =
    Decides-accepts_by a.atom.signature a.atom.pairs a.lefts a.rights (λ m. bit_in a m (label_of (atom_rule a closure) t)) (first_of a.atom t) (second_of a.atom t) a.atom.kind
    (GroundAt-column a.atom.signature t a.atom.first u.grounded) (GroundAt-column a.atom.signature t a.atom.second u.grounded) (lefts-has_side a is) (rights-has_side a is)
    (λ p c. bits_right a closure is closes t u (OfFirst p) (marks_of-first a p c))
    (λ p c. bits_right a closure is closes t u (OfSecond p) (marks_of-second a p c))
    (λ k c. bits_right a closure is closes t u (OfBoth k) (marks_of-both a k c))
