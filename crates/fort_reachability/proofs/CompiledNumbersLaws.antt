-- From what the steps of compiling an expression do to numbered transducers: the result is compiled from the expression.
use Rattle.std.specs.Prelude.{◌≡◌, ◌↔◌, ◌⊎◌, ℕ, ◌+◌, ◌-◌, ◌<◌, ◌≤◌, List, length, Bool, true, false, nat_lt, Contains, Some, slice_get, get_or, refl}
use Rattle.std.proofs.Common.{sym, subst, arith, inl, inr}
use Rattle.std.proofs.lemmas.List.Elements.{Contains-get_or}
use Rattle.std.proofs.lemmas.Option.{slice_get-get_or, slice_get_read}
use Rattle.fort_theory.specs.Trees.{Tree}
use Rattle.fort_theory.specs.Signatures.{Signature, IsGround}
use Rattle.fort_theory.specs.Patterns.{Pattern, Any, IsInstance, PatternSystem}
use Rattle.fort_theory.specs.PatternOrder.{AreSubpatternsInOrder}
use Rattle.fort_theory.specs.PatternSteps.{PatternStepAt}
use Rattle.fort_theory.specs.Rewriting.{Reduces, ReducesThroughRoot, RewritesInParallel}
use Rattle.fort_theory.proofs.GroundSteps.{RewritesInParallel-keeps_ground, RewritesInParallel-comes_from_ground}
use Rattle.fort_theory.proofs.WithinRoots.{Within, Reduces-within}
use Rattle.fort_reachability.specs.TreeAutomata.{Takes}
use Rattle.fort_reachability.specs.Transducers.{Transducer, Transduces, FitsTransducer}
use Rattle.fort_reachability.specs.Reachability.{ReducesInto, ReducesFrom}
use Rattle.fort_reachability.proofs.TransducersLaws.{RelatesGround-Transduces, Reduces-to_ground, Reduces-from_ground}
use Rattle.fort_theory.specs.Expressions.{Expression, RootSteps, Inverse, Union, Composition, Closure, Composes}
use Rattle.fort_theory.specs.Conditions.{PatternWithin, left_sides, right_sides, LeftCondition, RightCondition, MeansIn, MeetsLeft, MeetsRight}
use Rattle.fort_reachability.specs.Compositions.{LeadsInto, LeadsFrom}
use Rattle.fort_reachability.specs.CompiledNumbers.{SameOnGround, TakenTo, IsCompiledTo}
use Rattle.fort_reachability.proofs.ParallelSteps.{RewritesInParallel-same}

after : {P Q R : Type 0} → P ↔ Q → Q ↔ R → P ↔ R
after h k = ((λ p. k.0 (h.0 p)), (λ r. h.1 (k.1 r)))

-- a number below a sum is below the first, or past it
below-or_past : (k n m : ℕ) → k < n + m → (k < n) ⊎ ((j : ℕ) × (j < m) × (j + n ≡ k))
below-or_past k n m low = cases (nat_lt k n) refl
  where
    cases : (b : Bool) → nat_lt k n ≡ b → (k < n) ⊎ ((j : ℕ) × (j < m) × (j + n ≡ k))
    cases true e = inl (grind (arith, e))
    cases false e = let past : n ≤ k = grind (arith, e) in inr (k - n, omega arith, omega arith)

-- states and conditions of two kinds
module _ (signature : Signature) {C D : Type 0} (n m : ℕ) (H : ℕ → Tree → Type 0) (M : C ⊎ D → Tree → Type 0) where
  conditions-of_two : ((k : ℕ) → k < n → (c : C) × SameOnGround signature (H k) (M (inl c)))
      → ((k : ℕ) → k < m → (d : D) × SameOnGround signature (H (k + n)) (M (inr d)))
      → (k : ℕ) → k < n + m → (c : C ⊎ D) × SameOnGround signature (H k) (M c)
  conditions-of_two firsts seconds k low = elim (below-or_past k n m low) [
    | inl l ↦ let w = firsts k l in (inl w.0, w.1)
    | inr p ↦ let w = seconds p.0 p.1 in (inr w.0, subst (λ i. SameOnGround signature (H i) (M (inr w.0))) p.2 w.1)
  ]

  states-of_two : ((c : C) → (k : ℕ) × (k < n) × SameOnGround signature (H k) (M (inl c)))
      → ((d : D) → (k : ℕ) × (k < m) × SameOnGround signature (H (k + n)) (M (inr d)))
      → (c : C ⊎ D) → (k : ℕ) × (k < n + m) × SameOnGround signature (H k) (M c)
  states-of_two firsts seconds (inl c) = let w = firsts c in let l : w.0 < n = w.1 in (w.0, omega (arith, l), w.2)
  states-of_two firsts seconds (inr d) = let w = seconds d in let l : w.0 < m = w.1 in (w.0 + n, omega (arith, l), w.2)

module _ (system : PatternSystem) where
  -- root steps: the states are places in lists of the patterns
  module _ (index : ℕ) (transducer : Transducer ℕ ℕ) (lefts rights : List Pattern) (left_are : AreSubpatternsInOrder (left_sides system index) lefts)
      (right_are : AreSubpatternsInOrder (right_sides system index) rights) (fits : FitsTransducer system.signature transducer)
      (relates : (s t : Tree) → Transduces system.signature transducer s t ↔ PatternStepAt system index s t)
      (pairs_low : (a b : ℕ) → transducer.HasPair a b → (a < length lefts) × (b < length rights))
      (left : (k : ℕ) (p : Pattern) → slice_get lefts k ≡ Some p → (t : Tree) → Takes transducer.left t k ↔ IsInstance p t)
      (right : (k : ℕ) (p : Pattern) → slice_get rights k ≡ Some p → (t : Tree) → Takes transducer.right t k ↔ IsInstance p t) where
    left_condition : (k : ℕ) → k < length lefts → (c : PatternWithin (left_sides system index)) × SameOnGround system.signature (TakenTo transducer.left k) (IsInstance c.0)
    left_condition k low =
        let p : Pattern = get_or lefts k Any in
        let c : PatternWithin (left_sides system index) = (p, (left_are.same p).0 (Contains-get_or lefts k Any low)) in
        (c, (λ t grounded. left k p (slice_get-get_or lefts k Any low) t))

    right_condition : (k : ℕ) → k < length rights → (c : PatternWithin (right_sides system index)) × SameOnGround system.signature (TakenTo transducer.right k) (IsInstance c.0)
    right_condition k low =
        let p : Pattern = get_or rights k Any in
        let c : PatternWithin (right_sides system index) = (p, (right_are.same p).0 (Contains-get_or rights k Any low)) in
        (c, (λ t grounded. right k p (slice_get-get_or rights k Any low) t))

    stands : (ps : List Pattern) (p : Pattern) → (c : Contains ps p) → slice_get ps c.0 ≡ Some p
    stands ps p c = slice_get_read ps (length ps) c.0 p refl c.1 (sym c.2)

    pub compiled_to-root : IsCompiledTo system (RootSteps index) transducer (length lefts) (length rights)
    compiled_to-root = record {
      fits = fits;
      relates = relates;
      pairs_low = pairs_low;
      left_condition = left_condition;
      left_state = λ c. let w = (left_are.same c.0).1 c.1 in (w.0, w.1, (λ t grounded. left w.0 c.0 (stands lefts c.0 w) t));
      right_condition = right_condition;
      right_state = λ c. let w = (right_are.same c.0).1 c.1 in (w.0, w.1, (λ t grounded. right w.0 c.0 (stands rights c.0 w) t));
    }

  -- the inverse
  module _ (e : Expression) (old new : Transducer ℕ ℕ) (lefts rights : ℕ) (is : IsCompiledTo system e old lefts rights) (fits : FitsTransducer system.signature new)
      (relates : (s t : Tree) → Transduces system.signature new s t ↔ Transduces system.signature old t s)
      (pairs_low : (a b : ℕ) → new.HasPair a b → (a < rights) × (b < lefts))
      (left : (t : Tree) (q : ℕ) → Takes new.left t q ↔ Takes old.right t q) (right : (t : Tree) (q : ℕ) → Takes new.right t q ↔ Takes old.left t q) where
    pub compiled_to-inverse : IsCompiledTo system (Inverse e) new rights lefts
    compiled_to-inverse = record {
      fits = fits;
      relates = λ s t. after (relates s t) (is.relates t s);
      pairs_low = pairs_low;
      left_condition = λ k low. let w = is.right_condition k low in (w.0, (λ t g. after (left t k) (w.1 t g)));
      left_state = λ c. let w = is.right_state c in (w.0, w.1, (λ t g. after (left t w.0) (w.2 t g)));
      right_condition = λ k low. let w = is.left_condition k low in (w.0, (λ t g. after (right t k) (w.1 t g)));
      right_state = λ c. let w = is.left_state c in (w.0, w.1, (λ t g. after (right t w.0) (w.2 t g)));
    }

  -- the closure
  module _ (e : Expression) (old new : Transducer ℕ ℕ) (lefts rights : ℕ) (is : IsCompiledTo system e old lefts rights) (fits : FitsTransducer system.signature new)
      (relates : (s t : Tree) → Transduces system.signature new s t ↔ ReducesThroughRoot (Transduces system.signature old) s t)
      (pairs_low : (a b : ℕ) → new.HasPair a b → (a < lefts) × (b < rights))
      (left : (s : Tree) → IsGround system.signature s → (q : ℕ) → Takes new.left s q ↔ ReducesInto (Transduces system.signature old) old.left s q)
      (right : (t : Tree) → IsGround system.signature t → (q : ℕ) → Takes new.right t q ↔ ReducesFrom (Transduces system.signature old) old.right q t) where
    into : Within (Reduces (Transduces system.signature old)) (Reduces (MeansIn system e))
    into = Reduces-within (Transduces system.signature old) (MeansIn system e) (λ s t. (is.relates s t).0)

    from : Within (Reduces (MeansIn system e)) (Reduces (Transduces system.signature old))
    from = Reduces-within (MeansIn system e) (Transduces system.signature old) (λ s t. (is.relates s t).1)

    closed-left : (k : ℕ) (c : LeftCondition system e) → SameOnGround system.signature (TakenTo old.left k) (MeetsLeft system e c)
        → SameOnGround system.signature (TakenTo new.left k) (MeetsLeft system (Closure e) c)
    closed-left k c same s g = after (left s g k) (
      (λ w. (w.0, into s w.0 w.1, (same w.0 (Reduces-to_ground system.signature old s w.0 w.1 g)).0 w.2)),
      (λ w. let p = from s w.0 w.1 in (w.0, p, (same w.0 (Reduces-to_ground system.signature old s w.0 p g)).1 w.2)),
    )

    closed-right : (k : ℕ) (c : RightCondition system e) → SameOnGround system.signature (TakenTo old.right k) (MeetsRight system e c)
        → SameOnGround system.signature (TakenTo new.right k) (MeetsRight system (Closure e) c)
    closed-right k c same t g = after (right t g k) (
      (λ w. (w.0, (same w.0 (Reduces-from_ground system.signature old w.0 t w.2 g)).0 w.1, into w.0 t w.2)),
      (λ w. let p = from w.0 t w.2 in (w.0, (same w.0 (Reduces-from_ground system.signature old w.0 t p g)).1 w.1, p)),
    )

    pub compiled_to-closure : IsCompiledTo system (Closure e) new lefts rights
    compiled_to-closure = record {
      fits = fits;
      relates = λ s t. after (relates s t) (
        (λ w. (w.0, w.1, into s w.0 w.2, (is.relates w.0 w.1).0 w.3, into w.1 t w.4)),
        (λ w. (w.0, w.1, from s w.0 w.2, (is.relates w.0 w.1).1 w.3, from w.1 t w.4)),
      );
      pairs_low = pairs_low;
      left_condition = λ k low. let w = is.left_condition k low in (w.0, closed-left k w.0 w.1);
      left_state = λ c. let w = is.left_state c in (w.0, w.1, closed-left w.0 c w.2);
      right_condition = λ k low. let w = is.right_condition k low in (w.0, closed-right k w.0 w.1);
      right_state = λ c. let w = is.right_state c in (w.0, w.1, closed-right w.0 c w.2);
    }

  module _ (a b : Expression) (first second both : Transducer ℕ ℕ) (l r m n : ℕ) (is : IsCompiledTo system a first l r) (also : IsCompiledTo system b second m n)
      (fits : FitsTransducer system.signature both) where
    -- the union
    module _ (relates : (s t : Tree) → Transduces system.signature both s t ↔ (Transduces system.signature first s t ⊎ Transduces system.signature second s t))
        (pairs_low : (x y : ℕ) → both.HasPair x y → (x < l + m) × (y < r + n))
        (left_first : (t : Tree) (q : ℕ) → q < l → Takes both.left t q ↔ Takes first.left t q) (left_second : (t : Tree) (q : ℕ) → Takes both.left t (q + l) ↔ Takes second.left t q)
        (right_first : (t : Tree) (q : ℕ) → q < r → Takes both.right t q ↔ Takes first.right t q) (right_second : (t : Tree) (q : ℕ) → Takes both.right t (q + r) ↔ Takes second.right t q) where
      pub compiled_to-union : IsCompiledTo system (Union a b) both (l + m) (r + n)
      compiled_to-union = record {
        fits = fits;
        relates = λ s t. after (relates s t) (
          (λ w. elim w [ inl h ↦ inl ((is.relates s t).0 h) | inr h ↦ inr ((also.relates s t).0 h) ]),
          (λ w. elim w [ inl h ↦ inl ((is.relates s t).1 h) | inr h ↦ inr ((also.relates s t).1 h) ]),
        );
        pairs_low = pairs_low;
        left_condition = conditions-of_two system.signature l m (TakenTo both.left) (MeetsLeft system (Union a b))
            (λ k low. let w = is.left_condition k low in (w.0, (λ t g. after (left_first t k low) (w.1 t g))))
            (λ k low. let w = also.left_condition k low in (w.0, (λ t g. after (left_second t k) (w.1 t g))));
        left_state = states-of_two system.signature l m (TakenTo both.left) (MeetsLeft system (Union a b))
            (λ c. let w = is.left_state c in (w.0, w.1, (λ t g. after (left_first t w.0 w.1) (w.2 t g))))
            (λ c. let w = also.left_state c in (w.0, w.1, (λ t g. after (left_second t w.0) (w.2 t g))));
        right_condition = conditions-of_two system.signature r n (TakenTo both.right) (MeetsRight system (Union a b))
            (λ k low. let w = is.right_condition k low in (w.0, (λ t g. after (right_first t k low) (w.1 t g))))
            (λ k low. let w = also.right_condition k low in (w.0, (λ t g. after (right_second t k) (w.1 t g))));
        right_state = states-of_two system.signature r n (TakenTo both.right) (MeetsRight system (Union a b))
            (λ c. let w = is.right_state c in (w.0, w.1, (λ t g. after (right_first t w.0 w.1) (w.2 t g))))
            (λ c. let w = also.right_state c in (w.0, w.1, (λ t g. after (right_second t w.0) (w.2 t g))));
      }

    -- the composition
    module _ (relates : (s t : Tree) → Transduces system.signature both s t ↔ Composes (Transduces system.signature first) (Transduces system.signature second) s t)
        (pairs_low : (x y : ℕ) → both.HasPair x y → (x < l + m) × (y < n + r))
        (left_first : (t : Tree) (q : ℕ) → q < l → Takes both.left t q ↔ Takes first.left t q)
        (left_second : (s : Tree) → IsGround system.signature s → (q : ℕ) → Takes both.left s (q + l) ↔ LeadsInto (Transduces system.signature first) second.left s q)
        (right_second : (t : Tree) (q : ℕ) → q < n → Takes both.right t q ↔ Takes second.right t q)
        (right_first : (t : Tree) → IsGround system.signature t → (q : ℕ) → Takes both.right t (q + n) ↔ LeadsFrom (Transduces system.signature second) first.right q t) where
      first-in_parallel : (s t : Tree) → RewritesInParallel (Transduces system.signature first) s t ↔ RewritesInParallel (MeansIn system a) s t
      first-in_parallel = RewritesInParallel-same (Transduces system.signature first) (MeansIn system a) is.relates

      second-in_parallel : (s t : Tree) → RewritesInParallel (Transduces system.signature second) s t ↔ RewritesInParallel (MeansIn system b) s t
      second-in_parallel = RewritesInParallel-same (Transduces system.signature second) (MeansIn system b) also.relates

      into-ground : (s u : Tree) → RewritesInParallel (Transduces system.signature first) s u → IsGround system.signature s → IsGround system.signature u
      into-ground = RewritesInParallel-keeps_ground system.signature (Transduces system.signature first) (RelatesGround-Transduces system.signature first)

      from-ground : (u t : Tree) → RewritesInParallel (Transduces system.signature second) u t → IsGround system.signature t → IsGround system.signature u
      from-ground = RewritesInParallel-comes_from_ground system.signature (Transduces system.signature second) (RelatesGround-Transduces system.signature second)

      onward : (k : ℕ) (c : LeftCondition system b) → SameOnGround system.signature (TakenTo second.left k) (MeetsLeft system b c)
          → SameOnGround system.signature (TakenTo both.left (k + l)) (MeetsLeft system (Composition a b) (inr c))
      onward k c same s g = after (left_second s g k) (
        (λ w. (w.0, (first-in_parallel s w.0).0 w.1, (same w.0 (into-ground s w.0 w.1 g)).0 w.2)),
        (λ w. let p = (first-in_parallel s w.0).1 w.1 in (w.0, p, (same w.0 (into-ground s w.0 p g)).1 w.2)),
      )

      backward : (k : ℕ) (c : RightCondition system a) → SameOnGround system.signature (TakenTo first.right k) (MeetsRight system a c)
          → SameOnGround system.signature (TakenTo both.right (k + n)) (MeetsRight system (Composition a b) (inr c))
      backward k c same t g = after (right_first t g k) (
        (λ w. (w.0, (same w.0 (from-ground w.0 t w.2 g)).0 w.1, (second-in_parallel w.0 t).0 w.2)),
        (λ w. let p = (second-in_parallel w.0 t).1 w.2 in (w.0, (same w.0 (from-ground w.0 t p g)).1 w.1, p)),
      )

      pub compiled_to-composition : IsCompiledTo system (Composition a b) both (l + m) (n + r)
      compiled_to-composition = record {
        fits = fits;
        relates = λ s t. after (relates s t) (
          (λ w. elim w [
            | inl x ↦ inl (x.0, (is.relates s x.0).0 x.1, (second-in_parallel x.0 t).0 x.2)
            | inr x ↦ inr (x.0, (first-in_parallel s x.0).0 x.1, (also.relates x.0 t).0 x.2)
          ]),
          (λ w. elim w [
            | inl x ↦ inl (x.0, (is.relates s x.0).1 x.1, (second-in_parallel x.0 t).1 x.2)
            | inr x ↦ inr (x.0, (first-in_parallel s x.0).1 x.1, (also.relates x.0 t).1 x.2)
          ]),
        );
        pairs_low = pairs_low;
        left_condition = conditions-of_two system.signature l m (TakenTo both.left) (MeetsLeft system (Composition a b))
            (λ k low. let w = is.left_condition k low in (w.0, (λ t g. after (left_first t k low) (w.1 t g))))
            (λ k low. let w = also.left_condition k low in (w.0, onward k w.0 w.1));
        left_state = states-of_two system.signature l m (TakenTo both.left) (MeetsLeft system (Composition a b))
            (λ c. let w = is.left_state c in (w.0, w.1, (λ t g. after (left_first t w.0 w.1) (w.2 t g))))
            (λ c. let w = also.left_state c in (w.0, w.1, onward w.0 c w.2));
        right_condition = conditions-of_two system.signature n r (TakenTo both.right) (MeetsRight system (Composition a b))
            (λ k low. let w = also.right_condition k low in (w.0, (λ t g. after (right_second t k low) (w.1 t g))))
            (λ k low. let w = is.right_condition k low in (w.0, backward k w.0 w.1));
        right_state = states-of_two system.signature n r (TakenTo both.right) (MeetsRight system (Composition a b))
            (λ c. let w = also.right_state c in (w.0, w.1, (λ t g. after (right_second t w.0 w.1) (w.2 t g))))
            (λ c. let w = is.right_state c in (w.0, w.1, backward w.0 c w.2));
      }
