-- The bits that both sides write are those of the states of a node; a row of such bits, of facts and of a presence is the label.
use Rattle.std.specs.Prelude.{◌≡◌, ℕ, suc, ◌+◌, ◌-◌, ◌<◌, ◌≤◌, List, [], ◌∷◌, ◌++◌, map, length, get_or, Contains, Option, Bool, true, false, ◌&&◌, ◌||◌, nat_lt, if◌then◌else◌, refl}
use Rattle.std.proofs.Common.{sym, ap, ◌∙◌, arith, ⊎_elim}
use Rattle.std.proofs.lemmas.Bool.{cases_lt}
use Rattle.std.proofs.lemmas.List.{get_or_append_left, get_or-append-add, get_or_past, length-append}
use Rattle.fort_theory.proofs.Members.{Contains-head, Contains-behind}
use Rattle.fort_tables.specs.Tuples.{tabulate}
use Rattle.fort_tables.specs.BitRows.{words_for, bit_row, AreWords}
use Rattle.fort_tables.proofs.BitRowLaws.{bit_row_is}
use Rattle.fort_tables.proofs.TupleLaws.{length-tabulate, get_or-tabulate}
use Rattle.fort_alike.specs.ExpressionAlike.{PairFact, Same, Anywhere, Below}
use Rattle.fort_alike.specs.AtomRules.{same_roots}
use Rattle.fort_alike.specs.PatternNumbers.{PatternNumber, number_inside}
use Rattle.fort_alike.specs.ExpressionStates.{Truths}
use Rattle.fort_alike.specs.ExpressionRules.{left_step, right_step, some_pair, truth_at, label_row, fact_bit, fact_step}
use Rattle.fort_alike.proofs.MoveStatesLaws.{left_states-by_bits, right_states-by_bits}
use Rattle.fort_label_bits.specs.RowBits.{bit_of, HasBits, IsRow}
use Rattle.fort_label_bits.specs.BitRowLists.{row_in}
use Rattle.fort_label_bits.specs.RuleLefts.{some_rule}
use Rattle.fort_label_bits.specs.declared.rule_places.RulePlaces.{RulePlaces}
use Rattle.fort_label_bits.proofs.RootPlaceLaws.{any_false}
use Rattle.fort_relation_exprs.specs.Sides.{side_adds}
use Rattle.fort_relation_exprs.specs.RexSeen.{RexSeen, states_of}
use Rattle.fort_relation_exprs.specs.RexInside.{place_pair}
use Rattle.fort_relation_exprs.specs.FactRows.{fact_told, fact_test}

or-nothing : (b : Bool) → (b || false) ≡ b
or-nothing true = refl
or-nothing false = refl

and-off : (a b : Bool) → b ≡ false → (a && b) ≡ false
and-off true b e = e
and-off false b e = refl

not_on : (b : Bool) → (b ≡ true → ⊥) → b ≡ false
not_on true h = absurd (h refl)
not_on false h = refl

-- a bit that no row has on isn't added
adds-off : (base : ℕ) (moves : List (PatternNumber × ℕ)) (leads : List (List ℕ)) (x : Option ℕ) (ws : List (List ℕ)) (q : ℕ)
    → ((p : ℕ) → bit_of q (row_in leads p) ≡ true → ⊥) → side_adds base moves leads x ws q ≡ false
adds-off base moves leads x ws q off =
    any_false (λ (m : PatternNumber × ℕ). number_inside base m.0 x ws && bit_of q (row_in leads m.1)) moves
    (λ m. and-off (number_inside base m.0 x ws) (bit_of q (row_in leads m.1)) (not_on (bit_of q (row_in leads m.1)) (off m.1)))

-- two lists of truths, one behind the other
module _ (n m : ℕ) (f g : Truths) where
  abbrev pub both : List Bool
  both = tabulate n f ++ tabulate m g

  pub length-both : length both ≡ n + m
  length-both = omega (arith, length-append (tabulate n f) (tabulate m g), length-tabulate n f, length-tabulate m g)

  pub both-left : (q : ℕ) → q < n → get_or both q false ≡ f q
  both-left q l =
      get_or_append_left (tabulate n f) (tabulate m g) false q (omega (arith, l, length-tabulate n f)) ∙ get_or-tabulate n f q false l

  pub both-right : (k : ℕ) → k < m → get_or both (n + k) false ≡ g k
  both-right k l =
      ap (λ i. get_or both (i + k) false) (sym (length-tabulate n f))
      ∙ (get_or-append-add (tabulate n f) (tabulate m g) k false ∙ get_or-tabulate m g k false l)

  pub both-past : (q : ℕ) → n + m ≤ q → get_or both q false ≡ false
  both-past q l = get_or_past both q false (omega (arith, l, length-both))

module _ (l : RexSeen) (x y : Option ℕ) (ws : List (List ℕ))
    (left_inside : (p q : ℕ) → bit_of q (row_in l.left.leads p) ≡ true → (0 ≤ q) × (q < 0 + l.left.count))
    (right_inside : (p q : ℕ) → bit_of q (row_in l.right.leads p) ≡ true → (l.left.count ≤ q) × (q < l.left.count + l.right.count)) where
  abbrev lefts : Truths
  lefts = left_step (states_of l) x ws

  abbrev rights : Truths
  rights = right_step (states_of l) y ws

  abbrev left_adds : ℕ → Bool
  left_adds q = side_adds 0 l.left.moves l.left.leads x ws q

  abbrev right_adds : ℕ → Bool
  right_adds q = side_adds l.left.count l.right.moves l.right.leads y ws q

  left-is : (q : ℕ) → lefts q ≡ left_adds q
  left-is q = left_states-by_bits l.left.count l.left.moves (λ p k. bit_of k (row_in l.left.leads p)) x ws q

  right-is : (k : ℕ) → rights k ≡ right_adds (l.left.count + k)
  right-is k = right_states-by_bits l.right.count l.right.moves (λ p i. bit_of (l.left.count + i) (row_in l.right.leads p)) y ws k l.left.count

  left-off : (q : ℕ) → l.left.count ≤ q → left_adds q ≡ false
  left-off q m = adds-off 0 l.left.moves l.left.leads x ws q (λ p e. let w = left_inside p q e in omega (arith, w.1, m))

  right-off_low : (q : ℕ) → q < l.left.count → right_adds q ≡ false
  right-off_low q m = adds-off l.left.count l.right.moves l.right.leads y ws q (λ p e. let w = right_inside p q e in omega (arith, w.0, m))

  right-off_high : (q : ℕ) → l.left.count + l.right.count ≤ q → right_adds q ≡ false
  right-off_high q m = adds-off l.left.count l.right.moves l.right.leads y ws q (λ p e. let w = right_inside p q e in omega (arith, w.1, m))

  -- Result: after both sides were written
  pub HasBits-sides : (before mid after : List ℕ) → HasBits [] before → ((q : ℕ) → bit_of q mid ≡ (bit_of q before || left_adds q))
      → ((q : ℕ) → bit_of q after ≡ (bit_of q mid || right_adds q))
      → HasBits (both l.left.count l.right.count lefts rights) after
  HasBits-sides before mid after clear one two q =
      let all : bit_of q after ≡ (left_adds q || right_adds q) = two q ∙ ap (λ b. b || right_adds q) (one q ∙ ap (λ b. b || left_adds q) (clear q)) in
      ⊎_elim
      (λ (low : q < l.left.count).
      all ∙ (ap (λ b. left_adds q || b) (right-off_low q low) ∙ (or-nothing (left_adds q) ∙ (sym (left-is q) ∙ sym (both-left l.left.count l.right.count lefts rights q low)))))
      (λ high. ⊎_elim
      (λ (within : q < l.left.count + l.right.count).
      let k = q - l.left.count in
      let at : l.left.count + k ≡ q = omega (arith, high) in
      let there : k < l.right.count = omega (arith, high, within) in
      all ∙ (ap (λ b. b || right_adds q) (left-off q (omega (arith, high)))
      ∙ (ap right_adds (sym at) ∙ (sym (right-is k) ∙ (sym (both-right l.left.count l.right.count lefts rights k there) ∙ ap (λ i. get_or (both l.left.count l.right.count lefts rights) i false) at)))))
      (λ past.
      all ∙ (ap (λ b. b || right_adds q) (left-off q (omega (arith, high)))
      ∙ (right-off_high q (omega (arith, past)) ∙ sym (both-past l.left.count l.right.count lefts rights q (omega (arith, past))))))
      (cases_lt q (l.left.count + l.right.count)))
      (cases_lt q l.left.count)

-- pairs of places
pub some_rule-some_pair : (rules : List RulePlaces) (base : ℕ) (w : List ℕ) (left right : Truths)
    → ((r : RulePlaces) → Contains rules r → (bit_of r.left w ≡ left r.left) × (bit_of (base + r.right) w ≡ right r.right))
    → some_rule base rules w ≡ some_pair left right (map place_pair rules)
some_rule-some_pair [] base w left right h = refl
some_rule-some_pair (r ∷ rules) base w left right h =
    let here = h r (Contains-head r rules) in
    λ i. (here.0 i && here.1 i) || some_rule-some_pair rules base w left right (λ s c. h s (Contains-behind r rules s c)) i

map-same : {A B : Type 0} (f g : A → B) (xs : List A) → ((x : A) → f x ≡ g x) → map f xs ≡ map g xs
map-same f g [] h = refl
map-same f g (x ∷ xs) h = λ i. h x i ∷ map-same f g xs h i

-- facts by the roots
pub fact_test-fact_step : (n m : ℕ) (facts : List PairFact) (x y : Option ℕ) (root : Bool) (ws : List (List ℕ)) (k : PairFact)
    → fact_test (fact_told (n + m) facts) (same_roots x y) root ws k ≡ fact_step (fact_bit n m facts) root x y ws k
fact_test-fact_step n m facts x y root ws Same = refl
fact_test-fact_step n m facts x y root ws (Anywhere number) = refl
fact_test-fact_step n m facts x y root ws (Below number) = refl

-- and all of them, where both tests of the roots are what they are
pub facts-step : (n m : ℕ) (facts : List PairFact) (x y : Option ℕ) (equal root other : Bool) (ws : List (List ℕ)) → equal ≡ same_roots x y → root ≡ other
    → map (fact_test (fact_told (n + m) facts) equal root ws) facts ≡ map (fact_step (fact_bit n m facts) other x y ws) facts
facts-step n m facts x y equal root other ws e h =
    (λ i. map (fact_test (fact_told (n + m) facts) (e i) (h i) ws) facts)
    ∙ map-same (fact_test (fact_told (n + m) facts) (same_roots x y) other ws) (fact_step (fact_bit n m facts) other x y ws) facts (fact_test-fact_step n m facts x y other ws)

lt-true : (k n : ℕ) → k < n → nat_lt k n ≡ true
lt-true k n h = grind (arith)

lt-false : (k n : ℕ) → n ≤ k → nat_lt k n ≡ false
lt-false k n h = grind (arith)

module _ (n m : ℕ) (facts : List PairFact) (left right : Truths) (fact : PairFact → Bool) where
  abbrev truths : Truths
  truths = truth_at n m facts left right fact

  abbrev all_bits : List Bool
  all_bits = both n m left right ++ map fact facts

  -- the bits of a row are those of the label
  bits-truths : (q : ℕ) → get_or all_bits q false ≡ truths q
  bits-truths q =
      ⊎_elim
      (λ (low : q < n).
      get_or_append_left (both n m left right) (map fact facts) false q (omega (arith, low, length-both n m left right))
      ∙ (both-left n m left right q low ∙ sym (ap (λ b. if b then left q else (if nat_lt q (n + m) then right (q - n) else get_or (map fact facts) (q - (n + m)) false)) (lt-true q n low))))
      (λ high. ⊎_elim
      (λ (within : q < n + m).
      let k = q - n in
      let at : n + k ≡ q = omega (arith, high) in
      get_or_append_left (both n m left right) (map fact facts) false q (omega (arith, within, length-both n m left right))
      ∙ (ap (λ i. get_or (both n m left right) i false) (sym at)
      ∙ (both-right n m left right k (omega (arith, high, within))
      ∙ sym (ap (λ b. if b then left q else (if nat_lt q (n + m) then right (q - n) else get_or (map fact facts) (q - (n + m)) false)) (lt-false q n (omega (arith, high)))
      ∙ ap (λ b. if b then right (q - n) else get_or (map fact facts) (q - (n + m)) false) (lt-true q (n + m) within)))))
      (λ past.
      let k = q - (n + m) in
      let at : length (both n m left right) + k ≡ q = omega (arith, past, length-both n m left right) in
      ap (λ i. get_or all_bits i false) (sym at)
      ∙ (get_or-append-add (both n m left right) (map fact facts) k false
      ∙ sym (ap (λ b. if b then left q else (if nat_lt q (n + m) then right (q - n) else get_or (map fact facts) (q - (n + m)) false)) (lt-false q n (omega (arith, high)))
      ∙ ap (λ b. if b then right (q - n) else get_or (map fact facts) (q - (n + m)) false) (lt-false q (n + m) (omega (arith, past))))))
      (cases_lt q (n + m)))
      (cases_lt q n)

  -- Result: a row of the presence and these bits is the label
  pub row-label : (first : ℕ) (w : List ℕ) → length w ≡ suc (words_for (n + m + length facts)) → IsRow first all_bits w
      → w ≡ label_row n m facts first left right fact
  row-label first [] size is = absurd (omega (arith, size))
  row-label first (a ∷ w) size is =
      let words : AreWords w = λ i b. is.words (suc i) (omega (arith, b)) in
      let rest : w ≡ bit_row (n + m + length facts) truths = bit_row_is (n + m + length facts) truths w (omega (arith, size)) words (λ q b. is.bits_are q ∙ bits-truths q) in
      (λ i. is.first_is i ∷ rest i)
