-- The rows of a closure against the test that its entries make, and what they add to the bits of patterns that are inside.
use Rattle.std.specs.Prelude.{◌≡◌, ℕ, zero, suc, ◌+◌, ◌-◌, ◌<◌, ◌≤◌, List, [], ◌∷◌, ◌++◌, map, length, get_or, Contains, Option, None, Bool, true, false, Decides, ◌&&◌, ◌||◌, ◌==◌, if◌then◌else◌, refl}
use Rattle.std.specs.List.{list_any}
use Rattle.std.proofs.Common.{sym, ap, subst, ◌∙◌, arith, inl, inr, true≢false, ⊎_elim}
use Rattle.std.proofs.Math.Bool.{and_comm}
use Rattle.std.proofs.lemmas.Bool.{cases_lt}
use Rattle.std.proofs.lemmas.Bool.Decides.{Decides-eqb, Decides-like, Decides-and, Decides-or}
use Rattle.std.proofs.lemmas.List.{get_or_append_left, get_or-append-add, get_or-map, get_or_past, length-append, length-map}
use Rattle.fort_theory.specs.Patterns.{Pattern, Any}
use Rattle.fort_theory.specs.PatternOrder.{PatternBefore}
use Rattle.fort_theory.proofs.ClosedPatterns.{PatternBefore-irreflexive}
use Rattle.fort_theory.proofs.Members.{Contains-none, Contains-cons_cases, Contains-head, Contains-behind}
use Rattle.fort_alike.specs.Alike.{is_reaching}
use Rattle.fort_alike.specs.ListedAtoms.{OfFirst, OfSecond}
use Rattle.fort_alike.specs.AtomRules.{same_pattern, marks_of, any_pair, inside, bit_in, first_step, second_step}
use Rattle.fort_alike.specs.ClosureTests.{pattern_place, is_listed, closure_test}
use Rattle.fort_alike.specs.PatternNumbers.{PatternNumber, number_inside}
use Rattle.fort_alike.proofs.BitPlaces.{NoneTwice}
use Rattle.fort_alike.proofs.Bits.{Decides-false, Decides-same_pattern, same_from_iff}
use Rattle.fort_alike.proofs.PatternNumberLaws.{first_row, second_row}
use Rattle.fort_label_bits.specs.NumberedView.{AreNumbersOf}
use Rattle.fort_label_bits.specs.RowBits.{bit_of, HasBits}
use Rattle.fort_label_bits.specs.declared.rule_places.RulePlaces.{RulePlaces}
use Rattle.fort_label_bits.specs.RulePlaces.{pair_at, AreWithin}
use Rattle.fort_context_closure.specs.ClosedAtoms.{ClosedAtom, numbers_of, test_of, pattern_bits}
use Rattle.fort_context_closure.specs.declared.reach.Reach.{Reach}
use Rattle.fort_context_closure.specs.ReachRows.{firsts_of, seconds_of, IsReach, NoPatternTwice, rule_adds}
use Rattle.fort_label_bits.specs.BitRowLists.{row_in}
use Rattle.fort_context_closure.proofs.NodeRowLaws.{firsts-are, seconds-are}
use Rattle.fort_label_bits.proofs.RulePlaceLaws.{list_any-any_pair}

-- the list of numbers

pair-equal : {a b : ℕ × ℕ} → a.0 ≡ b.0 → a.1 ≡ b.1 → a ≡ b
pair-equal e h = λ i. (e i, h i)

pub Decides-is_listed : (numbers : List (ℕ × ℕ)) (i j : ℕ) → Decides (is_listed numbers i j) (Contains numbers (i, j))
Decides-is_listed [] i j = Decides-false (Contains-none (i, j))
Decides-is_listed (x ∷ xs) i j =
    let w : ℕ × ℕ = (i, j) in
    Decides-like (((x.0 == i) && (x.1 == j)) || is_listed xs i j)
    (λ s. elim s [ inl a ↦ subst (Contains (x ∷ xs)) (pair-equal a.0 a.1) (Contains-head x xs) | inr b ↦ Contains-behind x xs w b ])
    (λ c. elim (Contains-cons_cases x xs w c) [ inl e ↦ inl (ap (λ (z : ℕ × ℕ). z.0) e, ap (λ (z : ℕ × ℕ). z.1) e) | inr n ↦ inr n ])
    (Decides-or ((x.0 == i) && (x.1 == j)) (is_listed xs i j) (Decides-and (x.0 == i) (x.1 == j) (Decides-eqb x.0 i) (Decides-eqb x.1 j)) (Decides-is_listed xs i j))

-- the place of a pattern that stands once

place-here : (xs : List Pattern) (x : Pattern) (t : Bool) → same_pattern x x ≡ t → (if t then 0 else suc (pattern_place xs x)) ≡ 0
place-here xs x true h = refl
place-here xs x false h = absurd (true≢false (sym ((Decides-same_pattern x x).1 refl) ∙ h))

place-further : (xs : List Pattern) (x p : Pattern) (t : Bool) → same_pattern x p ≡ t → (x ≡ p → ⊥) → (if t then 0 else suc (pattern_place xs p)) ≡ suc (pattern_place xs p)
place-further xs x p true h n = absurd (n ((Decides-same_pattern x p).0 h))
place-further xs x p false h n = refl

pub pattern_place-at : (xs : List Pattern) (k : ℕ) → NoPatternTwice xs → k < length xs → pattern_place xs (get_or xs k Any) ≡ k
pattern_place-at [] k once l = absurd (omega arith)
pattern_place-at (x ∷ xs) zero once l = place-here xs x (same_pattern x x) refl
pattern_place-at (x ∷ xs) (suc k) once l =
    place-further xs x (get_or xs k Any) (same_pattern x (get_or xs k Any)) refl (λ e. once 0 (suc k) (omega arith) l e)
    ∙ ap suc (pattern_place-at xs k (λ i j m n e. once (suc i) (suc j) (omega arith) (omega arith) e) (omega arith))

pub NoPatternTwice-ordered : (ps : List Pattern) → ((i j : ℕ) → i < j → j < length ps → PatternBefore (get_or ps i Any) (get_or ps j Any)) → NoPatternTwice ps
NoPatternTwice-ordered ps ordered i j l m e =
    PatternBefore-irreflexive (get_or ps j Any) (subst (λ p. PatternBefore p (get_or ps j Any)) e (ordered i j l m))

pub closure_test-at : (rights lefts : List Pattern) (numbers : List (ℕ × ℕ)) (i j : ℕ) → NoPatternTwice rights → NoPatternTwice lefts → i < length rights → j < length lefts
    → closure_test rights lefts numbers (get_or rights i Any) (get_or lefts j Any) ≡ is_listed numbers i j
closure_test-at rights lefts numbers i j right_once left_once l m =
    λ k. is_listed numbers (pattern_place-at rights i right_once l k) (pattern_place-at lefts j left_once m k)

pub off : {P : Type 0} (b : Bool) → Decides b P → (P → ⊥) → b ≡ false
off true d n = absurd (n (d.0 refl))
off false d n = refl

pub none-and : (a b : Bool) → b ≡ false → (a && b) ≡ false
none-and true b e = e
none-and false b e = refl

or-none : (a b : Bool) → b ≡ false → (a || b) ≡ a
or-none true b e = refl
or-none false b e = e

none-or : (a b : Bool) → a ≡ false → (a || b) ≡ b
none-or true b e = absurd (true≢false e)
none-or false b e = refl

module _ (c : ClosedAtom) (reaching : is_reaching c.atom.atom.kind ≡ true) (once : NoneTwice (marks_of c.atom))
    (left_once : NoPatternTwice c.atom.lefts) (right_once : NoPatternTwice c.atom.rights)
    (lefts rights : List PatternNumber) (left_are : AreNumbersOf c.atom.lefts lefts) (right_are : AreNumbersOf c.atom.rights rights)
    (rules : List RulePlaces) (within : AreWithin c.atom.lefts c.atom.rights rules) (are : c.atom.atom.pairs ≡ map (pair_at c.atom.lefts c.atom.rights) rules)
    (reach : Reach) (is : IsReach (length c.atom.lefts) (length c.atom.rights) (numbers_of c.entries) reach)
    (x y : Option ℕ) (ws : List (List ℕ)) where
  abbrev F : Pattern → Bool
  F = inside (bit_in c.atom) OfFirst x ws

  abbrev S : Pattern → Bool
  S = inside (bit_in c.atom) OfSecond y ws

  abbrev starts : RulePlaces → Bool
  starts r = number_inside 0 (get_or lefts r.left None) x ws

  abbrev ends : RulePlaces → Bool
  ends r = number_inside (length lefts) (get_or rights r.right None) y ws

  starts-are : (r : RulePlaces) → Contains rules r → starts r ≡ F (get_or c.atom.lefts r.left Any)
  starts-are r k = first_row c.atom once (get_or lefts r.left None) (get_or c.atom.lefts r.left Any) x ws (left_are.each r.left (within r k).0)

  ends-are : (r : RulePlaces) → Contains rules r → ends r ≡ S (get_or c.atom.rights r.right Any)
  ends-are r k =
      ap (λ n. number_inside n (get_or rights r.right None) y ws) left_are.count
      ∙ second_row c.atom once (get_or rights r.right None) (get_or c.atom.rights r.right Any) y ws (right_are.each r.right (within r k).1)

  -- a bit of a left pattern in the row of a right one, and the other way round
  first-bit : (p q : ℕ) → p < length c.atom.rights → q < length c.atom.lefts
      → bit_of q (row_in (firsts_of reach) p) ≡ test_of c (get_or c.atom.rights p Any) (get_or c.atom.lefts q Any)
  first-bit p q l m =
      same_from_iff (bit_of q (row_in (firsts_of reach) p)) (is_listed (numbers_of c.entries) p q) (is.firsts_are p q l)
      (Decides-is_listed (numbers_of c.entries) p q) ((λ h. h.1), (λ h. (m, h)))
      ∙ sym (closure_test-at c.atom.rights c.atom.lefts (numbers_of c.entries) p q right_once left_once l m)

  second-bit : (q p : ℕ) → q < length c.atom.lefts → p < length c.atom.rights
      → bit_of (length c.atom.lefts + p) (row_in (seconds_of reach) q) ≡ test_of c (get_or c.atom.rights p Any) (get_or c.atom.lefts q Any)
  second-bit q p l m =
      same_from_iff (bit_of (length c.atom.lefts + p) (row_in (seconds_of reach) q)) (is_listed (numbers_of c.entries) p q)
      (is.seconds_are q (length c.atom.lefts + p) l) (Decides-is_listed (numbers_of c.entries) p q)
      ((λ h. let e : h.0 ≡ p = omega (arith, h.1) in subst (λ k. Contains (numbers_of c.entries) (k, q)) e h.3), (λ h. (p, refl, m, h)))
      ∙ sym (closure_test-at c.atom.rights c.atom.lefts (numbers_of c.entries) p q right_once left_once m l)

  no_first : (p q : ℕ) → p < length c.atom.rights → length c.atom.lefts ≤ q → bit_of q (row_in (firsts_of reach) p) ≡ false
  no_first p q l m = off (bit_of q (row_in (firsts_of reach) p)) (is.firsts_are p q l) (λ h. let n : q < length c.atom.lefts = h.0 in omega arith)

  no_second_before : (q k : ℕ) → q < length c.atom.lefts → k < length c.atom.lefts → bit_of k (row_in (seconds_of reach) q) ≡ false
  no_second_before q k l m =
      off (bit_of k (row_in (seconds_of reach) q)) (is.seconds_are q k l) (λ h. let e : length c.atom.lefts + h.0 ≡ k = h.1 in omega arith)

  no_second_past : (q k : ℕ) → q < length c.atom.lefts → length c.atom.lefts + length c.atom.rights ≤ k → bit_of k (row_in (seconds_of reach) q) ≡ false
  no_second_past q k l m =
      off (bit_of k (row_in (seconds_of reach) q)) (is.seconds_are q k l)
      (λ h. let e : length c.atom.lefts + h.0 ≡ k = h.1 in let n : h.0 < length c.atom.rights = h.2 in omega arith)

  -- what the rules add
  adds-first : (q : ℕ) → q < length c.atom.lefts → list_any (rule_adds lefts rights reach x y ws q) rules
      ≡ any_pair (λ r. F r.0 && test_of c r.1 (get_or c.atom.lefts q Any)) c.atom.atom.pairs
  adds-first q l =
      list_any-any_pair c.atom.lefts c.atom.rights (λ r. F r.0 && test_of c r.1 (get_or c.atom.lefts q Any)) (rule_adds lefts rights reach x y ws q) rules
      (λ r k.
      or-none (starts r && bit_of q (row_in (firsts_of reach) r.right)) (ends r && bit_of q (row_in (seconds_of reach) r.left))
      (none-and (ends r) (bit_of q (row_in (seconds_of reach) r.left)) (no_second_before r.left q (within r k).0 l))
      ∙ (λ i. starts-are r k i && first-bit r.right q (within r k).1 l i))
      ∙ ap (any_pair (λ r. F r.0 && test_of c r.1 (get_or c.atom.lefts q Any))) (sym are)

  adds-second : (p : ℕ) → p < length c.atom.rights → list_any (rule_adds lefts rights reach x y ws (length c.atom.lefts + p)) rules
      ≡ any_pair (λ r. test_of c (get_or c.atom.rights p Any) r.0 && S r.1) c.atom.atom.pairs
  adds-second p l =
      list_any-any_pair c.atom.lefts c.atom.rights (λ r. test_of c (get_or c.atom.rights p Any) r.0 && S r.1)
      (rule_adds lefts rights reach x y ws (length c.atom.lefts + p)) rules
      (λ r m.
      none-or (starts r && bit_of (length c.atom.lefts + p) (row_in (firsts_of reach) r.right))
      (ends r && bit_of (length c.atom.lefts + p) (row_in (seconds_of reach) r.left))
      (none-and (starts r) (bit_of (length c.atom.lefts + p) (row_in (firsts_of reach) r.right))
      (no_first r.right (length c.atom.lefts + p) (within r m).1 (omega arith)))
      ∙ ((λ i. ends-are r m i && second-bit r.left p (within r m).0 l i)
      ∙ and_comm (S (get_or c.atom.rights r.right Any)) (test_of c (get_or c.atom.rights p Any) (get_or c.atom.lefts r.left Any))))
      ∙ ap (any_pair (λ r. test_of c (get_or c.atom.rights p Any) r.0 && S r.1)) (sym are)

  adds-none : (q : ℕ) → length c.atom.lefts + length c.atom.rights ≤ q → (rs : List RulePlaces) → ((r : RulePlaces) → Contains rs r → Contains rules r)
      → list_any (rule_adds lefts rights reach x y ws q) rs ≡ false
  adds-none q l [] sub = refl
  adds-none q l (r ∷ rs) sub =
      let w = within r (sub r (Contains-head r rs)) in
      none-or (rule_adds lefts rights reach x y ws q r) (list_any (rule_adds lefts rights reach x y ws q) rs)
      (or-none (starts r && bit_of q (row_in (firsts_of reach) r.right)) (ends r && bit_of q (row_in (seconds_of reach) r.left))
      (none-and (ends r) (bit_of q (row_in (seconds_of reach) r.left)) (no_second_past r.left q w.0 l))
      ∙ none-and (starts r) (bit_of q (row_in (firsts_of reach) r.right)) (no_first r.right q w.1 (omega arith)))
      ∙ adds-none q l rs (λ s k. sub s (Contains-behind r rs s k))

  -- so the bits are those of the rule
  pub reached-bits : (old new : List ℕ)
      → HasBits (map (λ p. number_inside 0 p x ws) lefts ++ map (λ p. number_inside (length c.atom.lefts) p y ws) rights) old
      → ((q : ℕ) → bit_of q new ≡ (bit_of q old || list_any (rule_adds lefts rights reach x y ws q) rules))
      → HasBits (pattern_bits c x y ws) new
  reached-bits old new h adds q =
      let nl : ℕ = length c.atom.lefts in
      let nr : ℕ = length c.atom.rights in
      let firsts : List Bool = map F c.atom.lefts in
      let seconds : List Bool = map S c.atom.rights in
      let G : Pattern → Bool = λ p. F p || any_pair (λ r. F r.0 && test_of c r.1 p) c.atom.atom.pairs in
      let T : Pattern → Bool = λ p. S p || any_pair (λ r. test_of c p r.0 && S r.1) c.atom.atom.pairs in
      let first_size : length firsts ≡ nl = length-map c.atom.lefts F in
      let second_size : length seconds ≡ nr = length-map c.atom.rights S in
      let more_first : length (map G c.atom.lefts) ≡ nl = length-map c.atom.lefts G in
      let more_second : length (map T c.atom.rights) ≡ nr = length-map c.atom.rights T in
      let own : (k : ℕ) → bit_of k old ≡ get_or (firsts ++ seconds) k false =
      λ k. h k ∙ (λ i. get_or (firsts-are c.atom once lefts x ws left_are i ++ seconds-are c.atom once rights y ws right_are i) k false) in
      let goal : bit_of q new ≡ get_or (map G c.atom.lefts ++ map T c.atom.rights) q false =
      ⊎_elim
      (λ l.
      adds q ∙ ((λ i. (own q
      ∙ (get_or_append_left firsts seconds false q (omega (arith, l, first_size)) ∙ get_or-map F c.atom.lefts q Any false l)) i
      || adds-first q l i)
      ∙ sym (get_or_append_left (map G c.atom.lefts) (map T c.atom.rights) false q (omega (arith, l, more_first)) ∙ get_or-map G c.atom.lefts q Any false l)))
      (λ m.
      ⊎_elim
      (λ l.
      let p : ℕ = q - nl in
      let e : q ≡ nl + p = omega arith in
      let within_rights : p < nr = omega arith in
      ap (λ k. bit_of k new) e
      ∙ (adds (nl + p)
      ∙ ((λ i. (own (nl + p)
      ∙ (ap (λ k. get_or (firsts ++ seconds) (k + p) false) (sym first_size)
      ∙ (get_or-append-add firsts seconds p false ∙ get_or-map S c.atom.rights p Any false within_rights))) i
      || adds-second p within_rights i)
      ∙ (sym (ap (λ k. get_or (map G c.atom.lefts ++ map T c.atom.rights) (k + p) false) (sym more_first)
      ∙ (get_or-append-add (map G c.atom.lefts) (map T c.atom.rights) p false ∙ get_or-map T c.atom.rights p Any false within_rights))
      ∙ ap (λ k. get_or (map G c.atom.lefts ++ map T c.atom.rights) k false) (sym e)))))
      (λ l.
      adds q ∙ ((λ i. (own q ∙ get_or_past (firsts ++ seconds) q false (omega (arith, length-append firsts seconds, first_size, second_size, l))) i
      || adds-none q l rules (λ r k. k) i)
      ∙ sym (get_or_past (map G c.atom.lefts ++ map T c.atom.rights) q false
      (omega (arith, length-append (map G c.atom.lefts) (map T c.atom.rights), more_first, more_second, l)))))
      (cases_lt q (nl + nr)))
      (cases_lt q nl) in
      goal ∙ ap (λ b. get_or (map (first_step b (bit_in c.atom) c.atom.atom.pairs (test_of c) x ws) c.atom.lefts
      ++ map (second_step b (bit_in c.atom) c.atom.atom.pairs (test_of c) y ws) c.atom.rights) q false) (sym reaching)

-- where no instances that are reached count, the bits of what is inside are those of the rule
pub plain-bits : (c : ClosedAtom) → is_reaching c.atom.atom.kind ≡ false → NoneTwice (marks_of c.atom)
    → (lefts rights : List PatternNumber) → AreNumbersOf c.atom.lefts lefts → AreNumbersOf c.atom.rights rights → (x y : Option ℕ) (ws : List (List ℕ)) (w : List ℕ)
    → HasBits (map (λ p. number_inside 0 p x ws) lefts ++ map (λ p. number_inside (length c.atom.lefts) p y ws) rights) w → HasBits (pattern_bits c x y ws) w
plain-bits c plain once lefts rights left_are right_are x y ws w h q =
    h q
    ∙ ((λ i. get_or (firsts-are c.atom once lefts x ws left_are i ++ seconds-are c.atom once rights y ws right_are i) q false)
    ∙ ap (λ b. get_or (map (first_step b (bit_in c.atom) c.atom.atom.pairs (test_of c) x ws) c.atom.lefts
    ++ map (second_step b (bit_in c.atom) c.atom.atom.pairs (test_of c) y ws) c.atom.rights) q false) (sym plain))
