-- The bits of a label are those that were written, and labels with the same bits are one.
use Rattle.std.specs.Prelude.{◌≡◌, ℕ, suc, ◌+◌, ◌-◌, ◌<◌, ◌≤◌, List, [], ◌∷◌, map, length, get_or, Contains, Bool, true, false, Decides, ◌==◌, nat_lt, if◌then◌else◌, refl}
use Rattle.std.proofs.Common.{sym, ap, ◌∙◌, arith, inl, inr, true≢false}
use Rattle.std.proofs.lemmas.Bool.Decides.{Decides-eqb, Decides-like}
use Rattle.fort_theory.proofs.Members.{Contains-none, Contains-cons_cases, Contains-head, Contains-behind}
use Rattle.fort_tables.specs.BitRows.{words_for, bit_row}
use Rattle.fort_tables.proofs.BitRowLaws.{has_bit-bit_row, words_enough, length-bit_row}
use Rattle.fort_theory.specs.Contexts.{OneHole, SomeHoles, AnyHoles}
use Rattle.fort_alike.specs.ExpressionAlike.{PairFact, Same, Anywhere, Below}
use Rattle.fort_alike.specs.ExpressionStates.{Truths}
use Rattle.fort_alike.specs.ExpressionRules.{fact_number, fact_place, truth_at, label_row, left_bit, right_bit, fact_bit}

-- equality of facts
abbrev fact_back : ℕ → PairFact
fact_back n = get_or (Same ∷ Anywhere OneHole ∷ Anywhere SomeHoles ∷ Anywhere AnyHoles ∷ Below OneHole ∷ Below SomeHoles ∷ Below AnyHoles ∷ []) n Same

fact_back-fact_number : (k : PairFact) → fact_back (fact_number k) ≡ k
fact_back-fact_number Same = refl
fact_back-fact_number (Anywhere OneHole) = refl
fact_back-fact_number (Anywhere SomeHoles) = refl
fact_back-fact_number (Anywhere AnyHoles) = refl
fact_back-fact_number (Below OneHole) = refl
fact_back-fact_number (Below SomeHoles) = refl
fact_back-fact_number (Below AnyHoles) = refl

Decides-same_fact : (k l : PairFact) → Decides (fact_number k == fact_number l) (k ≡ l)
Decides-same_fact k l =
    Decides-like (fact_number k == fact_number l) (λ e. sym (fact_back-fact_number k) ∙ (ap fact_back e ∙ fact_back-fact_number l)) (λ e. ap fact_number e)
    (Decides-eqb (fact_number k) (fact_number l))

record Found (b : PairFact → Bool) (xs : List PairFact) (m : PairFact) (k : ℕ) : Type 0 where
  within : k < length xs
  value : get_or (map b xs) k false ≡ b m

found-behind : (b : PairFact → Bool) (xs : List PairFact) (m x : PairFact) (k : ℕ) → Found b xs m k → Found b (x ∷ xs) m (suc k)
found-behind b xs m x k h = record { within = omega (arith, h.within); value = h.value }

found-cases : (b : PairFact → Bool) (xs : List PairFact) (m x : PairFact) → (t : Bool) → (fact_number x == fact_number m) ≡ t → Contains (x ∷ xs) m
    → (Contains xs m → Found b xs m (fact_place xs m)) → Found b (x ∷ xs) m (if t then 0 else suc (fact_place xs m))
found-cases b xs m x true h c rest = record { within = omega arith; value = ap b ((Decides-same_fact x m).0 h) }
found-cases b xs m x false h c rest = elim (Contains-cons_cases x xs m c) [
  | inl e ↦ absurd (true≢false (sym ((Decides-same_fact x m).1 e) ∙ h))
  | inr k ↦ found-behind b xs m x (fact_place xs m) (rest k)
]

found : (b : PairFact → Bool) (xs : List PairFact) (m : PairFact) → Contains xs m → Found b xs m (fact_place xs m)
found b [] m c = absurd (Contains-none m c)
found b (x ∷ xs) m c = found-cases b xs m x (fact_number x == fact_number m) refl c (λ k. found b xs m k)

-- tests of places
lt-true : (k n : ℕ) → k < n → nat_lt k n ≡ true
lt-true k n h = grind (arith)

lt-false : (k n : ℕ) → n ≤ k → nat_lt k n ≡ false
lt-false k n h = grind (arith)

module _ (lefts rights : ℕ) (facts : List PairFact) (n : ℕ) (left right : Truths) (fact : PairFact → Bool) where
  row-bit : (k : ℕ) → k < lefts + rights + length facts → left_bit (label_row lefts rights facts n left right fact) k ≡ truth_at lefts rights facts left right fact k
  row-bit k l =
      has_bit-bit_row (lefts + rights + length facts) (truth_at lefts rights facts left right fact) k (words_enough (lefts + rights + length facts) k l)

  pub left_bit-row : (k : ℕ) → k < lefts → left_bit (label_row lefts rights facts n left right fact) k ≡ left k
  left_bit-row k l =
      row-bit k (omega arith)
      ∙ ap (λ b. if b then left k else (if nat_lt k (lefts + rights) then right (k - lefts) else get_or (map fact facts) (k - (lefts + rights)) false)) (lt-true k lefts l)

  pub right_bit-row : (k : ℕ) → k < rights → right_bit lefts (label_row lefts rights facts n left right fact) k ≡ right k
  right_bit-row k l =
      let e : lefts + k - lefts ≡ k = omega arith in
      row-bit (lefts + k) (omega arith)
      ∙ (ap (λ b. if b then left (lefts + k) else (if nat_lt (lefts + k) (lefts + rights) then right (lefts + k - lefts) else get_or (map fact facts) (lefts + k - (lefts + rights)) false))
      (lt-false (lefts + k) lefts (omega arith))
      ∙ (ap (λ b. if b then right (lefts + k - lefts) else get_or (map fact facts) (lefts + k - (lefts + rights)) false) (lt-true (lefts + k) (lefts + rights) (omega arith))
      ∙ ap right e))

  pub fact_bit-row : (m : PairFact) → Contains facts m → fact_bit lefts rights facts m (label_row lefts rights facts n left right fact) ≡ fact m
  fact_bit-row m c =
      let w = found fact facts m c in
      let k : ℕ = lefts + rights + fact_place facts m in
      let e : k - (lefts + rights) ≡ fact_place facts m = omega arith in
      row-bit k (omega (arith, w.within))
      ∙ (ap (λ b. if b then left k else (if nat_lt k (lefts + rights) then right (k - lefts) else get_or (map fact facts) (k - (lefts + rights)) false))
      (lt-false k lefts (omega arith))
      ∙ (ap (λ b. if b then right (k - lefts) else get_or (map fact facts) (k - (lefts + rights)) false) (lt-false k (lefts + rights) (omega arith))
      ∙ (ap (λ i. get_or (map fact facts) i false) e ∙ w.value)))

map-same : {A B : Type 0} (xs : List A) (f g : A → B) → ((x : A) → Contains xs x → f x ≡ g x) → map f xs ≡ map g xs
map-same [] f g h = refl
map-same (x ∷ xs) f g h =
    ap (λ y. y ∷ map f xs) (h x (Contains-head x xs)) ∙ ap (λ ys. g x ∷ ys) (map-same xs f g (λ y c. h y (Contains-behind x xs y c)))

module _ (lefts rights : ℕ) (facts : List PairFact) (left right left' right' : Truths) (fact fact' : PairFact → Bool)
    (l : (k : ℕ) → k < lefts → left k ≡ left' k) (r : (k : ℕ) → k < rights → right k ≡ right' k) (f : (m : PairFact) → Contains facts m → fact m ≡ fact' m) where
  truth-inner : (k : ℕ) (b : Bool) → nat_lt k (lefts + rights) ≡ b → lefts ≤ k
      → (if b then right (k - lefts) else get_or (map fact facts) (k - (lefts + rights)) false)
      ≡ (if b then right' (k - lefts) else get_or (map fact' facts) (k - (lefts + rights)) false)
  truth-inner k true e low = r (k - lefts) (let m : k < lefts + rights = grind (arith, e) in omega (arith, m))
  truth-inner k false e low = ap (λ bs. get_or bs (k - (lefts + rights)) false) (map-same facts fact fact' f)

  truth-outer : (k : ℕ) (b : Bool) → nat_lt k lefts ≡ b
      → (if b then left k else (if nat_lt k (lefts + rights) then right (k - lefts) else get_or (map fact facts) (k - (lefts + rights)) false))
      ≡ (if b then left' k else (if nat_lt k (lefts + rights) then right' (k - lefts) else get_or (map fact' facts) (k - (lefts + rights)) false))
  truth-outer k true e = l k (grind (arith, e))
  truth-outer k false e = truth-inner k (nat_lt k (lefts + rights)) refl (grind (arith, e))

  pub label_row-same : (n m : ℕ) → n ≡ m → label_row lefts rights facts n left right fact ≡ label_row lefts rights facts m left' right' fact'
  label_row-same n m e =
      let same : (k : ℕ) → truth_at lefts rights facts left right fact k ≡ truth_at lefts rights facts left' right' fact' k = λ k. truth-outer k (nat_lt k lefts) refl in
      ap (λ x. x ∷ bit_row (lefts + rights + length facts) (truth_at lefts rights facts left right fact)) e
      ∙ (λ i. m ∷ bit_row (lefts + rights + length facts) (λ k. same k i))

pub length-label_row : (lefts rights : ℕ) (facts : List PairFact) (n : ℕ) (left right : Truths) (fact : PairFact → Bool)
    → length (label_row lefts rights facts n left right fact) ≡ suc (words_for (lefts + rights + length facts))
length-label_row lefts rights facts n left right fact =
    ap suc (length-bit_row (lefts + rights + length facts) (truth_at lefts rights facts left right fact))
