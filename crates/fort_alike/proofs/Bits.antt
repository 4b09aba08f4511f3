-- The tests of the rule decide what they are meant to.
use Rattle.std.specs.Prelude.{◌≡◌, ◌↔◌, ◌⊎◌, ℕ, suc, ◌<◌, List, [], ◌∷◌, map, length, get_or, Contains, Bool, true, false, Decides, ◌&&◌, ◌||◌, ◌==◌, if◌then◌else◌, refl}
use Rattle.std.proofs.Common.{sym, ap, subst, ◌∙◌, arith, inl, inr, true≢false}
use Rattle.std.proofs.lemmas.Bool.Decides.{Decides-eqb, Decides-like, Decides-and, Decides-or, same_from_decides}
use Rattle.fort_theory.specs.Patterns.{Pattern, Patterns, Any, At, NoPattern, MorePatterns, Pair}
use Rattle.fort_theory.proofs.Members.{Contains-none, Contains-cons_cases, Contains-head, Contains-behind}
use Rattle.fort_tables.specs.BitRows.{words_for, bit_row}
use Rattle.fort_tables.proofs.BitRowLaws.{has_bit-bit_row, words_enough, length-bit_row}
use Rattle.fort_alike.specs.Alike.{Fact, Same, Steps, StepsBelow, StepsInParallel, IsNormal, Goes, GoesStrictly}
use Rattle.fort_alike.specs.ListedAtoms.{Mark, OfFirst, OfSecond, OfBoth}
use Rattle.fort_alike.specs.AtomRules.{same_pattern, same_patterns, same_mark, fact_number, place, row_of, has, any_pair}

-- tests that are made of others
pub Decides-true : {P : Type 0} → P → Decides true P
Decides-true h = ((λ e. h), (λ p. refl))

pub Decides-false : {P : Type 0} → (P → ⊥) → Decides false P
Decides-false h = ((λ e. absurd (true≢false (sym e))), (λ p. absurd (h p)))

pub Decides-and_then : {P Q : Type 0} (x y : Bool) → Decides x P → (P → Decides y Q) → Decides (x && y) (P × Q)
Decides-and_then true y d k = let w = k (d.0 refl) in ((λ e. (d.0 refl, w.0 e)), (λ h. w.1 h.1))
Decides-and_then false y d k = ((λ e. absurd (true≢false (sym e))), (λ h. d.1 h.0))

pub Decides-iff : {P Q : Type 0} (r : Bool) → P ↔ Q → Decides r P → Decides r Q
Decides-iff r w d = Decides-like r w.0 w.1 d

pub iff_from_same : {P Q : Type 0} (r s : Bool) → Decides r P → Decides s Q → r ≡ s → P ↔ Q
iff_from_same r s d k e = ((λ p. k.0 (sym e ∙ d.1 p)), (λ q. d.0 (e ∙ k.1 q)))

pub same_from_iff : {P Q : Type 0} (r s : Bool) → Decides r P → Decides s Q → P ↔ Q → r ≡ s
same_from_iff r s d k w = same_from_decides r s d (Decides-iff s (w.1, w.0) k)

-- equality of patterns and marks
any-at : {f : ℕ} {ps : Patterns} → Any ≡ At f ps → ⊥
any-at h = cc

at-any : {f : ℕ} {ps : Patterns} → At f ps ≡ Any → ⊥
at-any h = cc

at-sym : {f g : ℕ} {ps qs : Patterns} → At f ps ≡ At g qs → f ≡ g
at-sym h = cc

at-args : {f g : ℕ} {ps qs : Patterns} → At f ps ≡ At g qs → ps ≡ qs
at-args h = cc

at-equal : {f g : ℕ} {ps qs : Patterns} → f ≡ g → ps ≡ qs → At f ps ≡ At g qs
at-equal e h = cc

none-more : {p : Pattern} {ps : Patterns} → NoPattern ≡ MorePatterns p ps → ⊥
none-more h = cc

more-none : {p : Pattern} {ps : Patterns} → MorePatterns p ps ≡ NoPattern → ⊥
more-none h = cc

more-first : {p q : Pattern} {ps qs : Patterns} → MorePatterns p ps ≡ MorePatterns q qs → p ≡ q
more-first h = cc

more-rest : {p q : Pattern} {ps qs : Patterns} → MorePatterns p ps ≡ MorePatterns q qs → ps ≡ qs
more-rest h = cc

more-equal : {p q : Pattern} {ps qs : Patterns} → p ≡ q → ps ≡ qs → MorePatterns p ps ≡ MorePatterns q qs
more-equal e h = cc

mutual
  pub Decides-same_pattern : (p q : Pattern) → Decides (same_pattern p q) (p ≡ q)
  Decides-same_pattern Any Any = ((λ e. refl), (λ e. refl))
  Decides-same_pattern Any (At g qs) = ((λ e. absurd (true≢false (sym e))), (λ h. absurd (any-at h)))
  Decides-same_pattern (At f ps) Any = ((λ e. absurd (true≢false (sym e))), (λ h. absurd (at-any h)))
  Decides-same_pattern (At f ps) (At g qs) =
      Decides-like ((f == g) && same_patterns ps qs) (λ w. at-equal w.0 w.1) (λ h. (at-sym h, at-args h))
      (Decides-and (f == g) (same_patterns ps qs) (Decides-eqb f g) (Decides-same_patterns ps qs))

  Decides-same_patterns : (ps qs : Patterns) → Decides (same_patterns ps qs) (ps ≡ qs)
  Decides-same_patterns NoPattern NoPattern = ((λ e. refl), (λ e. refl))
  Decides-same_patterns NoPattern (MorePatterns q qs) = ((λ e. absurd (true≢false (sym e))), (λ h. absurd (none-more h)))
  Decides-same_patterns (MorePatterns p ps) NoPattern = ((λ e. absurd (true≢false (sym e))), (λ h. absurd (more-none h)))
  Decides-same_patterns (MorePatterns p ps) (MorePatterns q qs) =
      Decides-like (same_pattern p q && same_patterns ps qs) (λ w. more-equal w.0 w.1) (λ h. (more-first h, more-rest h))
      (Decides-and (same_pattern p q) (same_patterns ps qs) (Decides-same_pattern p q) (Decides-same_patterns ps qs))

abbrev pub fact_back : ℕ → Fact
fact_back n = get_or (Same ∷ Steps ∷ StepsBelow ∷ StepsInParallel ∷ IsNormal ∷ Goes ∷ GoesStrictly ∷ []) n Same

fact_back-fact_number : (k : Fact) → fact_back (fact_number k) ≡ k
fact_back-fact_number Same = refl
fact_back-fact_number Steps = refl
fact_back-fact_number StepsBelow = refl
fact_back-fact_number StepsInParallel = refl
fact_back-fact_number IsNormal = refl
fact_back-fact_number Goes = refl
fact_back-fact_number GoesStrictly = refl

Decides-same_fact : (k l : Fact) → Decides (fact_number k == fact_number l) (k ≡ l)
Decides-same_fact k l =
    Decides-like (fact_number k == fact_number l) (λ e. sym (fact_back-fact_number k) ∙ (ap fact_back e ∙ fact_back-fact_number l)) (λ e. ap fact_number e)
    (Decides-eqb (fact_number k) (fact_number l))

first-same : {p q : Pattern} → OfFirst p ≡ OfFirst q → p ≡ q
first-same h = cc

second-same : {p q : Pattern} → OfSecond p ≡ OfSecond q → p ≡ q
second-same h = cc

both-same : {p q : Fact} → OfBoth p ≡ OfBoth q → p ≡ q
both-same h = cc

pub Decides-same_mark : (m n : Mark) → Decides (same_mark m n) (m ≡ n)
Decides-same_mark (OfFirst p) (OfFirst q) = Decides-like (same_pattern p q) (λ e. ap OfFirst e) first-same (Decides-same_pattern p q)
Decides-same_mark (OfFirst p) (OfSecond q) = Decides-false (λ h. cc)
Decides-same_mark (OfFirst p) (OfBoth l) = Decides-false (λ h. cc)
Decides-same_mark (OfSecond p) (OfFirst q) = Decides-false (λ h. cc)
Decides-same_mark (OfSecond p) (OfSecond q) = Decides-like (same_pattern p q) (λ e. ap OfSecond e) second-same (Decides-same_pattern p q)
Decides-same_mark (OfSecond p) (OfBoth l) = Decides-false (λ h. cc)
Decides-same_mark (OfBoth k) (OfFirst q) = Decides-false (λ h. cc)
Decides-same_mark (OfBoth k) (OfSecond q) = Decides-false (λ h. cc)
Decides-same_mark (OfBoth k) (OfBoth l) = Decides-like (fact_number k == fact_number l) (λ e. ap OfBoth e) both-same (Decides-same_fact k l)

-- the bit of a mark is read where it was written
record Found (b : Mark → Bool) (xs : List Mark) (m : Mark) (k : ℕ) : Type 0 where
  within : k < length xs
  value : get_or (map b xs) k false ≡ b m

found-behind : (b : Mark → Bool) (xs : List Mark) (m x : Mark) (k : ℕ) → Found b xs m k → Found b (x ∷ xs) m (suc k)
found-behind b xs m x k h = record { within = omega (arith, h.within); value = h.value }

found-cases : (b : Mark → Bool) (xs : List Mark) (m x : Mark) → (t : Bool) → same_mark x m ≡ t → Contains (x ∷ xs) m
    → (Contains xs m → Found b xs m (place xs m)) → Found b (x ∷ xs) m (if t then 0 else suc (place xs m))
found-cases b xs m x true h c rest = record { within = omega arith; value = ap b ((Decides-same_mark x m).0 h) }
found-cases b xs m x false h c rest = elim (Contains-cons_cases x xs m c) [
  | inl e ↦ absurd (true≢false (sym ((Decides-same_mark x m).1 e) ∙ h))
  | inr k ↦ found-behind b xs m x (place xs m) (rest k)
]

found : (b : Mark → Bool) (xs : List Mark) (m : Mark) → Contains xs m → Found b xs m (place xs m)
found b [] m c = absurd (Contains-none m c)
found b (x ∷ xs) m c = found-cases b xs m x (same_mark x m) refl c (λ k. found b xs m k)

pub has-row_of : (marks : List Mark) (n : ℕ) (b : Mark → Bool) (m : Mark) → Contains marks m → has marks (row_of marks n b) m ≡ b m
has-row_of marks n b m c = let f = found b marks m c in
    has_bit-bit_row (length marks) (λ k. get_or (map b marks) k false) (place marks m) (words_enough (length marks) (place marks m) f.within) ∙ f.value

map-same : {A B : Type 0} (xs : List A) (f g : A → B) → ((x : A) → Contains xs x → f x ≡ g x) → map f xs ≡ map g xs
map-same [] f g h = refl
map-same (x ∷ xs) f g h =
    ap (λ y. y ∷ map f xs) (h x (Contains-head x xs)) ∙ ap (λ ys. g x ∷ ys) (map-same xs f g (λ y c. h y (Contains-behind x xs y c)))

pub row_of-same : (marks : List Mark) (n k : ℕ) (b c : Mark → Bool) → n ≡ k → ((m : Mark) → Contains marks m → b m ≡ c m)
    → row_of marks n b ≡ row_of marks k c
row_of-same marks n k b c e h =
    ap (λ i. i ∷ bit_row (length marks) (λ j. get_or (map b marks) j false)) e
    ∙ ap (λ ys. k ∷ bit_row (length marks) (λ j. get_or ys j false)) (map-same marks b c h)

pub length-row_of : (marks : List Mark) (n : ℕ) (b : Mark → Bool) → length (row_of marks n b) ≡ suc (words_for (length marks))
length-row_of marks n b = ap suc (length-bit_row (length marks) (λ j. get_or (map b marks) j false))

-- some rule
abbrev pub SomePair : (Pair → Type 0) → List Pair → Type 0
SomePair P rs = (r : Pair) × Contains rs r × P r

SomePair-cases : (P : Pair → Type 0) (r : Pair) (rs : List Pair) → (s : Pair) → Contains (r ∷ rs) s → P s → P r ⊎ SomePair P rs
SomePair-cases P r rs s c h = elim (Contains-cons_cases r rs s c) [ inl e ↦ inl (subst P (sym e) h) | inr k ↦ inr (s, k, h) ]

pub Decides-any_pair : (test : Pair → Bool) (P : Pair → Type 0) (rs : List Pair) → ((r : Pair) → Contains rs r → Decides (test r) (P r))
    → Decides (any_pair test rs) (SomePair P rs)
Decides-any_pair test P [] h = Decides-false (λ w. Contains-none w.0 w.1)
Decides-any_pair test P (r ∷ rs) h =
    Decides-like (test r || any_pair test rs)
    (λ w. elim w [ inl a ↦ (r, Contains-head r rs, a) | inr b ↦ (b.0, Contains-behind r rs b.0 b.1, b.2) ])
    (λ w. SomePair-cases P r rs w.0 w.1 w.2)
    (Decides-or (test r) (any_pair test rs) (h r (Contains-head r rs)) (Decides-any_pair test P rs (λ s c. h s (Contains-behind r rs s c))))
