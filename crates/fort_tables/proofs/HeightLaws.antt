-- Terms of bounded height over a signature are the members of a list; terms of every height are infinitely many.
use Rattle.std.proofs.Common.{◌≡◌, ℕ, zero, suc, ◌<◌, ◌≤◌, max, List, [], ◌∷◌, ◌++◌, map, length, ap, sym, arith, subst, inl, inr, ⊎_elim}
use Rattle.std.specs.Prelude.{Contains}
use Rattle.std.proofs.lemmas.Bool.{cases_lt}
use Rattle.std.proofs.lemmas.List.Elements.{Contains-append_left, Contains-append_right}
use Rattle.fort_theory.specs.Logic.{HasInfinitelyMany}
use Rattle.fort_theory.specs.Trees.{Tree, Trees, Node, Nil, More, tree_count, height, heights}
use Rattle.fort_theory.specs.Signatures.{Signature, IsGround, AreGround}
use Rattle.fort_theory.proofs.Members.{Contains-head, Contains-behind, Contains-cons_cases, Contains-none}
use Rattle.fort_theory.proofs.Lists.{Contains-map}
use Rattle.fort_tables.specs.Tuples.{arity}
use Rattle.fort_tables.proofs.TupleLaws.{arity_from_get}
use Rattle.fort_tables.specs.Heights.{HasHeightsTo, HasEveryHeight}

-- the greatest height of a list
abbrev pub greatest : List Tree → ℕ
greatest [] = 0
greatest (x ∷ xs) = max (height x) (greatest xs)

pub below_greatest : (xs : List Tree) (u : Tree) → Contains xs u → height u ≤ greatest xs
below_greatest [] u c = absurd (Contains-none u c)
below_greatest (x ∷ xs) u c = elim (Contains-cons_cases x xs u c) [
  | inl e ↦ omega (arith, ap height e)
  | inr d ↦ omega (arith, below_greatest xs u d)
]

-- terms of every height are infinitely many
pub many_from_every_height : (P : Tree → Type 0) → HasEveryHeight P → HasInfinitelyMany P
many_from_every_height P tall xs none =
    let r = tall (suc (greatest xs)) in
    none r.0 ((λ c. absurd (omega (arith, r.2, below_greatest xs r.0 c))), r.1)

-- all lists of n trees of a list
abbrev pub first_with : Trees → List Tree → List Trees
first_with us [] = []
first_with us (x ∷ xs) = More x us ∷ first_with us xs

abbrev pub first_among : List Trees → List Tree → List Trees
first_among [] xs = []
first_among (us ∷ uss) xs = first_with us xs ++ first_among uss xs

abbrev pub rows_of : ℕ → List Tree → List Trees
rows_of zero xs = Nil ∷ []
rows_of (suc n) xs = first_among (rows_of n xs) xs

-- all terms of at most this height
abbrev pub nodes_of : ℕ → List Trees → List Tree
nodes_of g uss = map (Node g) uss

abbrev pub joined : {A : Type 0} → ℕ → (ℕ → List A) → List A
joined zero f = []
joined (suc n) f = joined n f ++ f n

abbrev pub over_symbols : Signature → (ℕ → List Trees) → List Tree
over_symbols sig rows = joined (length sig) (λ g. nodes_of g (rows (arity sig g)))

-- n counts the heights from 1
abbrev pub terms_below : Signature → ℕ → List Tree
terms_below sig zero = []
terms_below sig (suc n) = over_symbols sig (λ a. rows_of a (terms_below sig n))

abbrev pub AllAmong : List Tree → Trees → Type 0
AllAmong xs Nil = Unit {0}
AllAmong xs (More u us) = Contains xs u × AllAmong xs us

first_with-has : (us : Trees) (xs : List Tree) (u : Tree) → Contains xs u → Contains (first_with us xs) (More u us)
first_with-has us [] u c = absurd (Contains-none u c)
first_with-has us (x ∷ xs) u c = elim (Contains-cons_cases x xs u c) [
  | inl e ↦ subst (λ (y : Tree). Contains (More x us ∷ first_with us xs) (More y us)) e (Contains-head (More x us) (first_with us xs))
  | inr d ↦ Contains-behind (More x us) (first_with us xs) (More u us) (first_with-has us xs u d)
]

first_among-has : (uss : List Trees) (xs : List Tree) (us : Trees) (u : Tree) → Contains uss us → Contains xs u → Contains (first_among uss xs) (More u us)
first_among-has [] xs us u c d = absurd (Contains-none us c)
first_among-has (vs ∷ uss) xs us u c d = elim (Contains-cons_cases vs uss us c) [
  | inl e ↦ Contains-append_left (first_with vs xs) (first_among uss xs) (More u us) (subst (λ (w : Trees). Contains (first_with vs xs) (More u w)) e (first_with-has vs xs u d))
  | inr f ↦ Contains-append_right (first_with vs xs) (first_among uss xs) (More u us) (first_among-has uss xs us u f d)
]

rows_of-has : (xs : List Tree) (us : Trees) → AllAmong xs us → Contains (rows_of (tree_count us) xs) us
rows_of-has xs Nil h = Contains-head Nil []
rows_of-has xs (More u us) h = first_among-has (rows_of (tree_count us) xs) xs us u (rows_of-has xs us h.1) h.0

joined-has : {A : Type 0} (n : ℕ) (f : ℕ → List A) (k : ℕ) (x : A) → k < n → Contains (f k) x → Contains (joined n f) x
joined-has zero f k x l c = absurd (omega arith)
joined-has {A} (suc n) f k x l c = ⊎_elim
    (λ (m : k < n). Contains-append_left (joined n f) (f n) x (joined-has n f k x m c))
    (λ (m : n ≤ k). let e : k ≡ n = omega arith in Contains-append_right (joined n f) (f n) x (subst (λ (i : ℕ). Contains (f i) x) e c))
    (cases_lt k n)

mutual
  -- every ground term of that height is in the list
  pub terms_below-has : (sig : Signature) (n : ℕ) (u : Tree) → IsGround sig u → height u < n → Contains (terms_below sig n) u
  terms_below-has sig zero u h l = absurd (omega arith)
  terms_below-has sig (suc n) (Node g us) h l =
      let a = arity_from_get sig g (tree_count us) h.0 in
      let c = rows_of-has (terms_below sig n) us (all_terms_below sig n us h.1 (omega arith)) in
      joined-has (length sig) (λ i. nodes_of i (rows_of (arity sig i) (terms_below sig n))) g (Node g us) a.1
      (Contains-map (Node g) (rows_of (arity sig g) (terms_below sig n)) us (subst (λ (i : ℕ). Contains (rows_of i (terms_below sig n)) us) (sym a.0) c))

  all_terms_below : (sig : Signature) (n : ℕ) (us : Trees) → AreGround sig us → heights us ≤ n → AllAmong (terms_below sig n) us
  all_terms_below sig n Nil h l = tt
  all_terms_below sig n (More u us) h l = (terms_below-has sig n u h.0 (omega arith), all_terms_below sig n us h.1 (omega arith))

-- ground terms of at most one height are in one list
pub listed_from_heights : (sig : Signature) (P : Tree → Type 0) (r : ℕ) → ((u : Tree) → P u → IsGround sig u) → HasHeightsTo P r → (xs : List Tree) × ((u : Tree) → P u → Contains xs u)
listed_from_heights sig P r ground low = (terms_below sig (suc r), λ u p. terms_below-has sig (suc r) u (ground u p) (omega (arith, low u p)))

-- so they aren't infinitely many
pub not_many_from_heights : (sig : Signature) (P : Tree → Type 0) (r : ℕ) → ((u : Tree) → P u → IsGround sig u) → HasHeightsTo P r → HasInfinitelyMany P → ⊥
not_many_from_heights sig P r ground low many =
    let l = listed_from_heights sig P r ground low in
    many l.0 (λ u p. p.0 (l.1 u p.1))

-- no property has both
pub not_low_from_tall : (P : Tree → Type 0) (r : ℕ) → HasEveryHeight P → HasHeightsTo P r → ⊥
not_low_from_tall P r tall low = let t = tall (suc r) in absurd (omega (arith, t.2, low t.0 t.1))

pub every_height_weaker : (P Q : Tree → Type 0) → ((u : Tree) → P u → Q u) → HasEveryHeight P → HasEveryHeight Q
every_height_weaker P Q f tall h = let t = tall h in (t.0, f t.0 t.1, t.2)
