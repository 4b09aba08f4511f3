-- A tree's number in a list: 0 exactly where it isn't there, else the place where it stands; the list of a term's subterms; children of subterms are subterms.
use Rattle.std.specs.Prelude.{◌≡◌, ℕ, zero, suc, ◌<◌, List, [], ◌∷◌, ◌++◌, map, None, Some, get_or, Contains, Bool, true, false, Decides, ◌==◌, if◌then◌else◌, refl}
use Rattle.std.proofs.Common.{sym, ap, subst, arith, inl, inr, true≢false}
use Rattle.std.proofs.lemmas.List.Elements.{Contains-append_left, Contains-append_right, Contains-append_cases}
use Rattle.std.proofs.lemmas.Bool.Decides.{Decides-eqb, Decides-and}
use Rattle.fort_theory.specs.Trees.{Tree, Trees, Node, Nil, More, subtree_at, subtree_among}
use Rattle.fort_theory.proofs.Lists.{none-some, some-injective}
use Rattle.fort_theory.proofs.Members.{Contains-head, Contains-behind, Contains-cons_cases, Contains-none}
use Rattle.fort_theory.proofs.StepByRoot.{Node-equal_iff, kids-injective, first-injective, rest-injective}
use Rattle.fort_alike.specs.Subterms.{subterms, subterms_among}
use Rattle.fort_alike.specs.TermRule.{same_tree, same_trees, one_further, number_in, ListsSubterms}

mutual
  pub Decides-same_tree : (s t : Tree) → Decides (same_tree s t) (s ≡ t)
  Decides-same_tree (Node f ss) (Node g ts) =
      let d = Decides-and (f == g) (same_trees ss ts) (Decides-eqb f g) (Decides-same_trees ss ts) in
      ((λ e. (Node-equal_iff f g ss ts).1 (d.0 e)), (λ e. d.1 ((Node-equal_iff f g ss ts).0 e)))

  Decides-same_trees : (ss ts : Trees) → Decides (same_trees ss ts) (ss ≡ ts)
  Decides-same_trees Nil Nil = ((λ e. refl), (λ e. refl))
  Decides-same_trees Nil (More t ts) = ((λ e. absurd (true≢false (sym e))), (λ e. absurd (let h : Nil ≡ More t ts = e in cc)))
  Decides-same_trees (More s ss) Nil = ((λ e. absurd (true≢false (sym e))), (λ e. absurd (let h : More s ss ≡ Nil = e in cc)))
  Decides-same_trees (More s ss) (More t ts) =
      let d = Decides-and (same_tree s t) (same_trees ss ts) (Decides-same_tree s t) (Decides-same_trees ss ts) in
      ((λ e. let w = d.0 e in let a = w.0 in let b = w.1 in cc), (λ e. d.1 (first-injective e, rest-injective e)))

-- where the number isn't 0, the tree stands at its place
further_back : (v x : Tree) (xs : List Tree) (i n : ℕ) → ((j : ℕ) → n ≡ suc j → get_or (map Some xs) j None ≡ Some v)
    → one_further n ≡ suc i → get_or (map Some (x ∷ xs)) i None ≡ Some v
further_back v x xs i zero rest h = absurd (omega arith)
further_back v x xs zero (suc m) rest h = absurd (omega arith)
further_back v x xs (suc k) (suc m) rest h = rest k (omega arith)

found_back : (v x : Tree) (xs : List Tree) (i : ℕ) (b : Bool) → Decides b (x ≡ v) → ((j : ℕ) → number_in xs v ≡ suc j → get_or (map Some xs) j None ≡ Some v)
    → (if b then 1 else one_further (number_in xs v)) ≡ suc i → get_or (map Some (x ∷ xs)) i None ≡ Some v
found_back v x xs zero true d rest h = ap Some (d.0 refl)
found_back v x xs (suc i) true d rest h = absurd (omega arith)
found_back v x xs i false d rest h = further_back v x xs i (number_in xs v) rest h

pub number_in-stands : (xs : List Tree) (v : Tree) (i : ℕ) → number_in xs v ≡ suc i → get_or (map Some xs) i None ≡ Some v
number_in-stands [] v i h = absurd (omega arith)
number_in-stands (x ∷ xs) v i h = found_back v x xs i (same_tree x v) (Decides-same_tree x v) (number_in-stands xs v) h

-- the number is 0 exactly where the tree isn't there
none-further : (n : ℕ) → one_further n ≡ 0 → n ≡ 0
none-further zero h = refl
none-further (suc n) h = absurd (omega arith)

none-here : (v x : Tree) (xs : List Tree) (b : Bool) → Decides b (x ≡ v) → (number_in xs v ≡ 0 → Contains xs v → ⊥)
    → (if b then 1 else one_further (number_in xs v)) ≡ 0 → Contains (x ∷ xs) v → ⊥
none-here v x xs true d rest h c = absurd (omega arith)
none-here v x xs false d rest h c = elim (Contains-cons_cases x xs v c) [
  | inl e ↦ true≢false (sym (d.1 e))
  | inr k ↦ rest (none-further (number_in xs v) h) k
]

pub number_in-none : (xs : List Tree) (v : Tree) → number_in xs v ≡ 0 → Contains xs v → ⊥
number_in-none [] v h c = Contains-none v c
number_in-none (x ∷ xs) v h c = none-here v x xs (same_tree x v) (Decides-same_tree x v) (number_in-none xs v) h c

zero-here : (v x : Tree) (xs : List Tree) (b : Bool) → Decides b (x ≡ v) → (Contains (x ∷ xs) v → ⊥) → number_in xs v ≡ 0
    → (if b then 1 else one_further (number_in xs v)) ≡ 0
zero-here v x xs true d missing rest = absurd (missing (subst (λ y. Contains (x ∷ xs) y) (d.0 refl) (Contains-head x xs)))
zero-here v x xs false d missing rest = ap one_further rest

pub number_in-zero : (xs : List Tree) (v : Tree) → (Contains xs v → ⊥) → number_in xs v ≡ 0
number_in-zero [] v missing = refl
number_in-zero (x ∷ xs) v missing =
    zero-here v x xs (same_tree x v) (Decides-same_tree x v) missing (number_in-zero xs v (λ c. missing (Contains-behind x xs v c)))

-- the children of a subterm are subterms
abbrev pub AllAmong : List Tree → Trees → Type 0
AllAmong xs Nil = Unit {0}
AllAmong xs (More s ss) = Contains xs s × AllAmong xs ss

AllAmong-more : (xs ys : List Tree) → ((s : Tree) → Contains xs s → Contains ys s) → (ss : Trees) → AllAmong xs ss → AllAmong ys ss
AllAmong-more xs ys h Nil a = tt
AllAmong-more xs ys h (More s ss) a = (h s a.0, AllAmong-more xs ys h ss a.1)

pub Contains-own : (t : Tree) → Contains (subterms t) t
Contains-own (Node f ss) = Contains-head (Node f ss) (subterms_among ss)

own_children : (ss : Trees) → AllAmong (subterms_among ss) ss
own_children Nil = tt
own_children (More s ss) = (
  Contains-append_left (subterms s) (subterms_among ss) s (Contains-own s),
  AllAmong-more (subterms_among ss) (subterms s ++ subterms_among ss) (λ u c. Contains-append_right (subterms s) (subterms_among ss) u c) ss (own_children ss),
)

mutual
  pub children_among : (t : Tree) (f : ℕ) (ss : Trees) → Contains (subterms t) (Node f ss) → AllAmong (subterms t) ss
  children_among (Node g ts) f ss c =
      AllAmong-more (subterms_among ts) (subterms (Node g ts)) (λ u k. Contains-behind (Node g ts) (subterms_among ts) u k) ss
      (elim (Contains-cons_cases (Node g ts) (subterms_among ts) (Node f ss) c) [
        | inl e ↦ subst (λ us. AllAmong (subterms_among ts) us) (kids-injective e) (own_children ts)
        | inr k ↦ children_among_children ts f ss k
      ])

  children_among_children : (ts : Trees) (f : ℕ) (ss : Trees) → Contains (subterms_among ts) (Node f ss) → AllAmong (subterms_among ts) ss
  children_among_children Nil f ss c = absurd (Contains-none (Node f ss) c)
  children_among_children (More t ts) f ss c = elim (Contains-append_cases (subterms t) (subterms_among ts) (Node f ss) c) [
    | inl k ↦ AllAmong-more (subterms t) (subterms t ++ subterms_among ts) (λ u h. Contains-append_left (subterms t) (subterms_among ts) u h) ss (children_among t f ss k)
    | inr k ↦ AllAmong-more (subterms_among ts) (subterms t ++ subterms_among ts) (λ u h. Contains-append_right (subterms t) (subterms_among ts) u h) ss (children_among_children ts f ss k)
  ]

-- the subterms are the subtrees at the positions
mutual
  pub Contains-subtree : (t : Tree) (p : List ℕ) (v : Tree) → subtree_at t p ≡ Some v → Contains (subterms t) v
  Contains-subtree t [] v h = subst (λ u. Contains (subterms t) u) (some-injective h) (Contains-own t)
  Contains-subtree (Node f ss) (i ∷ p) v h = Contains-behind (Node f ss) (subterms_among ss) v (Contains-subtree_among ss i p v h)

  Contains-subtree_among : (ss : Trees) (i : ℕ) (p : List ℕ) (v : Tree) → subtree_among ss i p ≡ Some v → Contains (subterms_among ss) v
  Contains-subtree_among Nil i p v h = absurd (none-some h)
  Contains-subtree_among (More s ss) zero p v h = Contains-append_left (subterms s) (subterms_among ss) v (Contains-subtree s p v h)
  Contains-subtree_among (More s ss) (suc i) p v h = Contains-append_right (subterms s) (subterms_among ss) v (Contains-subtree_among ss i p v h)

mutual
  pub subtree-from_Contains : (t v : Tree) → Contains (subterms t) v → (p : List ℕ) × (subtree_at t p ≡ Some v)
  subtree-from_Contains (Node f ss) v c = elim (Contains-cons_cases (Node f ss) (subterms_among ss) v c) [
    | inl e ↦ ([], ap Some e)
    | inr k ↦ (let w = subtree-from_Contains_among ss v k in (w.0 ∷ w.1, w.2))
  ]

  subtree-from_Contains_among : (ss : Trees) (v : Tree) → Contains (subterms_among ss) v → (i : ℕ) × (p : List ℕ) × (subtree_among ss i p ≡ Some v)
  subtree-from_Contains_among Nil v c = absurd (Contains-none v c)
  subtree-from_Contains_among (More s ss) v c = elim (Contains-append_cases (subterms s) (subterms_among ss) v c) [
    | inl k ↦ (let w = subtree-from_Contains s v k in (0, w.0, w.1))
    | inr k ↦ (let w = subtree-from_Contains_among ss v k in (suc w.0, w.1, w.2))
  ]

Contains-at : (xs : List Tree) (v : Tree) (i : ℕ) → get_or (map Some xs) i None ≡ Some v → Contains xs v
Contains-at [] v i h = absurd (none-some h)
Contains-at (x ∷ xs) v zero h = subst (λ y. Contains (x ∷ xs) y) (some-injective h) (Contains-head x xs)
Contains-at (x ∷ xs) v (suc i) h = Contains-behind x xs v (Contains-at xs v i h)

pub Contains-number_in : (xs : List Tree) (v : Tree) (i : ℕ) → number_in xs v ≡ suc i → Contains xs v
Contains-number_in xs v i h = Contains-at xs v i (number_in-stands xs v i h)

-- the list of all subterms, each as often as it stands there
pub ListsSubterms-subterms : (term : Tree) → ListsSubterms term (subterms term)
ListsSubterms-subterms term v = ((λ c. subtree-from_Contains term v c), (λ w. Contains-subtree term w.0 v w.1))

-- the children of a listed tree are listed
AllAmong-listed : (term : Tree) (listed : List Tree) → ListsSubterms term listed → (ss : Trees) → AllAmong (subterms term) ss → AllAmong listed ss
AllAmong-listed term listed h ss a = AllAmong-more (subterms term) listed (λ s c. (h s).1 (subtree-from_Contains term s c)) ss a

pub children_listed : (term : Tree) (listed : List Tree) → ListsSubterms term listed → (f : ℕ) (ss : Trees) → Contains listed (Node f ss) → AllAmong listed ss
children_listed term listed h f ss c =
    let w = (h (Node f ss)).0 c in
    AllAmong-listed term listed h ss (children_among term f ss (Contains-subtree term w.0 (Node f ss) w.1))

pub Contains-term : (term : Tree) (listed : List Tree) → ListsSubterms term listed → Contains listed term
Contains-term term listed h = (h term).1 ([], refl)

-- the number is that of the first place where the tree stands
at-here : (v x : Tree) (xs : List Tree) (i : ℕ) (b : Bool) → Decides b (x ≡ v) → get_or (map Some (x ∷ xs)) i None ≡ Some v
    → ((k : ℕ) → k < i → get_or (map Some (x ∷ xs)) k None ≡ Some v → ⊥)
    → ((j : ℕ) → get_or (map Some xs) j None ≡ Some v → ((k : ℕ) → k < j → get_or (map Some xs) k None ≡ Some v → ⊥) → number_in xs v ≡ suc j)
    → (if b then 1 else one_further (number_in xs v)) ≡ suc i
at-here v x xs zero true d h first rest = refl
at-here v x xs (suc i) true d h first rest = absurd (first 0 (omega arith) (ap Some (d.0 refl)))
at-here v x xs zero false d h first rest = absurd (true≢false (sym (d.1 (some-injective h))))
at-here v x xs (suc i) false d h first rest = ap one_further (rest i h (λ k l. first (suc k) (omega arith)))

pub number_in-at : (xs : List Tree) (v : Tree) (i : ℕ) → get_or (map Some xs) i None ≡ Some v
    → ((k : ℕ) → k < i → get_or (map Some xs) k None ≡ Some v → ⊥) → number_in xs v ≡ suc i
number_in-at [] v i h first = absurd (none-some h)
number_in-at (x ∷ xs) v i h first = at-here v x xs i (same_tree x v) (Decides-same_tree x v) h first (number_in-at xs v)
