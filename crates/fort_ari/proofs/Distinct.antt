-- Lists of names without repeats, and the names that repeat in others.
use Rattle.std.proofs.Common.{◌≡◌, ℕ, false, List, [], ◌∷◌, ◌++◌, Contains, inl, inr, ap, sym, ◌∙◌, subst}
use Rattle.std.specs.Prelude.{bytes_eq}
use Rattle.std.specs.List.{AllByRecursion, IsDistinct}
use Rattle.std.proofs.lemmas.Bool.{both_ways, cases_Bool}
use Rattle.std.proofs.lemmas.List.Elements.{All-contains, All-from_recursion, Contains-append_right}
use Rattle.std.proofs.lemmas.Slice.Eq.{bytes_eq-Decides}
use Rattle.fort_theory.proofs.Members.{Contains-head, Contains-behind, Contains-cons_cases, Contains-none}
use Rattle.fort_grammar.specs.Declarations.{ProblemFault, LeftRepeats, RightRepeats, Shares}
use Rattle.fort_grammar.specs.RuleForms.{IsFirstMetAgain, IsFirstAlso}
use Rattle.fort_ari.specs.SideForms.{AreBadNames, InLeft, InRight, Between}
use Rattle.fort_ari.proofs.Parts.{AllByRecursion-append}
use Rattle.fort_ari.proofs.Places.{Places, Here, First, Second, places}

all_front : {A : Type 0} (P : A → Type 0) (xs ys : List A) → AllByRecursion P (xs ++ ys) → AllByRecursion P xs
all_front P [] ys h = tt
all_front P (x ∷ xs) ys h = (h.0, all_front P xs ys h.1)

pub IsDistinct-front : (xs ys : List (List ℕ)) → IsDistinct bytes_eq (xs ++ ys) → IsDistinct bytes_eq xs
unfolding IsDistinct
IsDistinct-front [] ys h = tt
IsDistinct-front (x ∷ xs) ys h = (all_front (λ y. bytes_eq x y ≡ false) xs ys h.0, IsDistinct-front xs ys h.1)

pub IsDistinct-back : (xs ys : List (List ℕ)) → IsDistinct bytes_eq (xs ++ ys) → IsDistinct bytes_eq ys
unfolding IsDistinct
IsDistinct-back [] ys h = h
IsDistinct-back (x ∷ xs) ys h = IsDistinct-back xs ys h.1

differs : (x y : List ℕ) (ys : List (List ℕ)) → AllByRecursion (λ z. bytes_eq x z ≡ false) ys → Contains ys y → x ≡ y → ⊥
differs x y ys all there same =
    both_ways _ (All-contains (λ z. bytes_eq x z ≡ false) ys y (All-from_recursion _ _ all) there) ((bytes_eq-Decides x y).1 same)

-- no name is in both parts of a list of different names
pub IsDistinct-apart : (xs ys : List (List ℕ)) (v : List ℕ) → IsDistinct bytes_eq (xs ++ ys) → Contains xs v → Contains ys v → ⊥
unfolding IsDistinct
IsDistinct-apart [] ys v h c d = Contains-none v c
IsDistinct-apart (x ∷ xs) ys v h c d =
    elim (Contains-cons_cases x xs v c) [
      | inl same ↦ differs x v (xs ++ ys) h.0 (Contains-append_right xs ys v d) same
      | inr behind ↦ IsDistinct-apart xs ys v h.1 behind d
    ]

-- no name of different ones comes before itself
pub distinct_twice : (xs ys : List (List ℕ)) (v : List ℕ) → IsDistinct bytes_eq (xs ++ v ∷ ys) → Contains xs v → ⊥
distinct_twice xs ys v h c = IsDistinct-apart xs (v ∷ ys) v h c (Contains-head v ys)

all_differ : (x : List ℕ) (ys : List (List ℕ)) → (Contains ys x → ⊥) → AllByRecursion (λ y. bytes_eq x y ≡ false) ys
all_differ x [] out = tt
all_differ x (y ∷ ys) out = (one, all_differ x ys (λ c. out (Contains-behind y ys x c)))
  where
    one : bytes_eq x y ≡ false
    one =
        elim (cases_Bool (bytes_eq x y)) [
          | inl same ↦ absurd (out (subst (Contains (y ∷ ys)) (sym ((bytes_eq-Decides x y).0 same)) (Contains-head y ys)))
          | inr other ↦ other
        ]

pub IsDistinct-joined : (xs ys : List (List ℕ)) → IsDistinct bytes_eq xs → IsDistinct bytes_eq ys → ((v : List ℕ) → Contains xs v → Contains ys v → ⊥)
    → IsDistinct bytes_eq (xs ++ ys)
unfolding IsDistinct
IsDistinct-joined [] ys h g apart = g
IsDistinct-joined (x ∷ xs) ys h g apart = (
  AllByRecursion-append (λ y. bytes_eq x y ≡ false) xs ys h.0 (all_differ x ys (apart x (Contains-head x xs))),
  IsDistinct-joined xs ys h.1 g (λ v c. apart v (Contains-behind x xs v c)),
)

-- nothing is met again among different names
pub met_not_distinct : (names : List (List ℕ)) (name : List ℕ) → IsFirstMetAgain names name → IsDistinct bytes_eq names → ⊥
met_not_distinct names name m d = distinct_twice m.front m.back name (subst (IsDistinct bytes_eq) m.split d) m.again

-- what is met again first is one name
pub met_again_unique : (names : List (List ℕ)) (x y : List ℕ) → IsFirstMetAgain names x → IsFirstMetAgain names y → x ≡ y
met_again_unique names x y a b = go (places a.front b.front a.back b.back x y (sym a.split ∙ b.split))
  where
    go : Places a.front b.front x y → x ≡ y
    go (Here e h) = h
    go (First more e) = absurd (distinct_twice a.front more x (subst (IsDistinct bytes_eq) e b.first) a.again)
    go (Second more e) = absurd (distinct_twice b.front more y (subst (IsDistinct bytes_eq) e a.first) b.again)

among : (xs ys : List (List ℕ)) (x : List ℕ) → Contains (xs ++ x ∷ ys) x
among xs ys x = Contains-append_right xs (x ∷ ys) x (Contains-head x ys)

pub also_unique : (names others : List (List ℕ)) (x y : List ℕ) → IsFirstAlso names others x → IsFirstAlso names others y → x ≡ y
also_unique names others x y a b = go (places a.front b.front a.back b.back x y (sym a.split ∙ b.split))
  where
    go : Places a.front b.front x y → x ≡ y
    go (Here e h) = h
    go (First more e) = absurd (b.before x (subst (λ zs. Contains zs x) (sym e) (among a.front more x)) a.also)
    go (Second more e) = absurd (a.before y (subst (λ zs. Contains zs y) (sym e) (among b.front more y)) b.also)

pub also_not_distinct : (names others : List (List ℕ)) (name : List ℕ) → IsFirstAlso names others name → IsDistinct bytes_eq (names ++ others) → ⊥
also_not_distinct names others name a d =
    IsDistinct-apart names others name d (subst (λ zs. Contains zs name) (sym a.split) (among a.front a.back name)) a.also

module _ (i : ℕ) (left right : List (List ℕ)) where
  -- names that differ are at no fault
  pub names_not_bad : (x : ProblemFault) → IsDistinct bytes_eq (left ++ right) → AreBadNames i left right x → ⊥
  names_not_bad x d (InLeft name m) = met_not_distinct left name m (IsDistinct-front left right d)
  names_not_bad x d (InRight name l m) = met_not_distinct right name m (IsDistinct-back left right d)
  names_not_bad x d (Between name l r a) = also_not_distinct left right name a d

  pub names_fault_unique : (x y : ProblemFault) → AreBadNames i left right x → AreBadNames i left right y → x ≡ y
  names_fault_unique x y (InLeft n m) (InLeft n' m') = ap (LeftRepeats i) (met_again_unique left n n' m m')
  names_fault_unique x y (InLeft n m) (InRight n' l m') = absurd (met_not_distinct left n m l)
  names_fault_unique x y (InLeft n m) (Between n' l r a) = absurd (met_not_distinct left n m l)
  names_fault_unique x y (InRight n l m) (InLeft n' m') = absurd (met_not_distinct left n' m' l)
  names_fault_unique x y (InRight n l m) (InRight n' l' m') = ap (RightRepeats i) (met_again_unique right n n' m m')
  names_fault_unique x y (InRight n l m) (Between n' l' r a) = absurd (met_not_distinct right n m r)
  names_fault_unique x y (Between n l r a) (InLeft n' m') = absurd (met_not_distinct left n' m' l)
  names_fault_unique x y (Between n l r a) (InRight n' l' m') = absurd (met_not_distinct right n' m' r)
  names_fault_unique x y (Between n l r a) (Between n' l' r' a') = ap (Shares i) (also_unique left right n n' a a')
