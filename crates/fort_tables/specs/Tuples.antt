-- To believe: an optional tuple has for each column a tree or nothing; its root has each tree's symbol, and its child j has each tree's child j, where there is one.
use Rattle.std.specs.Prelude.{◌≡◌, ℕ, zero, suc, ◌+◌, ◌*◌, ◌<◌, ◌≤◌, max, List, [], ◌∷◌, map, length, replicate, Option, None, Some, get_or, nat_lt, if◌then◌else◌}
use Rattle.fort_theory.specs.Trees.{Tree, Trees, Node, Nil, More, height, tree_count}
use Rattle.fort_theory.specs.Signatures.{Symbol, Signature, IsGround}

abbrev pub Tuple : Type 0
Tuple = List (Option Tree)

-- for each column a symbol or nothing
abbrev pub TupleSymbol : Type 0
TupleSymbol = List (Option ℕ)

-- n columns, all of them absent
abbrev pub all_absent : {A : Type 0} → ℕ → List (Option A)
all_absent {A} n = replicate {A = Option A} n None

-- some column is present
abbrev pub IsPresent : {A : Type 0} → List (Option A) → Type 0
IsPresent [] = ⊥
IsPresent (None ∷ t) = IsPresent t
IsPresent (Some x ∷ t) = Unit {0}

-- each column is present
abbrev pub IsFull : {A : Type 0} → List (Option A) → Type 0
IsFull [] = Unit {0}
IsFull (None ∷ t) = ⊥
IsFull (Some x ∷ t) = IsFull t

-- bit i is 1 where column i is present
abbrev pub presence : {A : Type 0} → List (Option A) → ℕ
presence [] = 0
presence (None ∷ t) = 2 * presence t
presence (Some x ∷ t) = 1 + 2 * presence t

-- each tree is a ground term
abbrev pub AreGroundColumns : Signature → Tuple → Type 0
AreGroundColumns sig [] = Unit {0}
AreGroundColumns sig (None ∷ t) = AreGroundColumns sig t
AreGroundColumns sig (Some x ∷ t) = IsGround sig x × AreGroundColumns sig t

-- an optional tuple of grounded terms, not all of them absent
pub record IsTuple (sig : Signature) (columns : ℕ) (t : Tuple) : Type 0 where
  pub width : length t ≡ columns
  pub present : IsPresent t
  pub grounded : AreGroundColumns sig t

-- the symbols at the roots
abbrev pub root : Tuple → TupleSymbol
root [] = []
root (None ∷ t) = None ∷ root t
root (Some (Node f ts) ∷ t) = Some f ∷ root t

-- the tree at a place
abbrev pub tree_at : Trees → ℕ → Option Tree
tree_at Nil j = None
tree_at (More t ts) zero = Some t
tree_at (More t ts) (suc j) = tree_at ts j

-- child j: in each column child j of the tree there, or nothing
abbrev pub kid : Tuple → ℕ → Tuple
kid [] j = []
kid (None ∷ t) j = None ∷ kid t j
kid (Some (Node f ts) ∷ t) j = tree_at ts j ∷ kid t j

-- as many children as the tree with the most
abbrev pub kid_count : Tuple → ℕ
kid_count [] = 0
kid_count (None ∷ t) = kid_count t
kid_count (Some (Node f ts) ∷ t) = max (tree_count ts) (kid_count t)

-- the first n values of a function
abbrev pub tabulate : {A : Type 0} → ℕ → (ℕ → A) → List A
tabulate zero f = []
tabulate (suc n) f = f 0 ∷ tabulate n (λ k. f (suc k))

abbrev pub kids : Tuple → List Tuple
kids t = tabulate (kid_count t) (kid t)

abbrev pub head_column : Tuple → Option Tree
head_column [] = None
head_column (x ∷ t) = x

abbrev pub tail_columns : Tuple → Tuple
tail_columns [] = []
tail_columns (x ∷ t) = t

-- the trees before the first absent one
abbrev pub present_trees : List (Option Tree) → Trees
present_trees [] = Nil
present_trees (None ∷ xs) = Nil
present_trees (Some t ∷ xs) = More t (present_trees xs)

-- the tuple of this root and these children: column by column, the symbol over the children's trees of that column
abbrev pub rebuilt : TupleSymbol → List Tuple → Tuple
rebuilt [] ts = []
rebuilt (None ∷ f) ts = None ∷ rebuilt f (map tail_columns ts)
rebuilt (Some g ∷ f) ts = Some (Node g (present_trees (map head_column ts))) ∷ rebuilt f (map tail_columns ts)

-- 0 where no column is present, else one more than the greatest height
abbrev pub level : Tuple → ℕ
level [] = 0
level (None ∷ t) = level t
level (Some x ∷ t) = max (suc (height x)) (level t)

abbrev pub folded : {A : Type 0} → (TupleSymbol → List A → A) → ℕ → Tuple → A
folded step zero t = step (root t) []
folded step (suc n) t = step (root t) (tabulate (kid_count t) (λ j. folded step n (kid t j)))

-- the value of a tuple by its root and the values of its children; a tuple's children have a smaller level
abbrev pub fold_tuple : {A : Type 0} → (TupleSymbol → List A → A) → Tuple → A
fold_tuple step t = folded step (level t) t

-- the arity of a symbol of the signature
abbrev pub arity : Signature → ℕ → ℕ
arity sig g = get_or (map (λ (s : Symbol). s.arity) sig) g 0

abbrev pub AreSymbols : Signature → TupleSymbol → Type 0
AreSymbols sig [] = Unit {0}
AreSymbols sig (None ∷ f) = AreSymbols sig f
AreSymbols sig (Some g ∷ f) = (g < length sig) × AreSymbols sig f

-- symbols of the signature, not all of them absent
pub record IsTupleSymbol (sig : Signature) (columns : ℕ) (f : TupleSymbol) : Type 0 where
  pub width : length f ≡ columns
  pub present : IsPresent f
  pub symbols : AreSymbols sig f

-- the largest arity
abbrev pub symbol_kids : Signature → TupleSymbol → ℕ
symbol_kids sig [] = 0
symbol_kids sig (None ∷ f) = symbol_kids sig f
symbol_kids sig (Some g ∷ f) = max (arity sig g) (symbol_kids sig f)

-- child j has present exactly the columns whose symbol has an arity above j
abbrev pub kid_presence : Signature → TupleSymbol → ℕ → ℕ
kid_presence sig [] j = 0
kid_presence sig (None ∷ f) j = 2 * kid_presence sig f j
kid_presence sig (Some g ∷ f) j = (if nat_lt j (arity sig g) then 1 else 0) + 2 * kid_presence sig f j

-- the same, as a fact about the child
abbrev pub FitsKid : Signature → TupleSymbol → ℕ → Tuple → Type 0
FitsKid sig [] j [] = Unit {0}
FitsKid sig [] j (x ∷ t) = ⊥
FitsKid sig (x ∷ f) j [] = ⊥
FitsKid sig (None ∷ f) j (None ∷ t) = FitsKid sig f j t
FitsKid sig (None ∷ f) j (Some y ∷ t) = ⊥
FitsKid sig (Some g ∷ f) j (None ∷ t) = (arity sig g ≤ j) × FitsKid sig f j t
FitsKid sig (Some g ∷ f) j (Some y ∷ t) = (j < arity sig g) × FitsKid sig f j t

-- these tuples are children under this tuple symbol
pub record AreKids (sig : Signature) (f : TupleSymbol) (ts : List Tuple) : Type 0 where
  pub count : length ts ≡ symbol_kids sig f
  pub fits : (j : ℕ) → j < length ts → FitsKid sig f j (get_or ts j [])
  pub grounded : (j : ℕ) → j < length ts → AreGroundColumns sig (get_or ts j [])
