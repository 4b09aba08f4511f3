-- To believe: when a list of pairs of patterns is the closure of an index, and at which place a list fails, and why.
use Rattle.std.specs.Prelude.{◌≡◌, ℕ, ◌+◌, ◌*◌, ◌<◌, ◌≤◌, List, map, length, take, get_or, Contains}
use Rattle.fort_theory.specs.Sides.{at_index}
use Rattle.fort_theory.specs.Patterns.{Pattern, Any, At, Patterns, NoPattern, MorePatterns, Pair, PatternSystem}
use Rattle.fort_theory.specs.PatternOrder.{AreSubpatternsInOrder}
use Rattle.fort_alike.specs.Atoms.{pairs_for}
use Rattle.fort_alike.specs.ListedClosures as closures
use Rattle.fort_alike.specs.ListedClosures.{Which, Why, Pair as Item, relation_of}
use Rattle.fort_certificate_theory.specs.Outcomes.{StepOutcome, Fine, Fails, Range, Unfounded, Open}

-- the two patterns of each rule, and the patterns within right sides and those within left sides, in their order
pub record ClosureRules : Type 0 where
  pub pairs : List Pair
  pub rights : List Pattern
  pub lefts : List Pattern

-- the patterns within the sides of some pairs, each once and in order
pub record AreSidePatterns (pairs : List Pair) (lefts rights : List Pattern) : Type 0 where
  pub left : AreSubpatternsInOrder (map (λ (pair : Pair). pair.0) pairs) lefts
  pub right : AreSubpatternsInOrder (map (λ (pair : Pair). pair.1) pairs) rights

-- the rules of the index; for conversions, each rule the other way round too, behind all others
pub record AreClosureRules (system : PatternSystem) (which : Which) (index : ℕ) (c : ClosureRules) : Type 0 where
  pub pairs : c.pairs ≡ pairs_for (relation_of which) (at_index index system.rules)
  pub patterns : AreSidePatterns c.pairs c.lefts c.rights

abbrev pub IsPatternAt : List Pattern → ℕ → Pattern → Type 0
IsPatternAt patterns k p = (k < length patterns) × (get_or patterns k Any ≡ p)

-- the numbers of a right pattern and of a left one
abbrev pub numbers_of : List Item → List (ℕ × ℕ)
numbers_of items = map (λ (e : Item). (e.p, e.q)) items

abbrev pub IsListed : List Item → ℕ → ℕ → Type 0
IsListed items p q = Contains (numbers_of items) (p, q)

-- the pair of a right pattern and a left pattern is listed
pub record AreListed (c : ClosureRules) (items : List Item) (x y : Pattern) : Type 0 where
  pub p : ℕ
  pub q : ℕ
  pub right : IsPatternAt c.rights p x
  pub left : IsPatternAt c.lefts q y
  pub listed : IsListed items p q

-- one by one, as many of each
abbrev pub AllListed : ClosureRules → List Item → Patterns → Patterns → Type 0
AllListed c items NoPattern NoPattern = Unit {0}
AllListed c items NoPattern (MorePatterns y ys) = ⊥
AllListed c items (MorePatterns x xs) NoPattern = ⊥
AllListed c items (MorePatterns x xs) (MorePatterns y ys) = AreListed c items x y × AllListed c items xs ys

-- why a pair follows from those listed
pub data Follows (c : ClosureRules) (items : List Item) : Why → Pattern → Pattern → Type 0 where
  -- one of the two is Any
  AnyRight : {y : Pattern} → Follows c items closures.Any Any y
  AnyLeft : {x : Pattern} → Follows c items closures.Any x Any
  -- two patterns of one symbol, whose arguments are listed one by one
  ByArguments : {f : ℕ} {xs ys : Patterns} → AllListed c items xs ys → Follows c items closures.Kids (At f xs) (At f ys)
  -- to the left side of a rule, and on from its right side
  ByRule : {k : ℕ} {x y : Pattern} (pair : Pair) → k < length c.pairs → get_or c.pairs k pair ≡ pair → AreListed c items x pair.0
      → AreListed c items pair.1 y → Follows c items (closures.Rule k) x y

abbrev pub IsRuleBelow : ℕ → Why → Type 0
IsRuleBelow n (closures.Rule k) = k < n
IsRuleBelow n other = Unit {0}

-- the numbers of the item are those of patterns and rules
pub record IsWithin (c : ClosureRules) (e : Item) : Type 0 where
  pub right : e.p < length c.rights
  pub left : e.q < length c.lefts
  pub rule : IsRuleBelow (length c.pairs) e.why

-- the pair of these numbers follows for this reason
abbrev pub FollowsBy : ClosureRules → List Item → ℕ → ℕ → Why → Type 0
FollowsBy c items p q why = Follows c items why (get_or c.rights p Any) (get_or c.lefts q Any)

abbrev pub FollowsAt : ClosureRules → List Item → ℕ → ℕ → Type 0
FollowsAt c items p q = (why : Why) × FollowsBy c items p q why

-- the item follows from these for its reason
abbrev pub IsFounded : ClosureRules → List Item → Item → Type 0
IsFounded c earlier e = FollowsBy c earlier e.p e.q e.why

-- the first n items are within and founded on earlier ones
pub record AreFounded (c : ClosureRules) (items : List Item) (n : ℕ) : Type 0 where
  pub count : n ≤ length items
  pub within : (i : ℕ) (d : Item) → i < n → IsWithin c (get_or items i d)
  pub founded : (i : ℕ) (d : Item) → i < n → IsFounded c (take i items) (get_or items i d)

-- the pairs are numbered right pattern by right pattern
abbrev pub number : ClosureRules → ℕ → ℕ → ℕ
number c p q = p * length c.lefts + q

-- each pair with a number below n that follows is listed
abbrev pub IsClosedBelow : ClosureRules → List Item → ℕ → Type 0
IsClosedBelow c items n =
    (p q : ℕ) → p < length c.rights → q < length c.lefts → number c p q < n → FollowsAt c items p q → IsListed items p q

abbrev pub IsClosed : ClosureRules → List Item → Type 0
IsClosed c items = (p q : ℕ) → p < length c.rights → q < length c.lefts → FollowsAt c items p q → IsListed items p q

pub data IsClosureOutcome (c : ClosureRules) (items : List Item) : StepOutcome → Type 0 where
  IsRight : AreFounded c items (length items) → IsClosed c items → IsClosureOutcome c items Fine
  NotWithin : (i : ℕ) (d : Item) → AreFounded c items i → i < length items → (IsWithin c (get_or items i d) → ⊥)
      → IsClosureOutcome c items (Fails i Range)
  NotFounded : (i : ℕ) (d : Item) → AreFounded c items i → i < length items → IsWithin c (get_or items i d)
      → (IsFounded c (take i items) (get_or items i d) → ⊥) → IsClosureOutcome c items (Fails i Unfounded)
  -- the first pair that follows and isn't listed
  NotClosed : (p q : ℕ) → AreFounded c items (length items) → p < length c.rights → q < length c.lefts → FollowsAt c items p q
      → (IsListed items p q → ⊥) → IsClosedBelow c items (number c p q) → IsClosureOutcome c items (Fails (number c p q) Open)
