-- Inside: rules and patterns by numbers; what one pair does to the pairs listed so far, and which pairs are open.
use Rattle.std.specs.Prelude.{◌≡◌, ℕ, ◌+◌, ◌*◌, ◌^◌, ◌<◌, List, length, take, get_or, None, nat_lt, Bool, true, false, not, ◌==◌, ◌&&◌, ◌||◌, Decides, Result, Ok, Err}
use Rattle.fort_theory.specs.Patterns.{Pair, PatternSystem}
use Rattle.fort_tables.specs.BitRows.{has_bit}
use Rattle.fort_label_bits.specs.NumberedView.{AreNumbersOf}
use Rattle.fort_label_bits.specs.RulePlaces.{ArePlacesOf}
use Rattle.fort_alike.specs.ListedClosures as closures
use Rattle.fort_alike.specs.ListedClosures.{Which, Why, Pair as Item}
use Rattle.fort_certificate_theory.specs.Outcomes.{Fails}
use Rattle.fort_certificate_theory.specs.ClosureSteps.{ClosureRules, AreSidePatterns, AreClosureRules, IsListed, AreFounded, IsClosureOutcome}
use Rattle.fort_check_steps.specs.PairTests.{has_pair, by_reason, follows}
use Rattle.fort_check_steps.specs.StepAnswers.{as_reason}
use Rattle.fort_check_steps.specs.declared.pairs.PairRules.{PairRules}
use Rattle.fort_check_steps.specs.declared.failure.Failure.{Failure}
use Rattle.fort_check_steps.specs.declared.failure.Reason.{Reason}
use Rattle.fort_check_steps.specs.declared.failure.Reason.TheVariants.{Range, Unfounded}

-- these rules and patterns, by numbers
pub record IsPairRules (c : ClosureRules) (r : PairRules) : Type 0 where
  pub patterns : AreSidePatterns c.pairs c.lefts c.rights
  pub rights : AreNumbersOf c.rights r.rights.items
  pub lefts : AreNumbersOf c.lefts r.lefts.items
  pub rules : ArePlacesOf c.lefts c.rights c.pairs r.rules.items

abbrev pub rule_test : ℕ → Why → Bool
rule_test n closures.Any = true
rule_test n closures.Kids = true
rule_test n (closures.Rule k) = nat_lt k n

abbrev pub within_test : PairRules → Item → Bool
within_test r e = (nat_lt e.p (length r.rights.items) && nat_lt e.q (length r.lefts.items)) && rule_test (length r.rules.items) e.why

-- whether the pair is listed, and follows from those listed
abbrev pub has : PairRules → List ℕ → ℕ → ℕ → Bool
has r words = has_pair (length r.lefts.items) words

abbrev pub founded_test : PairRules → List ℕ → Item → Bool
founded_test r words e = by_reason (has r words) (get_or r.rights.items e.p None) (get_or r.lefts.items e.q None) r.rules.items e.p e.q e.why

abbrev pub follows_test : PairRules → List ℕ → ℕ → ℕ → Bool
follows_test r words p q = follows (has r words) (get_or r.rights.items p None) (get_or r.lefts.items q None) r.rules.items p q

pub record IsPairTaken (r : PairRules) (e : Item) (old new : List ℕ) : Type 0 where
  pub within : within_test r e ≡ true
  pub founded : founded_test r old e ≡ true
  pub size : length new ≡ length old
  pub listed : (i : ℕ) → has_bit new i ≡ ((e.p * length r.lefts.items + e.q == i) || has_bit old i)

abbrev pub IsPairRefused : PairRules → Item → List ℕ → Reason → Type 0
IsPairRefused r e words Range = within_test r e ≡ false
IsPairRefused r e words Unfounded = (within_test r e ≡ true) × (founded_test r words e ≡ false)
IsPairRefused r e words other = ⊥

-- the bits that are set are those of the pairs listed
abbrev pub TellsListed : ClosureRules → List ℕ → List Item → Type 0
TellsListed c words items =
    (p q : ℕ) → p < length c.rights → q < length c.lefts → Decides (has_pair (length c.lefts) words p q) (IsListed items p q)

-- the first n pairs are founded, and listed
pub record AreTaken (c : ClosureRules) (items : List Item) (n : ℕ) (words : List ℕ) : Type 0 where
  pub founded : AreFounded c items n
  pub tells : TellsListed c words (take n items)

abbrev pub IsPairsOutcome : {U : Type 0} → ClosureRules → List Item → List ℕ → Result U Failure → Type 0
IsPairsOutcome c items words (Ok u) = AreTaken c items (length items) words
IsPairsOutcome c items words (Err e) = IsClosureOutcome c items (Fails e.place (as_reason e.reason))

abbrev pub open_test : PairRules → List ℕ → ℕ → ℕ → Bool
open_test r words p q = not (has r words p q) && follows_test r words p q

-- the first pair with this right pattern that is open
pub record IsOpenInRow (r : PairRules) (words : List ℕ) (p q : ℕ) : Type 0 where
  pub within : q < length r.lefts.items
  pub is_open : open_test r words p q ≡ true
  pub first : (j : ℕ) → j < q → open_test r words p j ≡ false

abbrev pub AreNoneOpenInRow : PairRules → List ℕ → ℕ → Type 0
AreNoneOpenInRow r words p = (j : ℕ) → j < length r.lefts.items → open_test r words p j ≡ false

abbrev pub AreNoneOpenBelow : PairRules → List ℕ → ℕ → Type 0
AreNoneOpenBelow r words n = (i j : ℕ) → i < n → j < length r.lefts.items → open_test r words i j ≡ false

-- the number of the first open pair
pub record IsFirstOpen (r : PairRules) (words : List ℕ) (place : ℕ) : Type 0 where
  pub p : ℕ
  pub q : ℕ
  pub within : p < length r.rights.items
  pub row : IsOpenInRow r words p q
  pub number : place ≡ p * length r.lefts.items + q
  pub rows : AreNoneOpenBelow r words p

abbrev pub AreNoneOpen : PairRules → List ℕ → Type 0
AreNoneOpen r words = AreNoneOpenBelow r words (length r.rights.items)

-- there are numbers for all its patterns
pub record IsNumberable (c : ClosureRules) : Type 0 where
  pub rights : length c.rights < 2 ^ 32
  pub lefts : length c.lefts < 2 ^ 32

-- they are the rules with these pairs, or the rules of a closure
abbrev pub HasPairRules : List Pair → PairRules → Type 0
HasPairRules pairs r = (c : ClosureRules) × (c.pairs ≡ pairs) × IsPairRules c r × IsNumberable c

abbrev pub HasClosureRules : PatternSystem → Which → ℕ → PairRules → Type 0
HasClosureRules system which index r = (c : ClosureRules) × AreClosureRules system which index c × IsPairRules c r × IsNumberable c
