-- To believe: when forms are read up to a number: what they declare, and which rules they are. Want of memory comes only there.
use Rattle.std.specs.Prelude.{◌≡◌, ℕ, ◌+◌, ◌<◌, ◌≤◌, List, [], ◌∷◌, ◌++◌, length, map, drop, codes, Contains}
use Rattle.std.specs.List.{AllByRecursion}
use Rattle.fort_theory.specs.Signatures.{most_functions, Symbol, Signature, HasConstant, names_of}
use Rattle.fort_theory.specs.Sides.{at_index, pushed_at, count_all, Rule}
use Rattle.fort_theory.specs.Patterns.{PatternSystem, pattern_pair}
use Rattle.fort_grammar.specs.Forms.{Form}
use Rattle.fort_grammar.specs.Declarations.{Declares, AreDeclarations, IsHeaded}
use Rattle.fort_grammar.specs.ProblemForms.{BeginsOtherwise}
use Rattle.fort_grammar.specs.RuleForms.{IndexedRule, IsRule, AreRules, rules_of, HasRightSides, most_rules}
use Rattle.fort_ari.specs.Parts.{BeginsWithFormat, HasFormat}

-- the form declares one more symbol, whose name is new
pub record DeclaresNext (bytes : List ℕ) (f : Form) (old new : Signature) : Type 0 where
  pub next : Symbol
  pub declares : Declares bytes f next
  pub few : length old < most_functions
  pub fresh : Contains (names_of old) next.name → ⊥
  pub is : new ≡ old ++ next ∷ []

-- the forms from number 1 up to this number declare the signature
pub record DeclareUpTo (bytes : List ℕ) (forms : List Form) (signature : Signature) (next : ℕ) : Type 0 where
  pub declarations : List Form
  pub is : drop 1 forms ≡ declarations ++ drop next forms
  pub count : next ≡ length declarations + 1
  pub headed : AllByRecursion (IsHeaded bytes (codes "fun")) declarations
  pub declares : AreDeclarations bytes declarations signature

-- and the next form doesn't begin with `fun`
pub record AreDeclared (bytes : List ℕ) (forms : List Form) (signature : Signature) (next : ℕ) : Type 0 where
  pub up_to : DeclareUpTo bytes forms signature next
  pub ended : BeginsOtherwise bytes (codes "fun") (drop next forms)

-- the system has one more rule, which is the form's, at the end of those of its index
pub record PushesRule (bytes : List ℕ) (f : Form) (old new : PatternSystem) : Type 0 where
  pub given : IndexedRule
  pub is_rule : IsRule bytes (length old.rules) old.signature f given
  pub same : new.signature ≡ old.signature
  pub rules : new.rules ≡ pushed_at given.index (pattern_pair given.rule) old.rules

-- there is room for one more rule, and the form has two sides that are right each by itself; so nothing can be wrong with it but a variable
-- that stands twice
pub record HasBothSides (bytes : List ℕ) (number : ℕ) (signature : Signature) (count : ℕ) (f : Form) : Type 0 where
  pub few : count < most_rules
  pub left_names : List (List ℕ)
  pub right_names : List (List ℕ)
  pub sides : HasRightSides bytes number signature f left_names right_names

-- the forms from one number up to another are these rules of so many systems over the signature
pub record AreRulesUpTo (bytes : List ℕ) (forms : List Form) (number : ℕ) (signature : Signature) (from next : ℕ) (given : List IndexedRule) : Type 0 where
  pub rules : List Form
  pub is : drop from forms ≡ rules ++ drop next forms
  pub count : next ≡ from + length rules
  pub headed : AllByRecursion (IsHeaded bytes (codes "rule")) rules
  pub are_rules : AreRules bytes number signature rules given
  pub few : length rules ≤ most_rules

-- and the system has just these rules, each at its index
pub record HasRulesUpTo (bytes : List ℕ) (forms : List Form) (number : ℕ) (signature : Signature) (from next : ℕ) (system : PatternSystem) : Type 0 where
  pub given : List IndexedRule
  pub up_to : AreRulesUpTo bytes forms number signature from next given
  pub same : system.signature ≡ signature
  pub lists : List (List Rule)
  pub pairs : system.rules ≡ map (map pattern_pair) lists
  pub systems : length lists ≡ number
  pub sorted : (index : ℕ) → at_index index lists ≡ rules_of index given
  pub total : count_all lists ≡ length given

-- up to some form, itself included, nothing is at fault: it declares one more function, or has two sides; or all functions are declared
pub data IsFaultlessSoFar (bytes : List ℕ) (forms : List Form) : Type 0 where
  AtDeclaration : (signature more : Signature) (next : ℕ) (f : Form) → HasFormat bytes forms → DeclareUpTo bytes forms signature next
      → drop next forms ≡ f ∷ drop (next + 1) forms → DeclaresNext bytes f signature more → IsFaultlessSoFar bytes forms
  BehindDeclarations : (signature : Signature) (next : ℕ) → HasFormat bytes forms → AreDeclared bytes forms signature next
      → HasConstant signature → IsFaultlessSoFar bytes forms
  AtRule : (number : ℕ) (signature : Signature) (from next : ℕ) (given : List IndexedRule) (f : Form) → BeginsWithFormat bytes forms number
      → AreDeclared bytes forms signature from → HasConstant signature → AreRulesUpTo bytes forms number signature from next given
      → drop next forms ≡ f ∷ drop (next + 1) forms → HasBothSides bytes number signature (length given) f → IsFaultlessSoFar bytes forms
