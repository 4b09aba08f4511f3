-- To believe: which forms are a problem, where it ends, and which fault of them is the first; which text is which system.
use Rattle.std.specs.Prelude.{◌≡◌, ℕ, ◌+◌, ◌≤◌, List, [], ◌∷◌, ◌++◌, length, codes}
use Rattle.std.specs.List.{AllByRecursion}
use Rattle.fort_theory.specs.Signatures.{Signature, HasConstant}
use Rattle.fort_theory.specs.Sides.{at_index, System}
use Rattle.fort_grammar.specs.Forms.{Form, Forms, AreFormsOf}
use Rattle.fort_grammar.specs.Declarations.{as_list, IsFormat, IsNoFormat, IsHeaded, AreDeclarations, IsBadDeclaration, ProblemFault, NoFormat, NoConstant}
use Rattle.fort_grammar.specs.RuleForms.{IndexedRule, AreRules, rules_of, IsBadRule, most_rules}

-- the first form isn't one that is headed so
abbrev pub BeginsOtherwise : List ℕ → List ℕ → List Form → Type 0
BeginsOtherwise bytes word [] = Unit {0}
BeginsOtherwise bytes word (f ∷ fs) = IsHeaded bytes word f → ⊥

-- a form, then all that come headed `fun`, then all that come headed `rule`, and the forms behind the problem
pub record FallsInto (bytes : List ℕ) (forms : List Form) (first : Form) (declarations rules behind : List Form) : Type 0 where
  pub is : forms ≡ first ∷ (declarations ++ (rules ++ behind))
  pub declare : AllByRecursion (IsHeaded bytes (codes "fun")) declarations
  pub declared : BeginsOtherwise bytes (codes "fun") (rules ++ behind)
  pub rule : AllByRecursion (IsHeaded bytes (codes "rule")) rules
  pub ruled : BeginsOtherwise bytes (codes "rule") behind

-- the forms begin with this system, which has at each index its rules in their order; form `next` is the first behind the problem.
-- Of that one nothing matters but that it is no rule, and what stands behind it isn't looked at
pub record IsProblem (bytes : List ℕ) (forms : List Form) (system : System) (next : ℕ) : Type 0 where
  pub first : Form
  pub declarations : List Form
  pub rules : List Form
  pub behind : List Form
  pub parts : FallsInto bytes forms first declarations rules behind
  pub format : IsFormat bytes first (length system.rules)
  pub declares : AreDeclarations bytes declarations system.signature
  pub constant : HasConstant system.signature
  pub given : List IndexedRule
  pub are_rules : AreRules bytes (length system.rules) system.signature rules given
  pub sorted : (index : ℕ) → at_index index system.rules ≡ rules_of index given
  pub few : length rules ≤ most_rules
  pub next_is : next ≡ length declarations + length rules + 1

-- the first fault of the forms, in the order in which a problem is written; it is what is told, and which forms are a problem doesn't
-- rest on it
pub data IsFirstProblemFault (bytes : List ℕ) (forms : List Form) : ProblemFault → Type 0 where
  WithoutForms : forms ≡ [] → IsFirstProblemFault bytes forms NoFormat
  WithoutFormat : (first : Form) (others : List Form) → forms ≡ first ∷ others → IsNoFormat bytes first → IsFirstProblemFault bytes forms NoFormat
  InDeclaration : (first : Form) (number : ℕ) (declarations rules behind before after : List Form) (f : Form) (signature : Signature) (fault : ProblemFault)
      → FallsInto bytes forms first declarations rules behind → IsFormat bytes first number → declarations ≡ before ++ f ∷ after
      → AreDeclarations bytes before signature → IsBadDeclaration bytes signature (length before + 1) f fault → IsFirstProblemFault bytes forms fault
  WithoutConstant : (first : Form) (number : ℕ) (declarations rules behind : List Form) (signature : Signature)
      → FallsInto bytes forms first declarations rules behind → IsFormat bytes first number → AreDeclarations bytes declarations signature
      → (HasConstant signature → ⊥) → IsFirstProblemFault bytes forms NoConstant
  InRule : (first : Form) (number : ℕ) (declarations rules behind before after : List Form) (f : Form) (signature : Signature) (given : List IndexedRule)
      (fault : ProblemFault) → FallsInto bytes forms first declarations rules behind → IsFormat bytes first number
      → AreDeclarations bytes declarations signature → HasConstant signature → rules ≡ before ++ f ∷ after → AreRules bytes number signature before given
      → IsBadRule bytes number signature (length before) (length declarations + length before + 1) f fault → IsFirstProblemFault bytes forms fault

-- a text without fault whose forms are a problem, with none behind it
pub record IsProblemText (text : List ℕ) (system : System) : Type 0 where
  pub forms : Forms
  pub are_forms : AreFormsOf text forms
  pub problem : IsProblem text (as_list forms) system (length (as_list forms))
