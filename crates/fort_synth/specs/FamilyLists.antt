-- Inside: the patterns over a signature up to a height, its ground terms and the rules of a family as lists, each in its order.
use Rattle.std.specs.Prelude.{ℕ, zero, suc, Option, None, Some, List, [], ◌∷◌, ◌++◌, map, length}
use Rattle.std.specs.List.{flat_map}
use Rattle.fort_theory.specs.Trees.{Tree, Trees, Node, Nil, More}
use Rattle.fort_theory.specs.Signatures.{Signature, arity_of}
use Rattle.fort_theory.specs.Patterns.{Pattern, Patterns, Any, At, NoPattern, MorePatterns}
use Rattle.fort_answers.specs.FamilyRules.{FamilyRule}

-- one of the items before one of the lists
abbrev pub longer_lists : List Pattern → List Patterns → List Patterns
longer_lists items rests = flat_map (λ p. map (λ ps. MorePatterns p ps) rests) items

-- the lists of so many of the items
abbrev pub argument_lists : ℕ → List Pattern → List Patterns
argument_lists zero items = NoPattern ∷ []
argument_lists (suc k) items = longer_lists items (argument_lists k items)

-- the symbol with each list of so many of the items
abbrev pub applications_by : List Pattern → ℕ → Option ℕ → List Pattern
applications_by items f None = []
applications_by items f (Some k) = map (λ ps. At f ps) (argument_lists k items)

abbrev pub applications : Signature → List Pattern → ℕ → List Pattern
applications signature items f = applications_by items f (arity_of signature f)

-- those of the symbols before this number
abbrev pub applications_before : Signature → List Pattern → ℕ → List Pattern
applications_before signature items zero = []
applications_before signature items (suc n) = applications_before signature items n ++ applications signature items n

-- Any, and each symbol with all lists of the items
abbrev pub higher_patterns : Signature → List Pattern → List Pattern
higher_patterns signature items = Any ∷ applications_before signature items (length signature)

-- the patterns of at most this height
abbrev pub low_patterns : Signature → ℕ → List Pattern
low_patterns signature zero = higher_patterns signature []
low_patterns signature (suc h) = higher_patterns signature (low_patterns signature h)

-- the children, if all are there
abbrev pub if_both : Option Tree → Option Trees → Option Trees
if_both None ts = None
if_both (Some t) None = None
if_both (Some t) (Some ts) = Some (More t ts)

abbrev pub node_if : ℕ → Option Trees → Option Tree
node_if f None = None
node_if f (Some ts) = Some (Node f ts)

-- the pattern as a ground term, if it is one
abbrev mutual
  pub ground_term : Pattern → Option Tree
  ground_term Any = None
  ground_term (At f ps) = node_if f (ground_kids ps)

  pub ground_kids : Patterns → Option Trees
  ground_kids NoPattern = Some Nil
  ground_kids (MorePatterns p ps) = if_both (ground_term p) (ground_kids ps)

abbrev pub list_of : Option Tree → List Tree
list_of None = []
list_of (Some t) = t ∷ []

-- the ground terms among the patterns
abbrev pub ground_terms : List Pattern → List Tree
ground_terms ps = flat_map (λ p. list_of (ground_term p)) ps

-- each pattern with each term
abbrev pub all_rules : List Pattern → List Tree → List FamilyRule
all_rules ps ts = flat_map (λ p. map (λ t. (p, t)) ts) ps
