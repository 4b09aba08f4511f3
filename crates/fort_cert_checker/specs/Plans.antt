-- Inside: what a part is checked by, and the words of its labels.
use Rattle.std.specs.Prelude.{◌≡◌, ℕ, ◌+◌, ◌*◌, ◌≤◌, List, [], map, length}
use Rattle.fort_theory.specs.Trees.{Tree}
use Rattle.fort_theory.specs.Signatures.{most_columns}
use Rattle.fort_theory.specs.Patterns.{PatternSystem}
use Rattle.fort_theory.specs.Cores as core
use Rattle.fort_theory.specs.Cores.{Core, Binary}
use Rattle.fort_theory.specs.Expressions as expressions
use Rattle.fort_theory.specs.Contexts.{HoleNumber, HolePlace}
use Rattle.fort_theory.specs.Parts.{BindsFree, HasManyRootsAt}
use Rattle.fort_theory.specs.PartLists.{AreParts}
use Rattle.fort_tables.specs.BitRows.{words_for}
use Rattle.fort_tables.specs.Counts as counts
use Rattle.fort_alike.specs.ListedAtoms.{ListedAtom}
use Rattle.fort_context_closure.specs.ClosedAtoms.{ClosedAtom}
use Rattle.fort_context_closure.specs.declared.atom_labels.AtomLabels.{AtomLabels}
use Rattle.fort_context_closure.specs.declared.atom_labels.AtomLabels.TheVariants.{Relation, Expression, Normal, Is}
use Rattle.fort_context_closure.specs.AtomLabelsView.{word_count}
use Rattle.fort_context_closure.specs.PlainAtoms.{IsByPairs, IsNormalAtomOf}
use Rattle.fort_relation_exprs.specs.RexSeen.{RexSeen}
use Rattle.fort_relation_exprs.specs.RexView.{AreRexLabels}
use Rattle.fort_parts.specs.PartColumns.{columns_of, place_in, places_in}
use Rattle.fort_parts.specs.DecidedCores.{IsOverSystem}
use Rattle.fort_alike.specs.ListedClosures.{Star, Conv, Pair as Item}
use Rattle.fort_certificate_theory.specs.Certificates.{Step, Closure, Counts}
use Rattle.fort_findings.specs.declared.closure.ClosureEntry.{ClosureEntry}
use Rattle.fort_findings.specs.declared.count.Count.{Count}
use Rattle.fort_findings.specs.FindingView.{as_count, as_pair}
use Rattle.fort_connectives.specs.declared.connective.Op.{Op}
use Rattle.fort_connectives.specs.ConnectiveView.{connective_of}
use Rattle.fort_cert_checker.specs.Abouts.{IsOnlyAbout}
use Rattle.fort_cert_checker.specs.PartStates.{IsStatesOf}
use Rattle.fort_cert_checker.specs.Sources.{IsSourceOf}
use Rattle.fort_cert_checker.specs.declared.plan.Source.{Source}
use Rattle.fort_cert_checker.specs.declared.plan.OperandPlan.{OperandPlan}
use Rattle.fort_cert_checker.specs.declared.plan.Work.{Work}
use Rattle.fort_cert_checker.specs.declared.plan.Work.TheVariants.{Truth, Atom, Negation, Product, Projection, Many}
use Rattle.fort_cert_checker.specs.declared.plan.Plan.{Plan}

-- the parts of some formula
pub record AreParted (parts : List Core) : Type 0 where
  pub root : Core
  pub are : AreParts root parts

-- its indices and terms are the system's, it is no wider than a tuple, and it has not too many root steps
pub record IsFitPart (system : PatternSystem) (f : Core) : Type 0 where
  pub over : IsOverSystem system f
  pub binders : BindsFree f
  pub few : length (columns_of f) ≤ most_columns
  pub roots : HasManyRootsAt f → ⊥

pub record IsOperandPlan (parts : List Core) (h f : Core) (o : OperandPlan) : Type 0 where
  pub source : IsSourceOf parts f o.source.part o.source.turns
  pub places : o.places.items ≡ places_in (columns_of h) (columns_of f)

-- the pairs that a relation reads
abbrev pub IsClosureRead : List Step → core.Rel → ℕ → List ClosureEntry → Type 0
IsClosureRead ss core.Star index pairs = (items : List Item) → IsOnlyAbout ss (Closure Star index items) → map as_pair pairs ≡ items
IsClosureRead ss core.Plus index pairs = (items : List Item) → IsOnlyAbout ss (Closure Star index items) → map as_pair pairs ≡ items
IsClosureRead ss core.Conv index pairs = (items : List Item) → IsOnlyAbout ss (Closure Conv index items) → map as_pair pairs ≡ items
IsClosureRead ss other index pairs = pairs ≡ []

-- the labels are those of the relation that it is, by the pairs that it reads
pub record IsRelationPlan (system : PatternSystem) (ss : List Step) (f : Core) (c : ClosedAtom) : Type 0 where
  pub rel : core.Rel
  pub index : ℕ
  pub first : ℕ
  pub second : ℕ
  pub pairs : List ClosureEntry
  pub whole : f ≡ core.Leaf (core.Related rel index first second)
  pub closure : IsClosureRead ss rel index pairs
  pub labels : IsByPairs system rel index first second pairs c

-- the labels are those of the expression in the context that it is
pub record IsExpressionPlan (system : PatternSystem) (f : Core) (l : RexSeen) : Type 0 where
  pub expression : expressions.Expression
  pub number : HoleNumber
  pub place : HolePlace
  pub first : ℕ
  pub second : ℕ
  pub whole : f ≡ core.Leaf (core.InContext expression number place first second)
  pub labels : AreRexLabels system expression number place first second l

pub record IsNormalPlan (system : PatternSystem) (f : Core) (a : ListedAtom) : Type 0 where
  pub index : ℕ
  pub number : ℕ
  pub whole : f ≡ core.Leaf (core.Normal index number)
  pub labels : IsNormalAtomOf system index a

pub record IsTermPlan (f : Core) (term : Tree) : Type 0 where
  pub number : ℕ
  pub whole : f ≡ core.Leaf (core.IsTerm number term)

-- the labels are those of the atom that it is
abbrev pub IsAtomPlan : PatternSystem → List Step → Core → AtomLabels → Type 0
IsAtomPlan system ss f (Relation c) = IsRelationPlan system ss f c
IsAtomPlan system ss f (Expression l) = IsExpressionPlan system f l
IsAtomPlan system ss f (Normal a) = IsNormalPlan system f a
IsAtomPlan system ss f (Is term) = IsTermPlan f term

pub record IsNegationPlan (parts : List Core) (f : Core) (s : Source) : Type 0 where
  pub body : Core
  pub whole : f ≡ core.Not body
  pub source : IsSourceOf parts body s.part s.turns

pub record IsProductPlan (parts : List Core) (f : Core) (op : Op) (first second : OperandPlan) : Type 0 where
  pub one : Core
  pub other : Core
  pub whole : f ≡ Binary (connective_of op) one other
  pub one_is : IsOperandPlan parts f one first
  pub other_is : IsOperandPlan parts f other second

pub record IsProjectionPlan (parts : List Core) (f : Core) (s : Source) (c : ℕ) : Type 0 where
  pub number : ℕ
  pub body : Core
  pub whole : f ≡ core.Exists number body
  pub source : IsSourceOf parts body s.part s.turns
  pub column : c ≡ place_in (columns_of body) number

pub record IsManyPlan (parts : List Core) (ss : List Step) (k : ℕ) (f : Core) (s : Source) (c : ℕ) (marks : List Count) : Type 0 where
  pub number : ℕ
  pub body : Core
  pub whole : f ≡ core.Infinite number body
  pub source : IsSourceOf parts body s.part s.turns
  pub column : c ≡ place_in (columns_of body) number
  pub marks_are : (own : List counts.Count) → IsOnlyAbout ss (Counts k own) → map as_count marks ≡ own

-- of part k, which is this formula
abbrev pub IsWorkOf : PatternSystem → List Core → List Step → ℕ → Core → Work → Type 0
IsWorkOf system parts ss k f Truth = f ≡ core.True
IsWorkOf system parts ss k f (Atom labels) = IsAtomPlan system ss f labels
IsWorkOf system parts ss k f (Negation s) = IsNegationPlan parts f s
IsWorkOf system parts ss k f (Product op first second) = IsProductPlan parts f op first second
IsWorkOf system parts ss k f (Projection s c) = IsProjectionPlan parts f s c
IsWorkOf system parts ss k f (Many s c marks) = IsManyPlan parts ss k f s c marks.items

pub record IsPlanOf (system : PatternSystem) (parts : List Core) (ss : List Step) (k : ℕ) (f : Core) (p : Plan) : Type 0 where
  pub columns : p.columns ≡ length (columns_of f)
  pub work : IsWorkOf system parts ss k f p.work

-- the words of its labels
abbrev pub IsWidthFor : List Step → Work → ℕ → Type 0
IsWidthFor ss Truth w = w ≡ 1
IsWidthFor ss (Atom labels) w = w ≡ word_count labels
IsWidthFor ss (Negation s) w = w ≡ 1
IsWidthFor ss (Product op first second) w = w ≡ 3
IsWidthFor ss (Projection s c) w = (n : ℕ) → IsStatesOf ss s.part n → w ≡ words_for n + 2
IsWidthFor ss (Many s c marks) w = (n : ℕ) → IsStatesOf ss s.part n → w ≡ words_for (2 * n) + 2
