-- To believe: how the answer to a part was found: the answer that a negation turns, the counts of "infinitely many", the targets of a table.
use Rattle.std.specs.Prelude.{◌≡◌, ℕ, ◌<◌, List, length, map, get_or, Bool, true, false, Option, None, Some, Result, Ok, Err, IfOk, IfErr, OnOk}
use Rattle.std.specs.declared.alloc.Global.{Global}
use Rattle.std.specs.declared.vec.Vec.{Vec}
use Rattle.fort_theory.specs.Patterns.{PatternSystem}
use Rattle.fort_theory.specs.Cores as core
use Rattle.fort_theory.specs.Parts.{is_free}
use Rattle.fort_tables.specs.Tables.{Table, Listed, IsListed, listed_table}
use Rattle.fort_tables.specs.Merges.{IsCoarsest}
use Rattle.fort_reduce.specs.MergedTables.{IsMergedTable}
use Rattle.fort_tables.specs.Projections.{ArePure}
use Rattle.fort_tables.specs.OperationTruth.{complemented}
use Rattle.fort_tables.specs.Counts as counts
use Rattle.fort_tables.specs.Counts.{AreCounts}
use Rattle.fort_findings.specs.declared.count.Count.{Count}
use Rattle.fort_findings.specs.FindingView.{as_count}
use Rattle.fort_parts.specs.PartColumns.{columns_of, place_in}
use Rattle.fort_parts.specs.PartAnswers.{OfTable}
use Rattle.fort_parts.specs.RightAnswers.{IsRightBy, HasTooManyBy}
use Rattle.fort_parts.specs.ReducedParts.{AlikeWith}
use Rattle.fort_explore.specs.declared.table.ExploreFault.{ExploreFault}
use Rattle.fort_explore.specs.Answer.{IfOver}
use Rattle.fort_engine.specs.declared.answer.Last.{Last}
use Rattle.fort_engine.specs.declared.answer.Last.TheVariants.{Truth, Auto}
use Rattle.fort_engine.specs.declared.answer.Decided.{Decided}
use Rattle.fort_engine.specs.declared.options.Options.{Options}
use Rattle.fort_engine.specs.AnswerView.{as_answer}
use Rattle.fort_engine.specs.Kept.{IsRight, IsOverCap, IsKeptOverCap}

-- what is decided has the property, and then the formula is not over the cap, nor told apart at more tuples by what is kept; or tuples that show that it is
pub record IsDecidedBy (system : PatternSystem) (options : Options) (f : core.Core) (P : Decided → Type 0) (result : Result Decided ExploreFault) : Type 0 where
  pub ok : IfOk result P
  pub within : OnOk result (IsOverCap system options f → ⊥)
  pub kept_within : OnOk result (IsKeptOverCap system options f → ⊥)
  pub over : IfErr result (λ e. IfOver e (HasTooManyBy system (AlikeWith options.reduces system) f options.cap))

abbrev pub counted_with : Vec Count Global → Result Decided ExploreFault → Result Decided ExploreFault
counted_with counts (Ok d) = Ok (record { answer = d.answer; counts = Some counts; targets = d.targets; classes = d.classes })
counted_with counts (Err e) = Err e

-- tables, as they are made and as they are kept

-- by its coarsest classes
pub record IsReduced (made : Listed) (classes : List ℕ) (kept : Listed) : Type 0 where
  pub coarsest : IsCoarsest (listed_table made) classes
  pub merged : IsMergedTable (listed_table made) classes (listed_table kept)
  pub lawful : IsListed kept

abbrev pub IsKeptAs : (reduces : Bool) → (made : Listed) → (classes : Option (Vec ℕ Global)) → (kept : Listed) → Type 0
IsKeptAs true made (Some classes) kept = IsReduced made classes.items kept
IsKeptAs true made None kept = ⊥
IsKeptAs false made classes kept = (classes ≡ None) × (kept ≡ made)

-- a table of f by its labels with these targets, of which this one is kept, with these classes where it is reduced
pub record IsTableMade (system : PatternSystem) (options : Options) (f : core.Core) (kept : Listed) (targets classes : Option (Vec ℕ Global)) : Type 0 where
  pub made : Listed
  pub lawful : IsListed made
  pub finals : length made.finals ≡ length made.presences
  pub right : IsRightBy system (AlikeWith options.reduces system) f (OfTable (listed_table made))
  pub list : Vec ℕ Global
  pub listed : targets ≡ Some list
  pub targets_are : list.items ≡ made.targets
  pub kept_as : IsKeptAs options.reduces made classes kept

-- where the answer is a table
abbrev pub IsAnswerMade : PatternSystem → Options → core.Core → Decided → Last → Type 0
IsAnswerMade system options f d (Truth b) = Unit {0}
IsAnswerMade system options f d (Auto kept) = IsTableMade system options f kept d.targets d.classes

abbrev pub IsMade : PatternSystem → Options → core.Core → Decided → Type 0
IsMade system options f d = IsAnswerMade system options f d d.answer

-- the answer to g that is kept
pub record IsKeptAnswer (parts : List core.Core) (kept : List (Option Last)) (g : core.Core) (answer : Last) : Type 0 where
  pub place : ℕ
  pub before : place < length kept
  pub is : get_or parts place core.True ≡ g
  pub there : get_or kept place None ≡ Some answer

-- negations

-- the body's table with the accepting states turned
abbrev pub IsTurnedOf : Last → Last → Type 0
IsTurnedOf (Truth b) answer = Unit {0}
IsTurnedOf (Auto table) answer = as_answer answer ≡ OfTable (complemented (listed_table table))

pub record IsNegation (parts : List core.Core) (kept : List (Option Last)) (g : core.Core) (answer : Last) : Type 0 where
  pub body : Last
  pub kept_is : IsKeptAnswer parts kept g body
  pub turned : IsTurnedOf body answer

-- infinitely many

-- a right table of f with its counts, by which "for infinitely many values of n" is decided
pub record IsCounted (system : PatternSystem) (options : Options) (n : ℕ) (f : core.Core) (table : Table) (column : ℕ) (alone : List ℕ) (marks : List counts.Count) : Type 0 where
  pub among : is_free n f ≡ true
  pub right : IsRight system options f (OfTable table)
  pub column_is : column ≡ place_in (columns_of f) n
  pub pure : ArePure table column alone
  pub marks_are : AreCounts table column alone marks

-- the counts of the states of a table of g with the column of the number n alone present
pub record AreMarks (n : ℕ) (g : core.Core) (table : Table) (marks : List counts.Count) : Type 0 where
  pub states : List ℕ
  pub pure : ArePure table (place_in (columns_of g) n) states
  pub counts : AreCounts table (place_in (columns_of g) n) states marks

-- a right answer to "for infinitely many values of n" of f, with the counts of the table of f
pub record IsMany (system : PatternSystem) (options : Options) (n : ℕ) (f : core.Core) (table : Listed) (d : Decided) : Type 0 where
  pub right : IsRight system options (core.Infinite n f) (as_answer d.answer)
  pub list : Vec Count Global
  pub list_is : d.counts ≡ Some list
  pub marks : AreMarks n f (listed_table table) (map as_count list.items)
  pub made : options.lists ≡ true → IsMade system options (core.Infinite n f) d

pub record IsManyOf (system : PatternSystem) (options : Options) (n : ℕ) (f : core.Core) (body : Last) (d : Decided) : Type 0 where
  pub table : Listed
  pub body_is : body ≡ Auto table
  pub many : IsMany system options n f table d

pub record HasCounts (parts : List core.Core) (kept : List (Option Last)) (n : ℕ) (g : core.Core) (own : Option (Vec Count Global)) : Type 0 where
  pub table : Listed
  pub kept_is : IsKeptAnswer parts kept g (Auto table)
  pub list : Vec Count Global
  pub list_is : own ≡ Some list
  pub marks : AreMarks n g (listed_table table) (map as_count list.items)

-- parts

abbrev pub IsItsTurned : List core.Core → List (Option Last) → core.Core → Last → Type 0
IsItsTurned parts kept (core.Not g) answer = IsNegation parts kept g answer
IsItsTurned parts kept other answer = Unit {0}

abbrev pub AreItsCounts : List core.Core → List (Option Last) → core.Core → Option (Vec Count Global) → Type 0
AreItsCounts parts kept (core.Infinite n g) own = HasCounts parts kept n g own
AreItsCounts parts kept other own = own ≡ None

abbrev pub is_negation : core.Core → Bool
is_negation (core.Not f) = true
is_negation other = false

-- a right answer to f; that of a negation is its body's, turned; "infinitely many" has its counts, and no other formula has any; other tables than a negation's are made by labels, and their
-- targets are there where they are asked for
pub record IsFound (system : PatternSystem) (options : Options) (parts : List core.Core) (kept : List (Option Last)) (f : core.Core) (d : Decided) : Type 0 where
  pub right : IsRight system options f (as_answer d.answer)
  pub turned : IsItsTurned parts kept f d.answer
  pub counted : AreItsCounts parts kept f d.counts
  pub made : options.lists ≡ true → is_negation f ≡ false → IsMade system options f d
