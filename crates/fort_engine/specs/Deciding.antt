-- To believe: what a part meets that is decided, what is known of its operands, what a decision of it is, and which labels are a formula's.
use Rattle.std.specs.Prelude.{◌≡◌, ℕ, ◌<◌, ◌≤◌, List, length, get_or, Bool, true, Option, None, Result, IfOk, IfErr, OnOk}
use Rattle.fort_theory.specs.Cores.{Binary}
use Rattle.fort_theory.specs.Signatures.{most_columns}
use Rattle.fort_theory.specs.Patterns.{PatternSystem}
use Rattle.fort_theory.specs.Cores as core
use Rattle.fort_theory.specs.Parts.{BindsFree, HasManyRootsAt, is_free}
use Rattle.fort_theory.specs.PatternStructures.{pattern_structure}
use Rattle.fort_tables.specs.Tables.{Table}
use Rattle.fort_tables.specs.Labels.{Labelling}
use Rattle.fort_tables.specs.LabelRules.{IsTableBy}
use Rattle.fort_theory.specs.Logic.{Connective}
use Rattle.fort_parts.specs.PartColumns.{columns_of, places_in}
use Rattle.fort_parts.specs.PartAnswers.{Answer, OfTable, IsAnswerTo}
use Rattle.fort_parts.specs.PartLabels.{LabelsTell}
use Rattle.fort_parts.specs.DecidedCores.{IsDecided, IsOverSystem, IsOperandOf}
use Rattle.fort_parts.specs.RightAnswers.{HasTooManyBy}
use Rattle.fort_parts.specs.ReducedParts.{AlikeWith}
use Rattle.fort_parts.proofs.PartOrder.{IsEarlier}
use Rattle.fort_outline.specs.declared.outline.Outline.{Outline}
use Rattle.fort_outline.specs.Outlines.{parts_in, core_at, IsOutlineOf}
use Rattle.fort_explore.specs.declared.table.ExploreFault.{ExploreFault}
use Rattle.fort_explore.specs.Answer.{IfOver}
use Rattle.fort_engine.specs.declared.answer.Last.{Last}
use Rattle.fort_engine.specs.declared.answer.Decided.{Decided}
use Rattle.fort_engine.specs.declared.options.Options.{Options}
use Rattle.fort_engine.specs.AnswerView.{as_answer}
use Rattle.fort_engine.specs.Found.{IsMade}
use Rattle.fort_engine.specs.Kept.{IsRight, IsOverCap, IsKeptOverCap, HasRightAnswer}

-- its indices and terms are the system's, it is no wider than a tuple, and it has not too many root steps
pub record IsFit (system : PatternSystem) (f : core.Core) : Type 0 where
  pub over : IsOverSystem system f
  pub binders : BindsFree f
  pub few : length (columns_of f) ≤ most_columns
  pub roots : HasManyRootsAt f → ⊥

-- the formula is an earlier part, its right answer is kept, and at most as many tuples as the cap are told apart at it
pub record IsAnswered (system : PatternSystem) (options : Options) (parts : List core.Core) (kept : List (Option Last)) (g : core.Core) : Type 0 where
  pub earlier : IsEarlier parts (length kept) g
  pub right : (j : ℕ) → j < length kept → get_or parts j core.True ≡ g → HasRightAnswer system options g (get_or kept j None)
  pub kept_within : IsKeptOverCap system options g → ⊥

abbrev pub HasOperands : PatternSystem → Options → List core.Core → List (Option Last) → core.Core → Type 0
HasOperands system options parts kept f = (g : core.Core) → IsOperandOf g f → IsAnswered system options parts kept g

-- the outline of a formula that is to be decided
pub record IsPlanned (system : PatternSystem) (root : core.Core) (outline : Outline) : Type 0 where
  pub decided : IsDecided system root
  pub laid : IsOutlineOf root outline

-- part k of an outline is decided next, from the answers to the parts before it that are kept
pub record IsNextPart (system : PatternSystem) (options : Options) (outline : Outline) (k : ℕ) (kept : List (Option Last)) : Type 0 where
  pub formula : core.Core
  pub decided : IsDecided system formula
  pub laid : IsOutlineOf formula outline
  pub within : k < length outline.roots.items
  pub count : length kept ≡ k
  pub fit : IsFit system (core_at outline k)
  pub operands : HasOperands system options (parts_in outline) kept (core_at outline k)

-- part k is parts f and g joined
pub record IsOfTwo (op : Connective) (parts : List core.Core) (k f g : ℕ) : Type 0 where
  pub first : f < k
  pub second : g < k
  pub is : get_or parts k core.True ≡ Binary op (get_or parts f core.True) (get_or parts g core.True)

-- a right answer without counts, with its table's targets where they are asked for, and then the formula is not over the cap, nor told apart at more tuples by what is kept; or tuples that show
-- that it is
pub record IsDecision (system : PatternSystem) (options : Options) (f : core.Core) (result : Result Decided ExploreFault) : Type 0 where
  pub ok : IfOk result (λ d. IsRight system options f (as_answer d.answer))
  pub plain : IfOk result (λ d. d.counts ≡ None)
  pub made : IfOk result (λ d. options.lists ≡ true → IsMade system options f d)
  pub within : OnOk result (IsOverCap system options f → ⊥)
  pub kept_within : OnOk result (IsKeptOverCap system options f → ⊥)
  pub over : IfErr result (λ e. IfOver e (HasTooManyBy system (AlikeWith options.reduces system) f options.cap))

-- labels of tuples of its columns, which tell when tuples are alike; a table by these labels answers it
pub record AreLabelsFor (system : PatternSystem) (reduces : Bool) (f : core.Core) (columns : ℕ) (label : Labelling) (accepting : List ℕ → Bool) : Type 0 where
  pub count : columns ≡ length (columns_of f)
  pub alike : LabelsTell system f (AlikeWith reduces system f) label
  pub answers : (table : Table) → IsTableBy system.signature columns label accepting table → IsAnswerTo (pattern_structure system) f (OfTable table)

-- a formula with this number among its columns, and a right answer to it
pub record IsBody (system : PatternSystem) (options : Options) (n : ℕ) (f : core.Core) (columns : List ℕ) (answer : Answer) : Type 0 where
  pub among : is_free n f ≡ true
  pub columns_are : columns ≡ columns_of f
  pub right : IsRight system options f answer

-- h is f and g joined, no wider than a tuple, each with its columns, and there are right answers to both
pub record AreJoined (system : PatternSystem) (options : Options) (op : Connective) (h f g : core.Core) (columns ones others : List ℕ) (first second : Answer) : Type 0 where
  pub whole : h ≡ Binary op f g
  pub few : length (columns_of h) ≤ most_columns
  pub columns_are : columns ≡ columns_of h
  pub ones_are : ones ≡ columns_of f
  pub others_are : others ≡ columns_of g
  pub first_right : IsRight system options f first
  pub second_right : IsRight system options g second

-- h is f and g joined, with right answers to both and the places of their columns among those of h
pub record IsJoining (system : PatternSystem) (options : Options) (op : Connective) (h f g : core.Core) (first : Answer) (places : List ℕ) (second : Answer) (others : List ℕ) (columns : ℕ) : Type 0 where
  pub whole : h ≡ Binary op f g
  pub count : columns ≡ length (columns_of h)
  pub some : 0 < columns
  pub few : columns ≤ most_columns
  pub first_places : places ≡ places_in (columns_of h) (columns_of f)
  pub second_places : others ≡ places_in (columns_of h) (columns_of g)
  pub first_right : IsRight system options f first
  pub second_right : IsRight system options g second
