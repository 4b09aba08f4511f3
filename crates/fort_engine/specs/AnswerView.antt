-- To believe: which answer of the definitions an answer of the program is, and how many states its table has; a fault of deciding is want of memory, or a part over the cap with its kind and the tuples that show it, with reduced tables or without.
use Rattle.std.specs.Prelude.{◌≡◌, ◌<◌, ◌≤◌, ℕ, List, length, get_or, Bool}
use Rattle.fort_theory.specs.Patterns.{PatternSystem}
use Rattle.fort_theory.specs.Cores as core
use Rattle.fort_theory.specs.PartLists.{AreParts}
use Rattle.fort_theory.specs.Kinds.{kind_of}
use Rattle.fort_tables.specs.Tables.{listed_table}
use Rattle.fort_formulas.specs.KindView.{as_kind}
use Rattle.fort_parts.specs.PartAnswers as parts
use Rattle.fort_parts.specs.AlikeParts.{IsOverBy, IsFirstOverBy}
use Rattle.fort_parts.specs.RightAnswers.{HasTooManyBy}
use Rattle.fort_parts.specs.ReducedParts.{AlikeWith}
use Rattle.fort_engine.specs.declared.answer.Last.{Last}
use Rattle.fort_engine.specs.declared.answer.Last.TheVariants.{Truth, Auto}
use Rattle.fort_engine.specs.declared.answer.Limit.{Limit}
use Rattle.fort_engine.specs.declared.answer.EngineFault.{EngineFault}
use Rattle.fort_engine.specs.declared.answer.EngineFault.TheVariants.{Memory, Over}

-- a table has at most so many states
abbrev pub HasStatesWithin : ℕ → Last → Type 0
HasStatesWithin n (Truth b) = Unit {0}
HasStatesWithin n (Auto table) = length table.presences ≤ n

abbrev pub as_answer : Last → parts.Answer
as_answer (Truth b) = parts.OfValue b
as_answer (Auto table) = parts.OfTable (listed_table table)

-- P of the limit, where a part is over the cap
abbrev pub IfOver : EngineFault → (Limit → Type 0) → Type 0
IfOver Memory P = Unit {0}
IfOver (Over limit) P = P limit

-- no part of the formula is over the cap
abbrev pub KeepsCapAt : PatternSystem → (reduces : Bool) → core.Core → ℕ → Type 0
KeepsCapAt system reduces f cap =
    (ps : List core.Core) (k : ℕ) → AreParts f ps → k < length ps → IsOverBy system (AlikeWith reduces system) (get_or ps k core.True) cap → ⊥

-- the limit is the first part over the cap, with its kind, and its tuples show that
pub record IsLimit (system : PatternSystem) (reduces : Bool) (f : core.Core) (cap : ℕ) (limit : Limit) : Type 0 where
  pub first : (ps : List core.Core) → AreParts f ps → IsFirstOverBy system (AlikeWith reduces system) ps cap limit.part
  pub kind : (ps : List core.Core) → AreParts f ps → as_kind limit.kind ≡ kind_of (get_or ps limit.part core.True)
  pub tuples : (ps : List core.Core) → AreParts f ps → HasTooManyBy system (AlikeWith reduces system) (get_or ps limit.part core.True) cap limit.tuples
