use Rattle.std.proofs.Common.{ℕ, ◌+◌, ◌≤◌}
use Rattle.fort_outline.specs.declared.outline.Outline.{Outline}
use Rattle.fort_outline.specs.Outlines.{parts_in, core_at}
use Rattle.fort_cert_checker.specs.Sources.{IsSourceOf}
use Rattle.fort_cert_checker.proofs.plan.source_of.Given as goal

-- so many turns lead from part k to another
pub record IsAlong (o : Outline) (k part turns : ℕ) : Type 0 where
  pub within : part + turns ≤ k
  pub along : (p n : ℕ) → IsSourceOf (parts_in o) (core_at o part) p n → IsSourceOf (parts_in o) (core_at o k) p (n + turns)

abbrev pub invariant-loop-body : goal.invariant-loop-body
invariant-loop-body l = IsAlong l.outline l.k l.part l.turns

abbrev pub decreases-loop-body : goal.decreases-loop-body
decreases-loop-body l = l.part
