-- The counts of "infinitely many": those of the body's table, whose answer is kept.
use Rattle.std.proofs.Common.{◌≡◌, ℕ, List, map, Option, None, Some, refl, subst}
use Rattle.std.specs.declared.alloc.Global.{Global}
use Rattle.std.specs.declared.vec.Vec.{Vec}
use Rattle.fort_theory.specs.Cores as core
use Rattle.fort_theory.specs.Cores.{Core}
use Rattle.fort_tables.specs.Tables.{listed_table}
use Rattle.fort_certificate_theory.specs.Made.{MadeSoFar}
use Rattle.fort_engine.specs.declared.answer.Last.{Last}
use Rattle.fort_engine.specs.declared.answer.Last.TheVariants.{Auto}
use Rattle.fort_engine.specs.Found.{AreItsCounts}
use Rattle.fort_findings.specs.declared.count.Count.{Count}
use Rattle.fort_steps.specs.declared.step.Step.{Step}
use Rattle.fort_findings.specs.FindingView.{as_count}
use Rattle.fort_trace.specs.Recording.{AreOperandsMade, CountsPushed, CountsAdded}

pub CountsPushed-none : (k : ℕ) (own : Option (Vec Count Global)) (steps : List Step) → ((list : Vec Count Global) → own ≡ Some list → ⊥) → CountsPushed k own steps steps
CountsPushed-none k None steps none = refl
CountsPushed-none k (Some list) steps none = absurd (none list refl)

module _ (parts : List Core) (made : MadeSoFar) (kept : List (Option Last)) (k : ℕ) (own : Option (Vec Count Global)) (old new : List Step) where
  none_pushed : own ≡ None → CountsPushed k own old new → new ≡ old
  none_pushed none h = subst (λ o. CountsPushed k o old new) none h

  pub counts_added : (f : Core) → AreOperandsMade parts made kept f → AreItsCounts parts kept f own → CountsPushed k own old new → CountsAdded parts made k f old new
  counts_added core.True made_are its h = none_pushed its h
  counts_added (core.Leaf a) made_are its h = none_pushed its h
  counts_added (core.Not f) made_are its h = none_pushed its h
  counts_added (core.Binary op f g) made_are its h = none_pushed its h
  counts_added (core.Exists n f) made_are its h = none_pushed its h
  counts_added (core.Infinite n g) made_are its h =
      let is = its.kept_is in
      record {
        counts = map as_count its.list.items;
        step = subst (λ o. CountsPushed k o old new) its.list_is h;
        made_are = record { table = listed_table its.table; body = made_are g refl is.place (Auto its.table) is.before is.is is.there; are = its.marks };
      }
