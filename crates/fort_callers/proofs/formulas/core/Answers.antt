use Rattle.std.proofs.Common.{◌<◌, ◌^◌, [], IfOk, subst}
use Rattle.fort_logic.specs.KeepsTruth.{KeepsTruth}
use Rattle.fort_logic.specs.Translation.{IsFormulaTooWide}
use Rattle.fort_formulas.specs.CoreView.{as_core}
use Rattle.fort_formulas.specs.NumbersNeeded.{numbers_needed}
use Rattle.fort_callers.proofs.AllNormalLaws.{only_memory}
use Rattle.fort_callers.proofs.formulas.core.Goals as goal

pub returns-clause-truth : goal.returns-clause-truth
returns-clause-truth c = subst (λ f. IfOk c.to_core.result (λ core. KeepsTruth [] f (as_core core))) c.requires c.to_core.ensures.truth

pub returns-clause-memory : goal.returns-clause-memory
returns-clause-memory c =
    only_memory c.to_core.result
    (λ e. subst (λ f. 2 ^ 32 < numbers_needed f) c.requires (c.to_core.ensures.many e))
    (λ e. subst IsFormulaTooWide c.requires (c.to_core.ensures.wide e))
