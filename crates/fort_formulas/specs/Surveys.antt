-- Inside: what one walk over a core formula finds.
use Rattle.std.specs.Prelude.{◌↔◌, IsTrue}
use Rattle.fort_theory.specs.Cores as theory
use Rattle.fort_theory.specs.Parts.{AreColumns, IsTooWide}
use Rattle.fort_formulas.specs.declared.columns.Survey.{Survey}

pub record IsSurveyOf (f : theory.Core) (survey : Survey) : Type 0 where
  pub columns : AreColumns f survey.columns.items
  pub wide : IsTrue survey.too_wide ↔ IsTooWide f
