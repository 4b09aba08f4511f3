use Rattle.std.proofs.Common.{◌≡◌, ◌<◌, true, ℕ, length, sym, subst}
use Rattle.std.proofs.lemmas.Bool.{both_ways}
use Rattle.fort_theory.specs.Cores as theory
use Rattle.fort_logic.specs.FreeNames.{free_names}
use Rattle.fort_theory.specs.Parts.{is_free, BindsFree, IsTooWide}
use Rattle.fort_logic.specs.KeepsTruth.{KeepsTruth}
use Rattle.fort_logic.proofs.TranslationTruth.{core_of-keeps_truth}
use Rattle.fort_logic.proofs.FreeNumbers.{core_of-binds_free, core_of-free}
use Rattle.fort_logic.proofs.GroundWidths.{core_of-too_wide}
use Rattle.fort_formulas.specs.FormulaView.{as_formula}
use Rattle.fort_formulas.proofs.translation.to_core.Goals as goal

pub returns-clause-truth : goal.returns-clause-truth
returns-clause-truth c =
    let f = as_formula c.args.formula.now in
    let terms = c.args.terms.now in
    subst (λ (g : theory.Core). KeepsTruth terms f g) (sym c.in_ok-core.ensures.ok) (core_of-keeps_truth terms f c.requires)

pub returns-clause-numbers : goal.returns-clause-numbers
returns-clause-numbers c =
    let f = as_formula c.args.formula.now in
    subst (λ (g : theory.Core). (n : ℕ) → is_free n g ≡ true → n < length (free_names f)) (sym c.in_ok-core.ensures.ok)
    (core_of-free c.args.terms.now f)

pub returns-clause-well_formed : goal.returns-clause-well_formed
returns-clause-well_formed c =
    let f = as_formula c.args.formula.now in
    record {
      binders = subst (λ (g : theory.Core). BindsFree g) (sym c.in_ok-core.ensures.ok) (core_of-binds_free c.args.terms.now f);
      narrow = λ w. both_ways _ c.if-branch.false (c.in_ok-is_too_wide.ensures.1 w);
    }

pub returns-clause-narrow : goal.returns-clause-narrow
returns-clause-narrow c =
    let wide = core_of-too_wide c.args.terms.now (as_formula c.args.formula.now) in
    λ w. both_ways _ c.if-branch.false
    (c.in_ok-is_too_wide.ensures.1 (subst (λ (g : theory.Core). IsTooWide g) (sym c.in_ok-core.ensures.ok) (wide.1 w)))

pub returns-then-branch-clause-wide : goal.returns-then-branch-clause-wide
returns-then-branch-clause-wide c =
    let wide = core_of-too_wide c.args.terms.now (as_formula c.args.formula.now) in
    λ refused. wide.0 (subst (λ (g : theory.Core). IsTooWide g) c.in_ok-core.ensures.ok (c.in_ok-is_too_wide.ensures.0 c.if-branch.true))
