use Rattle.std.proofs.Common.{List, [], map, sym, subst}
use Rattle.std.proofs.lemmas.Result.{IfOk-weaker}
use Rattle.fort_theory.specs.Cores as theory
use Rattle.fort_theory.specs.PartLists.{AreParts}
use Rattle.fort_theory.proofs.EachOnceLaws.{AreEachOnce-nil}
use Rattle.fort_formulas.specs.declared.core_formula.Core.{Core}
use Rattle.fort_formulas.specs.CoreView.{as_core}
use Rattle.fort_formulas.proofs.subformulas.parts.Goals as goal

pub returns : goal.returns
returns c =
    let parts = c.in_ok-push_parts.ensures [] (rw c.new-found.ensures.empty (AreEachOnce-nil {A = theory.Core})) in
    IfOk-weaker c.listed.result _ _ (λ ps h. subst (λ (cs : List Core). AreParts (as_core c.args.core.now) (map as_core cs)) (sym h) parts) c.listed.ensures
