use Rattle.std.proofs.Common.{[], inl, inr, sym, ◌∙◌, ap}
use Rattle.fort_logic.specs.FreeNames.{without, names_in, occurrences, free_names}
use Rattle.fort_logic.proofs.OnceNames.{once-without}
use Rattle.fort_formulas.specs.FormulaView.{as_argument}
use Rattle.fort_formulas.proofs.names.+free_names.Goals as goal

pub returns-in_ok-names-in-Exists : goal.returns-in_ok-names-in-Exists
returns-in_ok-names-in-Exists t c =
    let arm = c.in-Exists in
    let inner = c.in_ok-names-in-Exists.ensures ∙ ap free_names c.as_formula-in-Exists.ensures in
    let whole = c.remove.ensures ∙ (ap (without arm.x) inner ∙ sym (once-without arm.x (occurrences arm.f))) in
    elim arm.is [
      | inl exists ↦ rw exists whole
      | inr other ↦ elim other [ inl forall ↦ rw forall whole | inr infinite ↦ rw infinite whole ]
    ]

pub returns-in_ok-push_variable-in-Rel-2 : goal.returns-in_ok-push_variable-in-Rel-2
returns-in_ok-push_variable-in-Rel-2 t c =
    let arm = c.in-Rel in
    let first = c.in_ok-push_variable-in-Rel.ensures [] c.new-names.ensures.items in
    let whole = c.in_ok-push_variable-in-Rel-2.ensures (names_in (as_argument arm.a)) first in
    elim arm.is [
      | inl rel ↦ rw rel.2 whole
      | inr other ↦ elim other [ inl rex ↦ rw rex.3 whole | inr join ↦ rw join.1 whole ]
    ]
