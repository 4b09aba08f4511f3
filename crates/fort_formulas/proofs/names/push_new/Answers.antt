use Rattle.std.proofs.Common.{◌++◌, ◌∷◌, [], sym, ap, ◌∙◌}
use Rattle.std.proofs.lemmas.Bool.{cond-true, cond-false}
use Rattle.fort_logic.proofs.OnceNames.{once-push}
use Rattle.fort_formulas.proofs.names.push_new.Goals as goal

pub returns-in_ok-push : goal.returns-in_ok-push
returns-in_ok-push c =
    λ xs is.
    let same = c.deref.ensures.value in
    let pushed = once-push xs c.deref.result.now c.args.name c.is_among.result (same ∙ is) c.is_among.ensures in
    c.in_ok-push.ensures.items ∙ sym (pushed ∙ (cond-false _ _ _ c.if-not-is_among.true ∙ ap (λ ys. ys ++ c.args.name ∷ []) same))

pub returns-else-not-is_among : goal.returns-else-not-is_among
returns-else-not-is_among c =
    λ xs is.
    let same = c.deref.ensures.value in
    let pushed = once-push xs c.deref.result.now c.args.name c.is_among.result (same ∙ is) c.is_among.ensures in
    sym (pushed ∙ (cond-true _ _ _ c.if-not-is_among.false ∙ same))
