use Rattle.std.proofs.Common.{ap, sym, ◌∙◌, arith, [], ◌∷◌}
use Rattle.fort_formula_grammar.specs.FormulaText.{open_behind}
use Rattle.fort_formula_parser.specs.TokenView.{as_token}
use Rattle.fort_formula_parser.proofs.PlacesLaws.{OpensTooMany-at, open_behind-step, open_behind-other}
use Rattle.fort_formula_parser.proofs.lexer.too_deep.Goals as goal
use Rattle.fort_formula_parser.proofs.lexer.too_deep.Goals.{in-Open+else-open-eq-DEEPEST, in-Close, in_default}

pub returns-then-open-eq-DEEPEST-clause-some : goal.returns-then-open-eq-DEEPEST-clause-some
returns-then-open-eq-DEEPEST-clause-some c =
    OpensTooMany-at c.args.lexemes.now c.loop-lexeme.lexeme-index _ c.loop-lexeme-test.true (ap as_token c.in-Open.is)
    (sym c.loop-lexeme.invariant.count ∙ c.if-open-eq-DEEPEST.true) c.loop-lexeme.invariant.shallow

pub loop-lexeme-preserved : goal.loop-lexeme-preserved
loop-lexeme-preserved c =
    let open' = c.loop-lexeme.open in
    let bound = c.loop-lexeme.invariant.shallow c.loop-lexeme.lexeme-index (omega arith) in
    let step = open_behind-step c.args.lexemes.now c.loop-lexeme.lexeme-index _ open' c.match-lexeme.open c.loop-lexeme-test.true
    c.loop-lexeme.invariant.count c.loop-lexeme.invariant.shallow in
    elim c.match-lexeme.branch [
      | in-Open+else-open-eq-DEEPEST w ↦
          let both = step (w.open-is ∙ ap (λ t. open_behind open' (as_token t ∷ [])) (sym w.in-Open.is)) (omega (arith, w.open-is, c.loop-lexeme.invariant.count, bound)) in
          record { count = both.0; shallow = both.1 }
      | in-Close w ↦
          let both = step (w.open-is ∙ w.saturating_sub-open.ensures ∙ ap (λ t. open_behind open' (as_token t ∷ [])) (sym w.in-Close.is)) (omega (arith, w.open-is, c.loop-lexeme.invariant.count, bound)) in
          record { count = both.0; shallow = both.1 }
      | in_default w ↦
          let both = step (w.open-is ∙ open_behind-other _ open' w.in_default.not-Open w.in_default.not-Close) (omega (arith, w.open-is, c.loop-lexeme.invariant.count, bound)) in
          record { count = both.0; shallow = both.1 }
    ]
