use Rattle.std.proofs.Common.{◌∷◌, [], map, get_or, ap, sym, ◌∙◌}
use Rattle.fort_formula_parser.specs.ParsedView.{as_ground}
use Rattle.fort_formula_parser.proofs.GroundLists.{made_ground, grounds_of-other, grounds_of-pushed, AreGroundsOf-all}
use Rattle.fort_formula_parser.proofs.top.grounds_among.Goals as goal
use Rattle.fort_formula_parser.proofs.top.grounds_among.Goals.{in-Ground+in_ok-from_slice-in-Ground+in_ok-push-in-Ground, in_default}

pub loop-lexeme-preserved : goal.loop-lexeme-preserved
loop-lexeme-preserved c =
    let lexemes = c.args.lexemes.now in
    let i = c.loop-lexeme.lexeme-index in
    elim c.match-lexeme.branch [
      | in-Ground+in_ok-from_slice-in-Ground+in_ok-push-in-Ground w ↦
          let text = sym w.in_ok-from_slice-in-Ground.ensures.items in
          grounds_of-pushed lexemes i _ c.loop-lexeme.grounds.items c.match-lexeme.grounds.items _ _ c.loop-lexeme-test.true c.loop-lexeme.invariant
          (ap (λ v. v.items) w.grounds-is ∙ w.in_ok-push-in-Ground.ensures.items) w.in-Ground.is (ap (λ bs. made_ground (get_or lexemes i _).at bs ∷ []) text)
      | in_default w ↦
          ap (λ v. map as_ground v.items) w.grounds-is
          ∙ grounds_of-other lexemes i _ (map as_ground c.loop-lexeme.grounds.items) c.loop-lexeme-test.true c.loop-lexeme.invariant w.in_default.not-Ground
    ]

pub returns : goal.returns
returns c text all places =
    AreGroundsOf-all text c.args.lexemes.now c.loop-lexeme.lexeme-index _ all places c.loop-lexeme-test.false c.loop-lexeme.invariant
