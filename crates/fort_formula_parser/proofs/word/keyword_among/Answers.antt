use Rattle.std.proofs.Common.{◌≡◌, true, false, sym, ◌∙◌, below_more}
use Rattle.std.proofs.lemmas.Bool.Decides.{Decides-eqb}
use Rattle.std.proofs.lemmas.Slice.Eq.{slice_eq-Decides}
use Rattle.fort_formula_parser.proofs.SpellingsLaws.{texts_of-at}
use Rattle.fort_formula_parser.proofs.word.keyword_among.Goals as goal

pub loop-spelling-preserved : goal.loop-spelling-preserved
loop-spelling-preserved c = below_more _ _ c.loop-spelling.invariant (λ same.
    let decides = slice_eq-Decides Decides-eqb _ c.args.word.now false c.if-eq.ensures in
    let no : false ≡ true = decides.1 (sym (texts_of-at c.args.spellings.now c.loop-spelling.spelling-index _ c.args.word.now c.loop-spelling-test.true) ∙ same) in cc)
