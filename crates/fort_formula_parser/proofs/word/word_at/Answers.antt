use Rattle.std.proofs.Common.{refl}
use Rattle.fort_formula_grammar.proofs.TokenFronts.{IsVariable-run}
use Rattle.fort_formula_parser.proofs.SpellingsLaws.{IsSpotted-word}
use Rattle.fort_formula_parser.proofs.word.word_at.Goals as goal

pub returns-in-Some : goal.returns-in-Some
returns-in-Some c = IsSpotted-word c.args.text.now _ c.requires c.run_length-len.ensures c.in-Some.ensures.some.0 c.in-Some.ensures.some.1

pub returns-in-None : goal.returns-in-None
returns-in-None c =
    IsSpotted-word c.args.text.now _ c.requires c.run_length-len.ensures
    (IsVariable-run c.args.text.now c.run_length-len.result c.run_length-len.ensures c.requires c.in-None.ensures.none) refl
