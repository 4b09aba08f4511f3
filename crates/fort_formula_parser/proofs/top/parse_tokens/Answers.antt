use Rattle.std.proofs.Common.{[], subst, map, arith}
use Rattle.std.proofs.lemmas.List.{length-map}
use Rattle.fort_formulas.specs.FormulaView.{as_formula}
use Rattle.fort_formula_grammar.specs.FormulaGrammar.{IsFormula}
use Rattle.fort_formula_grammar.specs.Stuck.{StuckWhole}
use Rattle.fort_formula_parser.specs.ParsedView.{as_ground}
use Rattle.fort_formula_parser.specs.TokenView.{tokens_of}
use Rattle.fort_formula_parser.specs.Parsing.{IsStuckAt}
use Rattle.fort_formula_parser.proofs.Wholes.{IsFormula-made, too_long, too_deep, no_formula, few_numbers}
use Rattle.fort_formula_parser.proofs.PlacesLaws.{few_grounds}
use Rattle.fort_formula_parser.proofs.GroundLists.{HasPlacesBelow-grounds, AreShort-grounds}
use Rattle.fort_formula_parser.proofs.top.parse_tokens.Goals as goal

pub returns-then-lexemes-gt-MOST_TOKENS-clause-fault : goal.returns-then-lexemes-gt-MOST_TOKENS-clause-fault
returns-then-lexemes-gt-MOST_TOKENS-clause-fault c = too_long c.args.text.now c.args.lexemes.now c.requires.tokens (omega arith)

pub returns-in-Some-clause-fault : goal.returns-in-Some-clause-fault
returns-in-Some-clause-fault c =
    too_deep c.args.text.now c.args.lexemes.now c.in-Some.at c.requires.tokens (omega arith) (c.in-Some.ensures.some c.args.text.now c.requires.places)

pub whole-requires : goal.whole-requires
whole-requires c = few_grounds c.args.text.now c.args.lexemes.now c.requires.places (omega arith)

pub returns-in_ok-grounds_among-in-Ok-clause-short : goal.returns-in_ok-grounds_among-in-Ok-clause-short
returns-in_ok-grounds_among-in-Ok-clause-short c =
    let text = c.args.text.now in
    AreShort-grounds text c.in_ok-grounds_among-in-Ok.field-0.items (c.in_ok-grounds_among-in-Ok.ensures text c.requires.tokens c.requires.places)

pub returns-in_ok-grounds_among-in-Ok-clause-named : goal.returns-in_ok-grounds_among-in-Ok-clause-named
returns-in_ok-grounds_among-in-Ok-clause-named c k among =
    let text = c.args.text.now in
    let lexemes = c.args.lexemes.now in
    let formula = c.in_ok-made-in-Ok.field-0 in
    let gs = c.in_ok-grounds_among-in-Ok.field-0.items in
    let are = c.in_ok-grounds_among-in-Ok.ensures text c.requires.tokens c.requires.places in
    let read : IsFormula (tokens_of lexemes) (as_formula formula) [] = IsFormula-made lexemes _ formula c.in-Ok.ensures.ok cc in
    let below = HasPlacesBelow-grounds text lexemes (as_formula formula) (map as_ground gs) c.requires.tokens c.requires.places read are k among in
    omega (arith, length-map gs as_ground, below)

pub returns-in_ok-grounds_among-in-Ok-clause-small : goal.returns-in_ok-grounds_among-in-Ok-clause-small
returns-in_ok-grounds_among-in-Ok-clause-small c =
    let lexemes = c.args.lexemes.now in
    let formula = c.in_ok-made-in-Ok.field-0 in
    let read : IsFormula (tokens_of lexemes) (as_formula formula) [] = IsFormula-made lexemes _ formula c.in-Ok.ensures.ok cc in
    few_numbers lexemes (as_formula formula) read (omega arith)

pub returns-in-Err-clause-fault : goal.returns-in-Err-clause-fault
returns-in-Err-clause-fault c =
    let text = c.args.text.now in
    let here = subst (IsStuckAt StuckWhole c.args.lexemes.now 0) c.in-Err.field-0-is c.in-Err.ensures.err in
    no_formula text c.args.lexemes.now c.offset_of.result c.requires.tokens (omega arith) c.in_default.ensures.none (c.offset_of.ensures here.1)
