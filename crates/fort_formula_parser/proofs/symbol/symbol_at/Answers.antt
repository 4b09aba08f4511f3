use Rattle.std.proofs.Common.{refl, lit≤}
use Rattle.fort_formula_parser.proofs.SpellingsLaws.{IsSpotted-symbols, BeginsWithNoToken-symbols}
use Rattle.fort_formula_parser.proofs.symbol.symbol_at.Goals as goal

pub first_among-requires : goal.first_among-requires
first_among-requires c = (record { proper = tt; written = refl }, (record { proper = tt; written = refl }, (record { proper = tt; written = refl }, (record { proper = tt; written = refl }, (record { proper = tt; written = refl }, (record { proper = tt; written = refl }, (record { proper = tt; written = refl }, (record { proper = tt; written = refl }, (record { proper = tt; written = refl }, (record { proper = tt; written = refl }, (record { proper = (lit≤ tt, lit≤ tt); written = refl }, (record { proper = (lit≤ tt, lit≤ tt); written = refl }, (record { proper = (lit≤ tt, lit≤ tt); written = refl }, (record { proper = (lit≤ tt, lit≤ tt); written = refl }, (record { proper = (lit≤ tt, lit≤ tt); written = refl }, (record { proper = (lit≤ tt, lit≤ tt); written = refl }, (record { proper = (lit≤ tt, lit≤ tt); written = refl }, (record { proper = (lit≤ tt, lit≤ tt); written = refl }, (record { proper = (lit≤ tt, lit≤ tt); written = refl }, (record { proper = tt; written = refl }, (record { proper = tt; written = refl }, (record { proper = tt; written = refl }, (record { proper = tt; written = refl }, (record { proper = tt; written = refl }, (record { proper = tt; written = refl }, (record { proper = tt; written = refl }, (record { proper = tt; written = refl }, (record { proper = tt; written = refl }, (record { proper = tt; written = refl }, (record { proper = tt; written = refl }, tt))))))))))))))))))))))))))))))

pub returns-clause-some : goal.returns-clause-some
returns-clause-some c =
    IsSpotted-symbols c.args.text.now c.first_among.result record { no_letter = c.requires.letter; no_brace = c.requires.brace } c.first_among.ensures.some

pub returns-clause-none : goal.returns-clause-none
returns-clause-none c =
    BeginsWithNoToken-symbols c.args.text.now c.first_among.result record { no_letter = c.requires.letter; no_brace = c.requires.brace } c.first_among.ensures.none
