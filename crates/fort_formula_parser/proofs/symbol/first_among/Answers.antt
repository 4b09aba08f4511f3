use Rattle.std.proofs.Common.{◌≡◌, true, false, refl}
use Rattle.std.proofs.lemmas.Bool.Decides.{Decides-eqb}
use Rattle.std.proofs.lemmas.List.Elements.{All-from_recursion}
use Rattle.std.proofs.lemmas.Slice.Eq.{starts_is}
use Rattle.fort_formula_parser.specs.Spellings.{IsSpelled}
use Rattle.fort_formula_parser.proofs.SpellingsLaws.{IsFirst-at, NoneBegins-more}
use Rattle.fort_formula_parser.proofs.symbol.first_among.Goals as goal

pub returns-then-starts_with-clause-some : goal.returns-then-starts_with-clause-some
returns-then-starts_with-clause-some c =
    let spellings = c.args.spellings.now in
    IsFirst-at c.args.text.now spellings c.loop-spelling.spelling-index _ (All-from_recursion IsSpelled spellings c.requires) c.loop-spelling-test.true c.loop-spelling.invariant
    ((starts_is Decides-eqb c.args.text.now _ true c.if-starts_with.ensures.value).0 refl)

pub loop-spelling-preserved : goal.loop-spelling-preserved
loop-spelling-preserved c =
    NoneBegins-more c.args.text.now c.args.spellings.now c.loop-spelling.spelling-index _ c.loop-spelling.invariant c.loop-spelling-test.true
    (λ rest h. let no : false ≡ true = (starts_is Decides-eqb c.args.text.now _ false c.if-starts_with.ensures.value).1 rest h in cc)
