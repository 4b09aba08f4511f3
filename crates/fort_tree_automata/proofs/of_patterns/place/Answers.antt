use Rattle.fort_tree_automata.proofs.PlaceLaws.{search-misses_none, search-finds}
use Rattle.fort_tree_automata.proofs.of_patterns.place.Goals as goal

pub unreachable-requires : goal.unreachable-requires
unreachable-requires c =
    search-misses_none c.args.patterns.now c.args.pattern.now c.requires.closed c.requires.among c.binary_search.result c.in-Err.field-0 c.binary_search.ensures.position c.in-Err.is

pub returns : goal.returns
returns c = search-finds c.args.patterns.now c.args.pattern.now c.in-Ok.state c.in-Ok.ensures.bound c.in-Ok.ensures.ok
