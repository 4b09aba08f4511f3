use Rattle.fort_tuple_symbols.specs.Columns.{as_column}
use Rattle.fort_mark_keys.specs.SideView.{patterns_seen}
use Rattle.fort_mark_keys.proofs.PlaceBitLaws.{HasBits-arguments, HaveArgumentsWithin-numbers}
use Rattle.fort_mark_keys.proofs.side.Side.put_asked.Goals as goal

pub add_arguments-requires-clause-within : goal.add_arguments-requires-clause-within
add_arguments-requires-clause-within c = HaveArgumentsWithin-numbers (patterns_seen c.self.inside) c.self.inside.numbers.now c.self.invariant.numbers

pub returns : goal.returns
returns c bits size h =
    rw (← c.self.view_is)
    (HasBits-arguments (patterns_seen c.self.inside) c.self.inside.numbers.now c.self.invariant.numbers c.self.invariant.once c.args.base bits c.args.out.now c.add_arguments.new.out
    (as_column c.args.root) c.args.place size h c.add_arguments.ensures)
