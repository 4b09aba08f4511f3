use Rattle.std.proofs.Common.{arith, length}
use Rattle.fort_tuple_symbols.proofs.Bounds.{bound-up_to}
use Rattle.fort_entry_walk.proofs.entries.Entries.new.Goals as goal

pub row-row-requires-clause-small : goal.row-row-requires-clause-small
row-row-requires-clause-small c = bound-up_to 65536 (length c.args.sig.now) c.new-walk.result.digits (omega (arith, c.len-symbols.ensures.lawful.few)) c.new-walk.ensures.place.digits

pub invariant_of-result : goal.invariant_of-result
invariant_of-result c = record { narrow = omega (arith, c.new-walk.ensures.width); row = c.row-row.ensures; place = c.new-walk.ensures.place; arities = c.new-walk.ensures.arities }
