use Rattle.fort_mark_keys.proofs.side.Side.new.Goals as goal

pub invariant_of-result : goal.invariant_of-result
invariant_of-result c = record { numbers = c.requires.numbers; few = c.requires.few; once = c.requires.once }
