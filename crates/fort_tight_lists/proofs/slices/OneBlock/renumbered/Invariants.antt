use Rattle.fort_tight_lists.proofs.RenumberLaws.{IsNumberedTo}
use Rattle.fort_tight_lists.proofs.slices.OneBlock.renumbered.Given as goal

abbrev pub invariant-loop-class : goal.invariant-loop-class
invariant-loop-class l = IsNumberedTo l.self.blocks.now l.self.block l.self.counts.now l.place l.class l.slices l.made.numbers.items l.made.firsts.items
