use Rattle.std.proofs.Common.{refl}
use Rattle.fort_entry_walk.proofs.StepLaws.{same_walk}
use Rattle.fort_entry_walk.proofs.walk.Walk.to_next_symbol.Goals as goal

pub returns-else-find_after-clause-stays : goal.returns-else-find_after-clause-stays
returns-else-find_after-clause-stays c = λ _.
    let stays = c.if-raise_last.ensures.stays refl in
    let others = rw stays at c.if-find_after.ensures.none refl in
    let digits = rw stays at c.copy-digits.ensures in
    same_walk c.args.self.now c.find_after.new.self c.copy-digits.result others digits (rw stays at c.if-find_after.ensures.arities)
