use Rattle.fort_outline.proofs.NumberLaws.{numbered_stored}
use Rattle.fort_outline.proofs.numbers.number_of.Goals as goal

pub returns-clause-numbered : goal.returns-clause-numbered
returns-clause-numbered c =
    λ before so_far.
    let e = c.in_ok-number.ensures in
    numbered_stored before c.args.roots.now.keys c.insert_full.new.self.keys c.args.root c.in_ok-number.number so_far c.requires e.keys e.within e.stored
