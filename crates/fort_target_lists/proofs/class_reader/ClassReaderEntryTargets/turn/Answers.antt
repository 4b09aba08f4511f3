use Rattle.std.proofs.Common.{ap, arith}
use Rattle.fort_target_lists.specs.Places.{number_of}
use Rattle.fort_target_lists.proofs.ClassListLaws.{number_low}
use Rattle.fort_target_lists.proofs.class_reader.ClassReaderEntryTargets.turn.Goals as goal

pub number-self-requires-clause-small : goal.number-self-requires-clause-small
number-self-requires-clause-small c =
    let r = c.requires in
    let f = c.args.symbol.now in
    let list = c.args.self.now.list.now in
    omega (arith, number_low r.0 list r.1 f r.2 (number_of list.base f) (ap (λ b. number_of b f) r.1.base_is), r.1.few)
