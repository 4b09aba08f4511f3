use Rattle.std.proofs.Common.{length, ap, arith}
use Rattle.fort_check_steps.specs.Room.{most_states}
use Rattle.fort_cert_checker.proofs.making.list_of.Goals as goal

pub returns-clause-list : goal.returns-clause-list
returns-clause-list c = λ targets only.
    let same = c.targets_of-targets.ensures.own targets only in
    record {
      states = omega (arith, c.most_states.ensures, ap most_states same);
      targets_fit = omega (arith, ap length same);
    }
