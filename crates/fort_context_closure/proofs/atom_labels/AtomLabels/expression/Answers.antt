use Rattle.std.proofs.Common.{refl}
use Rattle.fort_context_closure.proofs.atom_labels.AtomLabels.expression.Goals as goal

pub returns-clause-labels : goal.returns-clause-labels
returns-clause-labels c =
    let is = c.in_ok-labels.ensures in (
      c.in_ok-labels.labels,
      refl,
      record {
        arguments = is.arguments;
        over = λ columns are. record { count = is.columns columns are; alike = is.alike columns are; accepted = is.accepted columns are };
      },
    )
