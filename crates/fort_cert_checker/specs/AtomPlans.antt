-- Inside: the local rule of an atom as the program makes it.
use Rattle.fort_theory.specs.Patterns.{PatternSystem}
use Rattle.fort_context_closure.specs.declared.atom_labels.AtomLabels.{AtomLabels}
use Rattle.fort_context_closure.specs.AtomLabelsView.{rule_by, accepted_by}
use Rattle.fort_certificate_theory.specs.PartRules.{Local}

abbrev pub atom_local : PatternSystem → AtomLabels → Local
atom_local system labels = record { rule = rule_by system.signature labels; accepting = accepted_by system.signature labels }
