use Rattle.fort_context_closure.proofs.AtomLabelsLaws.{TellsAlike-normal, AcceptsTrue-normal, AcceptsNormal-normal, AcceptsMet-normal}
use Rattle.fort_context_closure.proofs.atom_labels.AtomLabels.nf.Goals as goal

pub returns-clause-alike : goal.returns-clause-alike
returns-clause-alike c = TellsAlike-normal c.args.system.now c.args.index c.in_ok-new.field-0 c.in_ok-new.ensures

pub returns-clause-accepted : goal.returns-clause-accepted
returns-clause-accepted c = AcceptsTrue-normal c.args.system.now c.args.index c.in_ok-new.field-0 c.in_ok-new.ensures

pub returns-clause-normal : goal.returns-clause-normal
returns-clause-normal c x = AcceptsNormal-normal c.args.system.now c.args.index c.in_ok-new.field-0 c.in_ok-new.ensures x

pub returns-clause-truth : goal.returns-clause-truth
returns-clause-truth c s x same apart = AcceptsMet-normal s apart c.args.system.now same c.args.index c.in_ok-new.field-0 c.in_ok-new.ensures x
