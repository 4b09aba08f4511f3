use Rattle.fort_alike.specs.Subterms.{subterms}
use Rattle.fort_alike.proofs.SubtermLaws.{ListsSubterms-subterms}
use Rattle.fort_alike.proofs.TermLabels.{labels-AlikeAtTerm, accepts-term}
use Rattle.fort_context_closure.proofs.atom_labels.AtomLabels.is.Goals as goal

pub returns-clause-alike : goal.returns-clause-alike
returns-clause-alike c sig t u =
    let term = c.args.term.now in
    rw c.in_ok-new.ensures (labels-AlikeAtTerm sig term (subterms term) (ListsSubterms-subterms term) t u)

pub returns-clause-accepted : goal.returns-clause-accepted
returns-clause-accepted c sig t =
    let term = c.args.term.now in
    rw c.in_ok-new.ensures (accepts-term sig term (subterms term) (ListsSubterms-subterms term) t)
