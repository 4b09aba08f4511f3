-- Inside: what the fields of a term's labels stand for.
use Rattle.fort_alike.specs.Subterms.{subterms}
use Rattle.fort_context_closure.specs.TermNodes.{AreNodesOf}
use Rattle.fort_context_closure.specs.declared.term_labels.TermLabels.TheInside.{Inside}

-- the nodes of the term's subterms
abbrev pub IsListing : Inside → Type 0
IsListing l = AreNodesOf (subterms l.term) l.nodes.items
