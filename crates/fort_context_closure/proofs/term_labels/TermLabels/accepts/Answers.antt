use Rattle.std.proofs.Common.{refl}
use Rattle.fort_context_closure.proofs.ListingLaws.{own_number_is}
use Rattle.fort_context_closure.proofs.term_labels.TermLabels.accepts.Goals as goal

pub returns : goal.returns
returns c = rw (c.number_word.ensures, own_number_is c.args.self.now) refl
