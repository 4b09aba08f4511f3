use Rattle.fort_relation_exprs.proofs.LeadRowLaws.{HasAdded}
use Rattle.fort_relation_exprs.proofs.leads.join_words.Given as goal

abbrev pub invariant-loop-k : goal.invariant-loop-k
invariant-loop-k l = HasAdded l.initial.out l.row l.k l.more l.out
