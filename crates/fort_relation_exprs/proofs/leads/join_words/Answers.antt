use Rattle.std.proofs.Common.{get_or, nat_eq, arith}
use Rattle.std.proofs.lemmas.Bool.Decides.{Decides-not, Decides-eqb}
use Rattle.fort_relation_exprs.proofs.LeadRowLaws.{HasAdded-more, bits-added}
use Rattle.fort_relation_exprs.proofs.leads.join_words.Goals as goal

pub loop-k-preserved : goal.loop-k-preserved
loop-k-preserved c =
    HasAdded-more c.args.out.now c.args.row.now c.loop-k.out c.loop-k.k c.loop-k.more _ c.both-word.result (omega arith) c.both-word.ensures.value c.both-word.ensures.small
    (Decides-not (nat_eq c.both-word.result (get_or c.loop-k.out c.loop-k.k 0)) (Decides-eqb c.both-word.result (get_or c.loop-k.out c.loop-k.k 0))) c.loop-k.invariant

pub returns-clause-bits : goal.returns-clause-bits
returns-clause-bits c = bits-added c.args.out.now c.args.row.now c.loop-k.out c.loop-k.k c.loop-k.more (omega arith) (omega arith) c.loop-k.invariant
