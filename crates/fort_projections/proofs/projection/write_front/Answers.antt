use Rattle.std.proofs.Common.{◌∙◌, arith}
use Rattle.fort_projections.proofs.LabelWritten.{first_set, second_set, none_marked}
use Rattle.fort_projections.proofs.projection.write_front.Goals as goal

pub returns-clause-first : goal.returns-clause-first
returns-clause-first g c = first_set c.clear.new.words c.presence.result c.absent_target.result (omega (arith, c.clear.auto.words, c.requires.room)) ∙ c.presence.ensures

pub returns-clause-second : goal.returns-clause-second
returns-clause-second g c = second_set c.clear.new.words c.presence.result c.absent_target.result (omega (arith, c.clear.auto.words, c.requires.room)) ∙ c.absent_target.ensures

pub returns-clause-none : goal.returns-clause-none
returns-clause-none g c = λ q. none_marked c.clear.new.words c.presence.result c.absent_target.result q (λ k l. c.clear.ensures k)
