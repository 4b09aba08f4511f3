use Rattle.fort_cert_checker.proofs.PastLaws.{answer_room}
use Rattle.fort_cert_checker.proofs.past.Past.answer.Goals as goal

pub returns-else-columns-eq0-clause-room : goal.returns-else-columns-eq0-clause-room
returns-else-columns-eq0-clause-room c = answer_room c.args.self.now c.args.source c.table.result c.index-self-source.result c.if-columns-eq0.false c.table.ensures.room
