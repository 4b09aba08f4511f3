use Rattle.std.proofs.Common.{◌∙◌}
use Rattle.fort_label_bits.specs.RowBits.{labels_at}
use Rattle.fort_relation_exprs.proofs.FactLaws.{one-told}
use Rattle.fort_relation_exprs.proofs.facts.kids_under.Goals as goal

pub returns-in-One : goal.returns-in-One
returns-in-One c = rw c.in-One.is (c.one_under.ensures ∙ one-told c.args.base c.args.equal (labels_at c.args.rows.now.labels c.args.row.now.kids))
