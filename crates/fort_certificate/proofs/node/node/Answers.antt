use Rattle.std.proofs.Common.{◌∙◌}
use Rattle.fort_certificate.specs.ReadView.{as_kind}
use Rattle.fort_certificate.proofs.NodeLaws.{node_kids}
use Rattle.fort_certificate.proofs.node.node.Goals as goal

pub unreachable-requires-in-Err-Wrong : goal.unreachable-requires-in-Err-Wrong
unreachable-requires-in-Err-Wrong c =
    let one = c.in-Some-split_first in
    let two = c.in-Some-split_first-2 in
    let rest = two.ensures.bytes.1 ∙ (one.ensures.bytes.1 ∙ c.in-Some.ensures.bytes) in
    let wrong = rw (c.in-Err-Wrong.field-0-is, rest) at c.in-Err-Wrong.ensures.wrong in
    node_kids c.args.form.now.bytes c.args.form.now.form c.requires.0 c.requires.1 c.in-Some.list.forms c.in-Some.ensures.some one._head.form
    one.behind.forms one.ensures.some two.symbol.form two.rest.forms two.ensures.some (as_kind c.in-Err-Wrong._wrong) wrong
