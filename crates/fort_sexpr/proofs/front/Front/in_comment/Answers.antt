use Rattle.std.proofs.Common.{◌≡◌, ◌<◌, ◌==◌, length, sym, ap, ◌∙◌, arith}
use Rattle.std.proofs.lemmas.Bool.{le-ltb}
use Rattle.std.proofs.lemmas.List.{get_or_default}
use Rattle.fort_sexpr.proofs.Fronts.{end_comment, end_no_comment}
use Rattle.fort_sexpr.proofs.front.Front.in_comment.Goals as goal

pub returns-then-self-len : goal.returns-then-self-len
returns-then-self-len c =
    let front = c.args.self.now in
    let bytes = front.bytes in
    let within : front.at < length bytes.items = omega (arith, c.if-self-len.true, c.len.ensures, bytes.ok.0) in
    ap (λ b. b == 59) (c.index.ensures ∙ get_or_default bytes.items front.at _ 0 within)
    ∙ sym (end_comment bytes.items _ _ _ front.at c.requires.read c.requires.seen within)

pub returns-else-self-len : goal.returns-else-self-len
returns-else-self-len c =
    let front = c.args.self.now in
    let at_end : front.at ≡ length front.bytes.items = omega (arith, c.if-self-len.false, c.len.ensures, front.bytes.ok.0, c.requires.seen.after) in
    le-ltb front.at c.len.result c.if-self-len.false ∙ sym (end_no_comment front.bytes.items _ _ _ front.at c.requires.read at_end)
