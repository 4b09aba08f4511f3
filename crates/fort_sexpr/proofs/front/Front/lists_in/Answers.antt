use Rattle.std.proofs.Common.{ℕ, List, ◌++◌, reverse, ◌∙◌, arith}
use Rattle.std.proofs.lemmas.Result.{err_from_is_err_and}
use Rattle.fort_sexpr.proofs.Fronts.{front_few, fault_of_front}
use Rattle.fort_sexpr.proofs.Tallies.{piece_begun, looked_over}
use Rattle.fort_sexpr.proofs.front.Front.lists_in.Goals as goal

pub look_over-requires-clause-few : goal.look_over-requires-clause-few
look_over-requires-clause-few c =
    let front = c.args.self.now in
    omega (
      arith,
      c.len-2.ensures,
      c.len-3.ensures,
      front.bytes.ok.0,
      front.walk.lists.ok.0,
      c.requires.read.seen.after,
      front_few front.bytes.items (reverse front.walk.open.items) front.walk.lists.items front.walk.count front.at c.requires.read.read,
    )

pub returns-in_err-end-clause-fault : goal.returns-in_err-end-clause-fault
returns-in_err-end-clause-fault c =
    let p = err_from_is_err_and c.from_residual.result c.from_residual.ensures.1 in
    let front = c.args.self.now in
    let piece = c.args.piece.now in
    let begun = λ (more : List ℕ). piece_begun front c.requires.read _ c.in_comment.ensures (c.len.ensures ∙ front.walk.open.ok.0)
    (c.len-2.ensures ∙ front.walk.lists.ok.0) piece more c.len-3.result (c.len-3.ensures ∙ front.bytes.ok.0) in
    rw (p.1, p.2) (fault_of_front (front.bytes.items ++ piece) c.in_err-end.field-0.0 c.in_err-end.ensures.byte
    (λ more. c.in_err-end.ensures.fault _ (begun more).piece (begun more).tally))

pub overflow_sub-result : goal.overflow_sub-result
overflow_sub-result c =
    let front = c.args.self.now in
    (looked_over front c.requires.read _ c.in_comment.ensures (c.len.ensures ∙ front.walk.open.ok.0) (c.len-2.ensures ∙ front.walk.lists.ok.0)
    c.args.piece.now c.len-3.result c.in_ok-end.end (c.len-3.ensures ∙ front.bytes.ok.0) c.in_ok-end.ensures.tally).more

pub returns-clause-lists : goal.returns-clause-lists
returns-clause-lists c =
    let front = c.args.self.now in
    let over = looked_over front c.requires.read _ c.in_comment.ensures (c.len.ensures ∙ front.walk.open.ok.0) (c.len-2.ensures ∙ front.walk.lists.ok.0)
    c.args.piece.now c.len-3.result c.in_ok-end.end (c.len-3.ensures ∙ front.bytes.ok.0) c.in_ok-end.ensures.tally in
    omega (arith, over.opened, over.more, c.len-2.ensures, front.walk.lists.ok.0)

pub returns-clause-faultless : goal.returns-clause-faultless
returns-clause-faultless c =
    let front = c.args.self.now in
    (looked_over front c.requires.read _ c.in_comment.ensures (c.len.ensures ∙ front.walk.open.ok.0) (c.len-2.ensures ∙ front.walk.lists.ok.0)
    c.args.piece.now c.len-3.result c.in_ok-end.end (c.len-3.ensures ∙ front.bytes.ok.0) c.in_ok-end.ensures.tally).faultless
