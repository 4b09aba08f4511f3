use Rattle.std.proofs.Common.{length, arith}
use Rattle.std.proofs.lemmas.Bool.Decides.{Decides-eqb}
use Rattle.fort_check_steps.proofs.LeftWords.{none_left}
use Rattle.fort_check_steps.proofs.sparse_rows.are_words.Goals as goal

pub returns : goal.returns
returns c =
    let label = c.args.label.now in
    let ps = c.args.places.now in
    let ws = c.args.words.now in
    let n = c.loop-place.next in
    let i = c.loop-place.invariant in
    let end = none_left label ps ws c.loop-place.place n (omega arith) i.few c.requires.count in
    let test = Decides-eqb n (length ws) in
    (λ t. i.left.1 (end.1 (test.0 t)), λ h. test.1 (end.0 (i.left.0 h)))
