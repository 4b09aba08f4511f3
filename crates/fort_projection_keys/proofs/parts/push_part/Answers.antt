use Rattle.std.proofs.Common.{arith}
use Rattle.fort_projection_keys.proofs.PlaceLaws.{presence_fits_word}
use Rattle.fort_projection_keys.proofs.parts.push_part.Goals as goal

pub overflow_add-at : goal.overflow_add-at
overflow_add-at g c =
    let small = presence_fits_word (g.T.Table.table c.args.body.now) (g.T.TableClasses.view_number c.args.body.now) c.args.column c.args.presence c.args.word c.requires.part
    c.columns-columns.ensures.lawful.narrow c.if-word-eq0.false in
    omega (arith, small)
