use Rattle.std.proofs.Common.{◌<◌, length, rules}
use Rattle.fort_projection_keys.proofs.PlaceLaws.{seen_parts}
use Rattle.fort_projection_keys.proofs.parts.write_key.Goals as goal

pub write_parts-requires-clause-parts : goal.write_parts-requires-clause-parts
write_parts-requires-clause-parts g c =
    let seen = c.args.seen.now in
    let some : 0 < length seen = search (rules, c.is_empty.ensures, c.if-is_empty.false) in
    let asked = c.requires.seen in
    seen_parts (g.T.TableClasses.view_number c.args.body.now) (g.T.Table.table c.args.body.now) c.args.column asked.0 asked.1 seen c.requires.column asked.2 some
