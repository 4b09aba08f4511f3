use Rattle.std.proofs.Common.{length, sym, ap, ◌∙◌}
use Rattle.fort_alike.specs.AtomRules.{marks_of}
use Rattle.fort_alike.proofs.Bits.{length-row_of}
use Rattle.fort_mark_keys.specs.AskedMarks.{asks}
use Rattle.fort_mark_keys.specs.MarkKeysView.{keys_seen}
use Rattle.fort_mark_keys.proofs.mark_keys.MarkKeysLabelKeys.write_key.Goals as goal

pub write_masked-requires-clause-width : goal.write_masked-requires-clause-width
write_masked-requires-clause-width c =
    let a = keys_seen c.args.self.now in
    ap length c.requires.view.2 ∙ (length-row_of (marks_of a) 0 (asks a c.requires.view.0 c.requires.view.1) ∙ sym c.requires.width)
