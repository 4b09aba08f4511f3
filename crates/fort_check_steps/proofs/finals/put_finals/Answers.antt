use Rattle.std.proofs.Common.{length, ap, arith, ◌∙◌, sym}
use Rattle.fort_tables.proofs.LabelRuleLaws.{HasWidth-rule}
use Rattle.fort_check_steps.proofs.finals.put_finals.Goals as goal

pub write-requires-clause-label : goal.write-requires-clause-label
write-requires-clause-label g c =
    let r = g.R.LocalRule.rule c.args.rule.now in
    let h = c.requires.labels c.loop-q.q (omega arith) in
    let words = HasWidth-rule r.signature r (g.R.LocalRule.word_count c.args.rule.now) (g.met.R.LocalRule.has_words c.args.rule.now) in
    sym (ap length h.2) ∙ (words h.0 h.1 ∙ sym c.requires.width)

pub is_final-requires : goal.is_final-requires
is_final-requires g c =
    let h = c.requires.labels c.loop-q.q (omega arith) in
    (h.0, h.1, h.2 ∙ sym c.write.ensures)
