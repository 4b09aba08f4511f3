use Rattle.std.proofs.Common.{inl, inr, ap, ◌∙◌}
use Rattle.fort_run.proofs.TermTexts.{count-line}
use Rattle.fort_run.proofs.solutions.count_text.Goals as goal
use Rattle.fort_run.proofs.solutions.count_text.Goals.{then-more+in_ok-extend_from_slice, else-more}

pub returns : goal.returns
returns c =
    count-line c.args.count c.args.more c.in_ok-text.text.items c.push_number.new.line.items c.if-more.text.items c.push.new.self.items
    c.in_ok-text.ensures.items c.in_ok-push_number.ensures
    (elim c.if-more.branch [
      | then-more+in_ok-extend_from_slice w ↦ inl (w.if-more.true, ap (λ v. v.items) w.text-is ∙ w.in_ok-extend_from_slice.ensures.items)
      | else-more w ↦ inr (w.if-more.false, ap (λ v. v.items) w.text-is)
    ])
    c.in_ok-push.ensures.items
