use Rattle.std.proofs.Common.{map}
use Rattle.std.proofs.lemmas.Result.{on_ok_weaker}
use Rattle.fort_certificate_theory.specs.Dues.{counts_due, answer_due}
use Rattle.fort_outline.specs.Roots.{root_core}
use Rattle.fort_dues.specs.DueView.{as_due}
use Rattle.fort_dues.proofs.DueLists.{regroup}
use Rattle.fort_dues.proofs.dues.push_part.Goals as goal

pub returns : goal.returns
returns c = on_ok_weaker c.push_answer.result (λ put parts are.
    let f = root_core parts c.args.root.now in
    regroup (map as_due c.args.dues.now.items) (counts_due c.args.number f) (answer_due (λ k. c.args.is_merged) c.args.number f) (map as_due c.push_counts.new.dues.items) (map as_due c.push_answer.new.dues.items)
    (c.in_ok-push_counts.ensures parts) (put parts are)) c.push_answer.ensures
