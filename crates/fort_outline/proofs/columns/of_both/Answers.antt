use Rattle.std.proofs.Common.{◌≡◌, ◌++◌, ap, ◌∙◌}
use Rattle.fort_outline.proofs.columns.of_both.Goals as goal

pub returns-clause-same : goal.returns-clause-same
returns-clause-same c =
    let whole : c.extend_from_slice.new.self.items ≡ c.args.first.now ++ c.args.second.now =
    c.in_ok-extend_from_slice.ensures.items ∙ ap (λ xs. xs ++ c.args.second.now) c.in_ok-numbers.ensures.items in
    rw whole at c.in_ok-put_in_order.ensures.same
