use Rattle.std.proofs.Common.{◌≡◌, ◌==◌, ℕ, not, filter, rules, ap, ◌∙◌}
use Rattle.std.proofs.lemmas.Fn.{filter_same}
use Rattle.fort_outline.proofs.columns.without.Goals as goal

pub returns : goal.returns
returns c =
    let others : c.retain.new.self.items ≡ filter (λ n. not (c.args.number == n)) c.in_ok-others.others.items =
    filter_same _ (λ n. not (c.args.number == n)) _ (λ x b f k. search rules) _ _ c.retain.ensures.filtered in
    others ∙ ap (filter (λ (n : ℕ). not (c.args.number == n))) c.in_ok-others.ensures.items
