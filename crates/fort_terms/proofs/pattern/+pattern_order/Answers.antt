use Rattle.std.proofs.Common.{sym, ◌∙◌}
use Rattle.fort_terms.specs.PatternKeyLaws.{args_order}
use Rattle.fort_terms.proofs.pattern.+pattern_order.Goals as goal

pub PatternOrd::cmp-returns-in-Equal : goal.PatternOrd::cmp-returns-in-Equal
PatternOrd::cmp-returns-in-Equal t c =
    rw (c.in-App-App.is-0, c.in-App-App.is-1, sym c.cmp.ensures ∙ c.in-Equal.is, ← c.args-in-App-App.view_is, ← c.others.view_is)
    (c.cmp-in-Equal.ensures ∙ args_order c.args-in-App-App.inside.items.items c.others.inside.items.items)
