use Rattle.std.proofs.Common.{sym, ◌∙◌}
use Rattle.fort_terms.specs.TermKeyLaws.{tree_order-kids}
use Rattle.fort_terms.proofs.term.+term_order.Goals as goal

pub TermOrd::cmp-returns-in-Equal : goal.TermOrd::cmp-returns-in-Equal
TermOrd::cmp-returns-in-Equal t c =
    rw (← c.self.view_is, ← c.other.view_is, c.cmp-in-Equal.ensures) (tree_order-kids c.self.inside.sym.0 c.other.inside.sym.0 c.self.inside.kids.items c.other.inside.kids.items (sym c.cmp.ensures ∙ c.in-Equal.is))
