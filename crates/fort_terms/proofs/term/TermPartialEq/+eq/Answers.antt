use Rattle.std.proofs.Common.{sym, ◌∙◌}
use Rattle.fort_terms.specs.TermKeyLaws.{tree_eq-kids}
use Rattle.fort_terms.proofs.term.TermPartialEq.+eq.Goals as goal

pub returns-then-eq : goal.returns-then-eq
returns-then-eq t c = rw (← c.self.view_is, ← c.other.view_is, c.eq-then-eq.ensures) (tree_eq-kids c.self.inside.sym.0 c.other.inside.sym.0 c.self.inside.kids.items c.other.inside.kids.items (sym c.eq.ensures ∙ c.if-eq.true))
