use Rattle.std.proofs.Common.{sym, ◌∙◌}
use Rattle.fort_tree_automata.proofs.SetLaws.{Contains-inserted}
use Rattle.fort_tree_automata.proofs.flags.insert_marked.Goals as goal

pub returns-in_ok-insert : goal.returns-in_ok-insert
returns-in_ok-insert c =
    Contains-inserted c.args.flags.now c.args.found.now.keys c.insert.new.self.keys c.args.state c.in_ok-insert.ensures.keys (sym c.is_marked.ensures ∙ c.if-is_marked.true)
