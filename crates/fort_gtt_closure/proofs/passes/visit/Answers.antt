use Rattle.std.proofs.Common.{refl, sym, ◌∙◌, inl}
use Rattle.fort_tree_automata.proofs.Truths.{not_both}
use Rattle.fort_gtt_closure.proofs.passes.visit.Goals as goal

pub returns-else-waits-clause-visited : goal.returns-else-waits-clause-visited
returns-else-waits-clause-visited c =
    inl (refl, λ due. not_both (c.requires.ready.awake.due c.args.p c.args.q due) (sym c.waits.ensures ∙ c.if-waits.false))
