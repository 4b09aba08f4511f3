use Rattle.std.proofs.Common.{refl}
use Rattle.fort_tree_automata.proofs.TrimmedLaws.{IsTrimmed-kept}
use Rattle.fort_tree_automata.proofs.nta.Nta.trim.Goals as goal

pub returns : goal.returns
returns c =
    IsTrimmed-kept c.args.self.now _ c.in_ok-flags.flags.items c.in_ok-flags.ensures.exact refl
    (rw (c.deref.ensures.value, c.deref-2.ensures.value) at c.in_ok-kept_moves.ensures) (rw (c.deref-3.ensures.value, c.deref-4.ensures.value) at c.in_ok-kept_silent.ensures) refl
