use Rattle.std.proofs.Common.{◌+◌, ◌*◌, arith, ◌∙◌}
use Rattle.fort_gtt_closure.proofs.GridLaws.{cells_push, within_push, count_set}
use Rattle.std.proofs.lemmas.Nat.{mul-add-lt}
use Rattle.fort_gtt_closure.proofs.grid.Grid.add.Goals as goal

pub invariant_of-self-2-clause-agrees : goal.invariant_of-self-2-clause-agrees
invariant_of-self-2-clause-agrees c =
    let s = c.args.self.now in
    rw c.in_ok-push.ensures.items (cells_push s.height s.width s.seen.items s.entries.items c.args.entry (omega (arith, s.seen.ok.0)) c.requires.row c.requires.column s.agrees)

pub invariant_of-self-2-clause-within : goal.invariant_of-self-2-clause-within
invariant_of-self-2-clause-within c =
    let s = c.args.self.now in
    rw c.in_ok-push.ensures.items (within_push s.height s.width s.entries.items c.args.entry c.requires.row c.requires.column s.within)

pub invariant_of-self-2-clause-counted : goal.invariant_of-self-2-clause-counted
invariant_of-self-2-clause-counted c =
    let s = c.args.self.now in
    let e = c.args.entry in
    omega (arith, c.in_ok-push.ensures.len, count_set s.seen.items (e.p * s.width + e.q) (omega (arith, s.seen.ok.0, mul-add-lt e.p s.width e.q s.height c.requires.row c.requires.column)) (s.agrees e.p e.q c.requires.row c.requires.column ∙ c.requires.fresh))
