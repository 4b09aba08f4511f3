use Rattle.std.proofs.Common.{arith}
use Rattle.fort_theory.proofs.Members.{Contains-head, Contains-behind}
use Rattle.fort_transducers.proofs.beside.side_by_side.Goals as goal

pub push_moves-requires-clause-kids : goal.push_moves-requires-clause-kids
push_moves-requires-clause-kids c m among q there =
    let low = c.requires.named.moves m.0 m.1 m.2 (rw c.deref.ensures.value at among) q (Contains-behind m.2 m.1 q there) in
    omega (arith, low, c.requires.few)

pub push_moves-requires-clause-target : goal.push_moves-requires-clause-target
push_moves-requires-clause-target c m among =
    let low = c.requires.named.moves m.0 m.1 m.2 (rw c.deref.ensures.value at among) m.2 (Contains-head m.2 m.1) in
    omega (arith, low, c.requires.few)

pub push_pairs-requires : goal.push_pairs-requires
push_pairs-requires c p q among =
    let low = c.requires.named.silent p q (rw c.deref-2.ensures.value at among) in
    (omega (arith, low.0, c.requires.few), omega (arith, low.1, c.requires.few))
