use Rattle.std.proofs.Common.{arith}
use Rattle.fort_io.proofs.Given.{drop-moved}
use Rattle.fort_io.proofs.mem_source.MemSourceSource.read.Goals as goal

pub returns-clause-moved : goal.returns-clause-moved
returns-clause-moved c =
    let moved = c.copy_from_slice.ensures in
    rw (← c.self.view_is) (drop-moved _ _ _ _ _ _ c.min-n.result c.deref-2.ensures.value moved.after moved.len (omega (arith, c.min-n.ensures, c.min.ensures)))
