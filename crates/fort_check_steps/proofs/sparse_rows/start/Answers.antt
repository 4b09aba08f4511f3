use Rattle.std.proofs.Common.{◌≡◌, ◌-◌, suc, ap, sym, arith}
use Rattle.fort_check_steps.specs.SparseWords.{start_of}
use Rattle.fort_check_steps.proofs.sparse_rows.start.Goals as goal

pub returns-then-index-eq0 : goal.returns-then-index-eq0
returns-then-index-eq0 c = sym (ap (start_of c.args.ends.now) c.if-index-eq0.true)

pub returns-else-index-eq0 : goal.returns-else-index-eq0
returns-else-index-eq0 c =
    let e : c.args.index ≡ suc (c.args.index - 1) = omega (arith, c.if-index-eq0.false) in
    sym (ap (start_of c.args.ends.now) e)
