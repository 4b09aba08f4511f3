use Rattle.std.proofs.Common.{sym}
use Rattle.fort_gtt_closure.proofs.ScanLaws.{unequal}
use Rattle.fort_gtt_closure.proofs.reasons.all_listed.Goals as goal

pub returns-then-ps-qs : goal.returns-then-ps-qs
returns-then-ps-qs c = sym (unequal c.args.grid.now.entries.items c.args.ps.now c.args.qs.now c.if-ps-qs.true)
