use Rattle.std.proofs.Common.{sym}
use Rattle.fort_products.proofs.HoldLaws.{held_end, behind_end}
use Rattle.fort_products.proofs.held.Holding.pass_under.Goals as goal

pub returns-then-count-eq0 : goal.returns-then-count-eq0
returns-then-count-eq0 c = λ o p a k v b.
    let h = c.args.self.now in
    let f = c.args.symbol.now in
    let joint = c.args.joint.now in
    let none = c.if-count-eq0.true in
    behind_end o p h f 0 c.args.count c.pass.new.cursors none (c.pass.ensures o f p (held_end o p h f joint 0 0 c.args.count none a) (sym k) v b)
