use Rattle.std.proofs.Common.{ℕ, List, subst}
use Rattle.fort_gtt_closure.specs.Ready.{Passed}
use Rattle.fort_gtt_closure.proofs.WakeLaws.{Wakes-made}
use Rattle.fort_gtt_closure.proofs.agenda.Agenda.wake.Goals as goal

pub returns : goal.returns
returns c =
    let m = c.wait_by_moves.ensures in
    let s = c.wait_by_sources.ensures in
    let first = c.wait_by_moves.new.self in
    let second = c.wait_by_pairs.new.self in
    Wakes-made c.args.links.now c.args.grid.now.entries.items c.args.p c.args.q c.args.self.now first second c.wait_by_sources.new.self c.requires
    m.shape m.through m.kept m.met m.right_silent m.left_silent
    (subst (λ (zs : List (ℕ × ℕ)). Passed first.shape c.args.grid.now.entries.items c.args.p first second zs) c.get.ensures c.in_ok-wait_by_pairs.ensures)
    s.shape s.through s.kept s.back
