use Rattle.std.proofs.Common.{◌≡◌, ℕ, List, take, subst, arith, refl}
use Rattle.std.proofs.lemmas.List.{take_all}
use Rattle.fort_gtt_closure.specs.Ready.{Passed}
use Rattle.fort_gtt_closure.proofs.WakeLaws.{Passed-none, Passed-more}
use Rattle.fort_gtt_closure.proofs.agenda.Agenda.wait_by_pairs.Goals as goal

pub loop-pair-init : goal.loop-pair-init
loop-pair-init c = Passed-none c.args.self.now.shape c.args.grid.now.entries.items c.args.p c.args.self.now refl

pub loop-pair-preserved : goal.loop-pair-preserved
loop-pair-preserved c =
    Passed-more c.args.self.now.shape c.args.grid.now.entries.items c.args.p c.args.self.now c.loop-pair.self c.pass.new.self c.args.pairs.now c.loop-pair.pair-index c.loop-pair-test.true
    c.loop-pair.invariant c.requires c.in_ok-pass.ensures.shape c.in_ok-pass.ensures.kept c.in_ok-pass.ensures.through c.in_ok-pass.ensures.row

pub returns : goal.returns
returns c =
    let all : take c.loop-pair.pair-index c.args.pairs.now ≡ c.args.pairs.now = take_all c.loop-pair.pair-index c.args.pairs.now (omega arith) in
    subst (λ (zs : List (ℕ × ℕ)). Passed c.args.self.now.shape c.args.grid.now.entries.items c.args.p c.args.self.now c.loop-pair.self zs) all c.loop-pair.invariant
