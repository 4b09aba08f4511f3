use Rattle.std.proofs.Common.{arith}
use Rattle.fort_gtt_closure.proofs.SourceLaws.{through_set, AreSources-more}
use Rattle.fort_gtt_closure.proofs.agenda.Agenda.pass.Goals as goal

pub returns-clause-through : goal.returns-clause-through
returns-clause-through c x b lx lb =
    let a = c.args.self.now in
    through_set a.shape.height a.through.items c.args.p c.args.through (omega (arith, a.square, a.through.ok.0)) c.requires (omega arith) x b lx lb

pub invariant_of-self-2 : goal.invariant_of-self-2
invariant_of-self-2 c =
    let a = c.args.self.now in
    record {
      sized = a.sized;
      square = a.square;
      sourced = AreSources-more a.shape.height a.through.items c.args.p c.args.through (omega (arith, a.square, a.through.ok.0)) c.requires (omega arith) a.sources c.push.new.self a.sourced
          c.in_ok-push.ensures.ok;
    }
