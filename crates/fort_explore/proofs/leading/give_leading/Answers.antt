use Rattle.std.proofs.Common.{arith, sym, ◌∙◌}
use Rattle.fort_leading_tables.specs.LeadingMaking.{turned}
use Rattle.fort_explore.proofs.ExploreLaws.{placed_over}
use Rattle.fort_explore.proofs.LeadingLoopLaws.{loop_ready, loop_target, loop_given, loop_grows}
use Rattle.fort_explore.proofs.leading.give_leading.Goals as goal

pub returns-then-len-cap-clause-over : goal.returns-then-len-cap-clause-over
returns-then-len-cap-clause-over g c = λ _.
    let f = c.entries.found in
    let f' = c.place_of.new.found in
    let n = g.L.Labeller.column_count c.args.labeller.now in
    let label = g.L.Labeller.label c.args.labeller.now in
    let t = turned (g.V.SymbolLeaders.keys c.entries.leaders) (g.V.LeaderLists.lists c.entries.leaders) (g.V.SymbolLeaders.knows c.entries.leaders) in
    let due = c.in-Some.ensures.some in
    let ready = loop_ready c.args.sig.now n label t f.labels.labels f.firsts c.entries.maker c.entries.invariant.exploring c.in-Some.row.now due.0 due.1 in
    let p = c.in_ok-q-in-Some.ensures.placed c.args.sig.now c.requires.served ready in
    let over = placed_over c.args.sig.now n label f.firsts f'.firsts f.labels.labels f'.labels.labels c.in-Some.row.now c.in_ok-q-in-Some.q c.args.cap p c.entries.invariant.few (omega (arith, c.len.ensures, c.if-len-cap.true)) in
    record { tuples = over.0; nodes = over.1 }

pub give-requires-clause-made : goal.give-requires-clause-made
give-requires-clause-made g c =
    let f = c.entries.found in
    let f' = c.place_of.new.found in
    let n = g.L.Labeller.column_count c.args.labeller.now in
    let label = g.L.Labeller.label c.args.labeller.now in
    let t = turned (g.V.SymbolLeaders.keys c.entries.leaders) (g.V.LeaderLists.lists c.entries.leaders) (g.V.SymbolLeaders.knows c.entries.leaders) in
    let x = c.entries.invariant.exploring in
    let due = c.in-Some.ensures.some in
    let ready = loop_ready c.args.sig.now n label t f.labels.labels f.firsts c.entries.maker x c.in-Some.row.now due.0 due.1 in
    let p = c.in_ok-q-in-Some.ensures.placed c.args.sig.now c.requires.served ready in
    (f.labels.labels, x.made, x.signature, x.maker, loop_target c.args.sig.now n label t f.labels.labels f.firsts c.entries.maker x f'.firsts f'.labels.labels c.in-Some.row.now c.in_ok-q-in-Some.q due.0 p)

pub entries-smaller : goal.entries-smaller
entries-smaller g c =
    let f = c.entries.found in
    let f' = c.place_of.new.found in
    let n = g.L.Labeller.column_count c.args.labeller.now in
    let label = g.L.Labeller.label c.args.labeller.now in
    let t = turned (g.V.SymbolLeaders.keys c.entries.leaders) (g.V.LeaderLists.lists c.entries.leaders) (g.V.SymbolLeaders.knows c.entries.leaders) in
    let t' = turned (g.V.SymbolLeaders.keys c.give.new.leaders) (g.V.LeaderLists.lists c.give.new.leaders) (g.V.SymbolLeaders.knows c.give.new.leaders) in
    let x = c.entries.invariant.exploring in
    let due = c.in-Some.ensures.some in
    let ready = loop_ready c.args.sig.now n label t f.labels.labels f.firsts c.entries.maker x c.in-Some.row.now due.0 due.1 in
    let p = c.in_ok-q-in-Some.ensures.placed c.args.sig.now c.requires.served ready in
    let target = loop_target c.args.sig.now n label t f.labels.labels f.firsts c.entries.maker x f'.firsts f'.labels.labels c.in-Some.row.now c.in_ok-q-in-Some.q due.0 p in
    let given = c.in_ok-give-in-Some.ensures.given f.labels.labels x.made x.signature x.maker target in
    omega (arith, c.len-count.ensures, loop_grows c.args.sig.now n label t f.labels.labels f.firsts c.entries.maker x t' f'.labels.labels c.give.new.self c.in_ok-q-in-Some.q given)

pub entries-preserved : goal.entries-preserved
entries-preserved g c =
    let f = c.entries.found in
    let f' = c.place_of.new.found in
    let n = g.L.Labeller.column_count c.args.labeller.now in
    let label = g.L.Labeller.label c.args.labeller.now in
    let t = turned (g.V.SymbolLeaders.keys c.entries.leaders) (g.V.LeaderLists.lists c.entries.leaders) (g.V.SymbolLeaders.knows c.entries.leaders) in
    let t' = turned (g.V.SymbolLeaders.keys c.give.new.leaders) (g.V.LeaderLists.lists c.give.new.leaders) (g.V.SymbolLeaders.knows c.give.new.leaders) in
    let x = c.entries.invariant.exploring in
    let due = c.in-Some.ensures.some in
    let ready = loop_ready c.args.sig.now n label t f.labels.labels f.firsts c.entries.maker x c.in-Some.row.now due.0 due.1 in
    let p = c.in_ok-q-in-Some.ensures.placed c.args.sig.now c.requires.served ready in
    let target = loop_target c.args.sig.now n label t f.labels.labels f.firsts c.entries.maker x f'.firsts f'.labels.labels c.in-Some.row.now c.in_ok-q-in-Some.q due.0 p in
    let given = c.in_ok-give-in-Some.ensures.given f.labels.labels x.made x.signature x.maker target in
    record {
      exploring = loop_given c.args.sig.now n label t f.labels.labels f.firsts c.entries.maker x f'.firsts f'.labels.labels c.in-Some.row.now c.in_ok-q-in-Some.q due.0 p t' c.give.new.self due.1 given;
      keys = c.in_ok-give-in-Some.ensures.asked ∙ c.entries.invariant.keys;
      same = c.in_ok-q-in-Some.ensures.same;
      width = c.in_ok-q-in-Some.ensures.width ∙ c.entries.invariant.width;
      asked = c.in_ok-q-in-Some.ensures.width ∙ (c.entries.invariant.asked ∙ sym c.in_ok-give-in-Some.ensures.width);
      kept = c.place_of.ensures.kept;
      room = c.place_of.auto.out ∙ c.entries.invariant.room;
      few = omega (arith, c.len.ensures, c.if-len-cap.false);
      grows = omega (arith, c.place_of.ensures.steps, c.entries.invariant.grows);
    }
