use Rattle.std.proofs.Common.{length, refl, arith}
use Rattle.fort_open_checker.proofs.JudgeLaws.{more_room, failing, one_more, states_low, accepted, refused}
use Rattle.fort_open_checker.proofs.found.check_nodes.Goals as goal

pub take-requires-clause-room : goal.take-requires-clause-room
take-requires-clause-room g c =
    let own = c.args.certificate.now in
    let n = length own.nodes.items in
    more_room (g.T.Table.table c.args.table.now) own c.loop-k.k c.loop-k.room.presences.items c.loop-k.room.states.items c.loop-k.invariant.states
    (omega (arith, c.loop-k-test.true, c.len-k-end.ensures, own.nodes.ok.0)) c.loop-k.room (c.loop-k.invariant.room n (c.clear.ensures.room n c.requires.room))

pub returns-then-not-take-clause-judged : goal.returns-then-not-take-clause-judged
returns-then-not-take-clause-judged g c =
    let own = c.args.certificate.now in
    failing (g.T.Table.table c.args.table.now) own c.loop-k.k c.loop-k.room.presences.items c.loop-k.room.states.items c.loop-k.invariant.states
    (omega (arith, c.loop-k-test.true, c.len-k-end.ensures, own.nodes.ok.0)) c.index.result.now c.index.ensures c.node_form.result c.node_form.ensures (c.if-not-take.ensures.refused refl)

pub returns-then-not-take-clause-room : goal.returns-then-not-take-clause-room
returns-then-not-take-clause-room g c = λ n room. c.take.ensures.room n (c.loop-k.invariant.room n (c.clear.ensures.room n room))

pub loop-k-preserved : goal.loop-k-preserved
loop-k-preserved g c =
    let own = c.args.certificate.now in
    let nodes = c.loop-k.invariant.states in
    record {
      states = one_more (g.T.Table.table c.args.table.now) own c.loop-k.k c.loop-k.room.presences.items c.loop-k.room.states.items nodes
          (omega (arith, c.loop-k-test.true, c.len-k-end.ensures, own.nodes.ok.0)) c.index.result.now c.index.ensures c.take.new.self.presences.items c.take.new.self.states.items
          (c.if-not-take.ensures.taken refl _ nodes);
      room = λ n room. c.take.ensures.room n (c.loop-k.invariant.room n room);
    }

pub accepts_last-requires : goal.accepts_last-requires
accepts_last-requires g c =
    states_low (g.T.Table.table c.args.table.now) c.args.certificate.now c.loop-k.k c.loop-k.room.presences.items c.loop-k.room.states.items c.loop-k.invariant.states
    c.deref.result.now c.deref.ensures.value c.columns-columns.ensures.lawful

pub returns-then-accepts_last-clause-judged : goal.returns-then-accepts_last-clause-judged
returns-then-accepts_last-clause-judged g c =
    let own = c.args.certificate.now in
    accepted (g.T.Table.table c.args.table.now) own c.loop-k.k c.loop-k.room.presences.items c.loop-k.room.states.items c.loop-k.invariant.states
    (omega (arith, c.loop-k-test.false, c.len-k-end.ensures, own.nodes.ok.0)) c.deref.result.now c.deref.ensures.value (c.accepts_last.ensures.0 c.if-accepts_last.true)

pub returns-then-accepts_last-clause-room : goal.returns-then-accepts_last-clause-room
returns-then-accepts_last-clause-room g c = λ n room. c.loop-k.invariant.room n (c.clear.ensures.room n room)

pub returns-else-accepts_last-clause-judged : goal.returns-else-accepts_last-clause-judged
returns-else-accepts_last-clause-judged g c =
    let own = c.args.certificate.now in
    refused (g.T.Table.table c.args.table.now) own c.loop-k.k c.loop-k.room.presences.items c.loop-k.room.states.items c.loop-k.invariant.states
    (omega (arith, c.loop-k-test.false, c.len-k-end.ensures, own.nodes.ok.0)) c.deref.result.now c.deref.ensures.value
    (λ yes. let is = c.accepts_last.ensures.1 yes in let no = c.if-accepts_last.false in cc) _ c.other_claim.ensures

pub returns-else-accepts_last-clause-room : goal.returns-else-accepts_last-clause-room
returns-else-accepts_last-clause-room g c = λ n room. c.loop-k.invariant.room n (c.clear.ensures.room n room)
