use Rattle.std.proofs.Common.{ℕ, List, ◌++◌, ◌∷◌, [], length, sym, ap, subst, ◌∙◌, arith}
use Rattle.fort_steps.specs.OpenView.{as_node}
use Rattle.fort_open_checker.specs.NodeStates.{AreNodeStates}
use Rattle.fort_open_checker.proofs.NodeStateLaws.{node_entry, presence_count, state_count, kids_inside, entry_inside, over_same, taken}
use Rattle.fort_open_checker.proofs.nodes.NodeRoom.take.Goals as goal

pub state_over-state-requires-clause-few : goal.state_over-state-requires-clause-few
state_over-state-requires-clause-few g c = omega (arith, c.in-Some.ensures.few, ap length c.deref-in-Some-2.ensures.value)

pub state_over-state-requires-clause-within : goal.state_over-state-requires-clause-within
state_over-state-requires-clause-within g c =
    let t = g.T.Table.table c.args.table.now in
    let room = c.args.self.now in
    let e = as_node c.args.node.now in
    let is = node_entry t c.signature.result.now c.columns.result c.deref.result.now room.presences.items e c.signature.ensures c.columns.ensures.count c.deref.ensures.value c.in-Some.ensures.some in
    kids_inside t c.requires.states.0 room.presences.items room.states.items c.requires.states.1 c.columns.ensures.lawful e is
    c.in-Some.symbol c.deref-in-Some.result.now c.deref-in-Some-2.result.now c.in-Some.ensures.symbol c.deref-in-Some.ensures.value c.deref-in-Some-2.ensures.value

pub state_over-state-requires-clause-entry : goal.state_over-state-requires-clause-entry
state_over-state-requires-clause-entry g c =
    let t = g.T.Table.table c.args.table.now in
    let room = c.args.self.now in
    let e = as_node c.args.node.now in
    let is = node_entry t c.signature.result.now c.columns.result c.deref.result.now room.presences.items e c.signature.ensures c.columns.ensures.count c.deref.ensures.value c.in-Some.ensures.some in
    entry_inside t c.requires.states.0 room.presences.items room.states.items c.requires.states.1 c.columns.ensures.lawful e is
    c.in-Some.symbol c.deref-in-Some.result.now c.deref-in-Some-2.result.now c.in-Some.ensures.symbol c.deref-in-Some.ensures.value c.deref-in-Some-2.ensures.value

pub presence-requires : goal.presence-requires
presence-requires g c =
    let t = g.T.Table.table c.args.table.now in
    let room = c.args.self.now in
    let e = as_node c.args.node.now in
    let is = node_entry t c.signature.result.now c.columns.result c.deref.result.now room.presences.items e c.signature.ensures c.columns.ensures.count c.deref.ensures.value c.in-Some.ensures.some in
    let there = entry_inside t c.requires.states.0 room.presences.items room.states.items c.requires.states.1 c.columns.ensures.lawful e is
    c.in-Some.symbol c.deref-in-Some.result.now c.deref-in-Some-2.result.now c.in-Some.ensures.symbol c.deref-in-Some.ensures.value c.deref-in-Some-2.ensures.value in
    omega (arith, c.columns.ensures.lawful.within _ there, c.state_over-state.ensures)

pub push_reserved-requires : goal.push_reserved-requires
push_reserved-requires g c =
    let t = g.T.Table.table c.args.table.now in
    let room = c.args.self.now in
    let h = c.requires.states.1 in
    omega (arith, c.requires.room.presences, presence_count t c.requires.states.0 room.presences.items room.states.items h, state_count t c.requires.states.0 room.presences.items room.states.items h, room.presences.ok.0)

pub returns-in-Some-clause-taken : goal.returns-in-Some-clause-taken
returns-in-Some-clause-taken g c = λ yes nodes h.
    let t = g.T.Table.table c.args.table.now in
    let room = c.args.self.now in
    let e = as_node c.args.node.now in
    let is = node_entry t c.signature.result.now c.columns.result c.deref.result.now room.presences.items e c.signature.ensures c.columns.ensures.count c.deref.ensures.value c.in-Some.ensures.some in
    let same = over_same t nodes room.presences.items room.states.items h c.columns.ensures.lawful e is
    c.in-Some.symbol c.deref-in-Some.result.now c.deref-in-Some-2.result.now c.in-Some.ensures.symbol c.deref-in-Some.ensures.value c.deref-in-Some-2.ensures.value in
    let next = taken t nodes room.presences.items room.states.items h c.columns.ensures.lawful e is c.state_over-state.result c.presence.result (c.state_over-state.ensures ∙ ap t.target same) c.presence.ensures in
    let all = nodes ++ e ∷ [] in
    subst (λ (ps : List ℕ). AreNodeStates t all ps c.push_reserved-in-Some.new.self.items) (sym {A = List ℕ} c.push_reserved.ensures.items)
    (subst (λ (qs : List ℕ). AreNodeStates t all (room.presences.items ++ c.presence.result ∷ []) qs) (sym {A = List ℕ} c.push_reserved-in-Some.ensures.items) next)
