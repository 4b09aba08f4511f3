use Rattle.std.proofs.Common.{◌≡◌, ℕ, suc, ◌<◌, ◌≤◌, List, [], ◌∷◌, ◌++◌, take, length, get_or, ap, sym, ◌∙◌, subst, arith}
use Rattle.std.specs.BinaryHeap.{heap_items}
use Rattle.std.proofs.lemmas.List.{length_push, length-take-le}
use Rattle.fort_tables.specs.Entries.{Entry, tuples_of}
use Rattle.fort_tables.specs.Tables.{listed_table}
use Rattle.fort_tables.proofs.NodeLaws.{AreNodes-push}
use Rattle.fort_witness.specs.Choices.{AreListed, lists_of}
use Rattle.fort_witness.proofs.NodeListLaws.{nodes_room, kept_few}
use Rattle.fort_witness.proofs.StepLaws.{taken_distinct}
use Rattle.fort_witness.proofs.FirstRowsLaws.{nodes_length}
use Rattle.fort_witness.proofs.TurnLaws.{old_states, taken_out, coming_out, making_full, making_stop}
use Rattle.fort_witness.proofs.PushedLaws.{row_entry, making_node, over_parts}
use Rattle.fort_witness.proofs.NextRowLaws.{kids_old, kids_known, next_gone, next_more, row_table_entry, not_over, states_stay}
use Rattle.fort_witness.proofs.solve.make_node.Goals as goal

pub count-requires : goal.count-requires
count-requires c =
    let q = c.requires.taken.1 in
    let x = coming_out (listed_table c.args.table.now) c.args.most c.requires.taken.0 c.args.span.low c.args.span.end c.args.kept.now c.args.head.now (heap_items c.args.heads.now) c.states-states.ensures.lawful q in
    omega (arith, x.known, q.making.nodes.lists.count)

pub returns-then-most-count-clause-done : goal.returns-then-most-count-clause-done
returns-then-most-count-clause-done c = λ e h q.
    making_full (listed_table c.args.table.now) c.args.most h c.args.span.low c.args.span.end c.args.kept.now q.heads (heap_items c.args.heads.now) c.args.head.now c.states-states.ensures.lawful q.making q.permutation q.top q.ordered
    (omega (arith, c.if-most-count.true, c.count.ensures))

pub is_final-accepted-requires : goal.is_final-accepted-requires
is_final-accepted-requires c =
    (coming_out (listed_table c.args.table.now) c.args.most c.requires.taken.0 c.args.span.low c.args.span.end c.args.kept.now c.args.head.now (heap_items c.args.heads.now) c.states-states.ensures.lawful c.requires.taken.1).known

pub returns-then-is_over-clause-more : goal.returns-then-is_over-clause-more
returns-then-is_over-clause-more c = λ e h height q up.
    let both = over_parts c.is_final-accepted.result c.len.result c.args.most (sym c.is_over.ensures ∙ c.if-is_over.true) in
    making_stop (listed_table c.args.table.now) c.args.most h c.args.span.low c.args.span.end height c.args.kept.now q.heads (heap_items c.args.heads.now) c.args.head.now c.states-states.ensures.lawful q.making q.permutation q.top
    (sym c.is_final-accepted.ensures ∙ both.0) (omega (arith, both.1, c.len.ensures, c.args.kept.now.accepted.ok.0)) up

pub push-requires-clause-few : goal.push-requires-clause-few
push-requires-clause-few c =
    omega (arith, kept_few (listed_table c.args.table.now) c.args.most c.args.kept.now c.requires.taken.1.making.nodes c.requires.few c.requires.most)

pub push-requires-clause-nodes : goal.push-requires-clause-nodes
push-requires-clause-nodes c =
    let t = listed_table c.args.table.now in
    let f = c.args.kept.now in
    let x = c.args.head.now in
    let q = c.requires.taken.1 in
    let k = taken_out t c.args.most c.requires.taken.0 c.args.span.low c.args.span.end f x (heap_items c.args.heads.now) q in
    (t.signature, t.columns, AreNodes-push t.signature t.columns f.dag x.row q.making.nodes.are (row_entry t c.args.span.end f.dag x.row (q.making.coming.rows x k.own).0.row))

pub push-requires-clause-state : goal.push-requires-clause-state
push-requires-clause-state c =
    let q = c.requires.taken.1 in
    let x = coming_out (listed_table c.args.table.now) c.args.most c.requires.taken.0 c.args.span.low c.args.span.end c.args.kept.now c.args.head.now (heap_items c.args.heads.now) c.states-states.ensures.lawful q in
    omega (arith, x.known, q.making.nodes.lists.count)

pub next_row-requires-clause-within : goal.next_row-requires-clause-within
next_row-requires-clause-within c = λ j l.
    let t = listed_table c.args.table.now in
    let f = c.args.kept.now in
    let x = c.args.head.now in
    let q = c.requires.taken.1 in
    let k = taken_out t c.args.most c.requires.taken.0 c.args.span.low c.args.span.end f x (heap_items c.args.heads.now) q in
    let o = kids_old t c.args.most c.requires.taken.0 c.args.span.low c.args.span.end f q.heads x q.making k.own j l in
    omega (arith, o.0, o.1, ap (λ (xs : List ℕ). length xs) (c.deref.ensures.value ∙ c.in_ok-push.ensures.states), length_push f.states.items x.state)

pub next_row-requires-clause-known : goal.next_row-requires-clause-known
next_row-requires-clause-known c = λ j l.
    let t = listed_table c.args.table.now in
    let f = c.args.kept.now in
    let x = c.args.head.now in
    let q = c.requires.taken.1 in
    let k = taken_out t c.args.most c.requires.taken.0 c.args.span.low c.args.span.end f x (heap_items c.args.heads.now) q in
    let known = kids_known t c.args.most c.requires.taken.0 c.args.span.low c.args.span.end f q.heads x c.deref.result.now x.state c.states-states.ensures.lawful q.making k.own (c.deref.ensures.value ∙ c.in_ok-push.ensures.states) j l in
    omega (arith, known, c.in_ok-push.ensures.counts.count, q.making.nodes.lists.count)

pub next_row-requires-clause-few : goal.next_row-requires-clause-few
next_row-requires-clause-few c =
    let f = c.args.kept.now in
    let n = c.requires.taken.1.making.nodes in
    omega (arith, kept_few (listed_table c.args.table.now) c.args.most f n c.requires.few c.requires.most, n.count, ap (λ (xs : List ℕ). length xs) (c.deref.ensures.value ∙ c.in_ok-push.ensures.states), length_push f.states.items c.args.head.now.state)

pub returns-in_ok-push-in-Some-clause-room : goal.returns-in_ok-push-in-Some-clause-room
returns-in_ok-push-in-Some-clause-room c = λ e.
    let t = listed_table c.args.table.now in
    let f = c.args.kept.now in
    let x = c.args.head.now in
    let q = c.requires.taken.1 in
    let n = q.making.nodes in
    let known = (coming_out t c.args.most c.requires.taken.0 c.args.span.low c.args.span.end f x (heap_items c.args.heads.now) c.states-states.ensures.lawful q).known in
    let room = nodes_room (length t.presences) (suc c.args.most) x.state f.states.items (lists_of f.lists) n.lists n.few known (omega (arith, c.if-most-count.false, c.count.ensures)) in
    omega (arith, room, n.count, ap (λ (xs : List Entry). length xs) c.in_ok-push.ensures.dag, length_push f.dag x.row, c.in_ok-push-in-Some.ensures.len)

pub returns-in_ok-push-in-Some-clause-done : goal.returns-in_ok-push-in-Some-clause-done
returns-in_ok-push-in-Some-clause-done c = λ e h q.
    let t = listed_table c.args.table.now in
    let f = c.args.kept.now in
    let x = c.args.head.now in
    let rest = heap_items c.args.heads.now in
    let end = c.args.span.end in
    let qs = c.deref.result.now in
    let m = q.making in
    let k = taken_out t c.args.most h c.args.span.low end f x rest q in
    let states : qs ≡ f.states.items ++ x.state ∷ [] = c.deref.ensures.value ∙ c.in_ok-push.ensures.states in
    let lists = c.in_ok-push.ensures.lists (length t.presences) f.states.items m.nodes.lists (sym m.nodes.count) in
    let listed : AreListed (length (lists_of c.push.new.self.lists)) qs (lists_of c.push.new.self.lists) = subst (λ i. AreListed i qs (lists_of c.push.new.self.lists)) (sym lists.count) (subst (λ (xs : List ℕ). AreListed (length t.presences) xs (lists_of c.push.new.self.lists)) (sym states) lists) in
    let size : length (take end (tuples_of f.dag)) ≡ end = length-take-le end (tuples_of f.dag) (omega (arith, m.within, nodes_length f.dag)) in
    let long : end ≤ length f.states.items = omega (arith, m.within, m.nodes.count) in
    let old_at = old_states t c.args.most h c.args.span.low end f q.heads m in
    let stay : (i : ℕ) → i < length (take end (tuples_of f.dag)) → get_or qs i 0 ≡ get_or (take end f.states.items) i 0 = λ i l. states_stay end f.states.items qs x.state long states i (omega (arith, size)) in
    making_node t c.args.most h c.args.span.low end f c.push.new.self q.heads rest (heap_items c.push-in-Some.new.self) x c.is_final-accepted.result c.states-states.ensures.lawful m q.permutation q.top
    (omega (arith, c.if-most-count.false, c.count.ensures)) c.is_final-accepted.ensures
    (λ a b. not_over c.is_final-accepted.result c.len.result c.args.most (sym c.is_over.ensures ∙ c.if-is_over.false) a (omega (arith, b, c.len.ensures, f.accepted.ok.0)))
    (record { dag = c.in_ok-push.ensures.dag; states = c.in_ok-push.ensures.states; lists = lists; counts = c.in_ok-push.ensures.counts; accepted = c.in_ok-push.ensures.accepted })
    (next_more t (take end (tuples_of f.dag)) c.args.span.low end (take end f.states.items) qs rest (heap_items c.push-in-Some.new.self) x (record { row = c.in-Some.row; state = x.state }) c.states-states.ensures.lawful m.old.places old_at size (omega (arith, size, long, ap (λ (xs : List ℕ). length xs) states, length_push f.states.items x.state))
    stay (m.coming.rows x k.own).0 (m.coming.rows x k.own).1 c.in-Some.ensures.symbol (c.in-Some.ensures.some listed) c.in_ok-push-in-Some.ensures.permutation c.in_ok-push-in-Some.ensures.heap_order k.apart
    (taken_distinct (take end f.states.items) q.heads rest x q.permutation m.apart) q.ordered
    (row_table_entry t (take end (tuples_of f.dag)) qs x.row c.states-states.ensures.lawful m.old.places (record { at = λ i l. stay i l ∙ old_at.at i l }) (m.coming.rows x k.own).0.row))

pub returns-in-None-clause-done : goal.returns-in-None-clause-done
returns-in-None-clause-done c = λ e h q.
    let t = listed_table c.args.table.now in
    let f = c.args.kept.now in
    let x = c.args.head.now in
    let rest = heap_items c.args.heads.now in
    let end = c.args.span.end in
    let qs = c.deref.result.now in
    let m = q.making in
    let k = taken_out t c.args.most h c.args.span.low end f x rest q in
    let states : qs ≡ f.states.items ++ x.state ∷ [] = c.deref.ensures.value ∙ c.in_ok-push.ensures.states in
    let lists = c.in_ok-push.ensures.lists (length t.presences) f.states.items m.nodes.lists (sym m.nodes.count) in
    let listed : AreListed (length (lists_of c.push.new.self.lists)) qs (lists_of c.push.new.self.lists) = subst (λ i. AreListed i qs (lists_of c.push.new.self.lists)) (sym lists.count) (subst (λ (xs : List ℕ). AreListed (length t.presences) xs (lists_of c.push.new.self.lists)) (sym states) lists) in
    let size : length (take end (tuples_of f.dag)) ≡ end = length-take-le end (tuples_of f.dag) (omega (arith, m.within, nodes_length f.dag)) in
    let long : end ≤ length f.states.items = omega (arith, m.within, m.nodes.count) in
    making_node t c.args.most h c.args.span.low end f c.push.new.self q.heads rest rest x c.is_final-accepted.result c.states-states.ensures.lawful m q.permutation q.top
    (omega (arith, c.if-most-count.false, c.count.ensures)) c.is_final-accepted.ensures
    (λ a b. not_over c.is_final-accepted.result c.len.result c.args.most (sym c.is_over.ensures ∙ c.if-is_over.false) a (omega (arith, b, c.len.ensures, f.accepted.ok.0)))
    (record { dag = c.in_ok-push.ensures.dag; states = c.in_ok-push.ensures.states; lists = lists; counts = c.in_ok-push.ensures.counts; accepted = c.in_ok-push.ensures.accepted })
    (next_gone t (take end (tuples_of f.dag)) c.args.span.low end (take end f.states.items) qs rest x size (omega (arith, size, long, ap (λ (xs : List ℕ). length xs) states, length_push f.states.items x.state))
    (λ i l. states_stay end f.states.items qs x.state long states i (omega (arith, size))) (m.coming.rows x k.own).0 (c.in-None.ensures.none listed)
    (taken_distinct (take end f.states.items) q.heads rest x q.permutation m.apart) q.ordered)
