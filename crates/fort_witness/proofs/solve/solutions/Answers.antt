use Rattle.std.proofs.Common.{◌≡◌, ℕ, suc, ◌+◌, List, [], length, true, false, ap, sym, ◌∙◌, arith, subst}
use Rattle.std.specs.BinaryHeap.{heap_items, IsHeap}
use Rattle.fort_tables.specs.Entries.{tuples_of}
use Rattle.fort_tables.specs.Tables.{listed_table}
use Rattle.fort_tables.proofs.EqualTests.{equal_from_test}
use Rattle.fort_witness.specs.Heads.{head_cmp}
use Rattle.fort_witness.specs.Solving.{AreEntries}
use Rattle.fort_witness.specs.Making.{AreOld}
use Rattle.fort_witness.specs.Choices.{AreListed, lists_of}
use Rattle.fort_witness.specs.Answers.{AreSolutions}
use Rattle.fort_witness.proofs.AnswerLaws.{solutions_at, no_head, none_empty}
use Rattle.fort_witness.proofs.NodeListLaws.{kept_few}
use Rattle.fort_witness.proofs.TurnLaws.{making_done}
use Rattle.fort_witness.proofs.StartLaws.{making_start, all_here, all_done, none_found}
use Rattle.fort_witness.proofs.solve.solutions.Goals as goal

pub heights-init : goal.heights-init
heights-init c =
    let t = listed_table c.args.table.now in
    let f = c.in_ok-kept.kept in
    let s = none_found t c.args.most f c.in_ok-kept.ensures.dag c.in_ok-kept.ensures.states (subst (λ n. AreListed n [] (lists_of f.lists)) c.states.ensures.count c.in_ok-kept.ensures.lists) c.in_ok-kept.ensures.accepted in
    record {
      nodes = s.0;
      old = s.1;
      few = omega (arith, ap (λ (xs : List ℕ). length xs) c.in_ok-kept.ensures.accepted);
      none = c.new-heads.ensures.items;
      heap = c.new-heads.ensures.heap_order;
      up = omega arith;
    }

pub overflow_cast-end : goal.overflow_cast-end
overflow_cast-end c = omega (arith, kept_few (listed_table c.args.table.now) c.args.most c.heights.kept c.heights.invariant.nodes c.requires.states c.requires.few, c.len-end.ensures)

pub returns-then-is_empty : goal.returns-then-is_empty
returns-then-is_empty c =
    let t = listed_table c.args.table.now in
    let i = c.heights.invariant in
    let es : AreEntries t c.deref.result.now = subst (AreEntries t) (sym c.deref.ensures.value) c.in_ok-entries.ensures in
    let r = c.in_ok-first_rows.ensures t c.heights.level c.states-states.ensures.lawful es i.nodes i.old in
    let none = none_empty (heap_items c.first_rows.new.heads) (omega (arith, equal_from_test _ 0 (sym c.is_empty.ensures ∙ c.if-is_empty.true), c.first_rows.new.heads.data.ok.0)) in
    solutions_at t c.args.height c.args.most c.heights.kept.dag c.answer.result.dag c.heights.kept.accepted.items c.answer.result.nodes.items false c.answer.result.more c.answer.ensures.dag c.answer.ensures.nodes c.answer.ensures.more
    (all_here t c.args.most c.heights.level c.heights.low c.args.height c.heights.kept c.deref.result.now (heap_items c.first_rows.new.heads) no_head c.states-states.ensures.lawful es i.nodes i.old i.few i.up r none)

pub make_nodes-requires-clause-making : goal.make_nodes-requires-clause-making
make_nodes-requires-clause-making c =
    let t = listed_table c.args.table.now in
    let i = c.heights.invariant in
    let es : AreEntries t c.deref.result.now = subst (AreEntries t) (sym c.deref.ensures.value) c.in_ok-entries.ensures in
    let r = c.in_ok-first_rows.ensures t c.heights.level c.states-states.ensures.lawful es i.nodes i.old in
    (c.heights.level, making_start t c.args.most c.heights.level c.heights.low c.len-end.result c.heights.kept c.deref.result.now (heap_items c.first_rows.new.heads) no_head c.states-states.ensures.lawful es i.nodes i.old i.few c.len-end.ensures r)

pub returns-then-branch : goal.returns-then-branch
returns-then-branch c =
    let t = listed_table c.args.table.now in
    let i = c.heights.invariant in
    let es : AreEntries t c.deref.result.now = subst (AreEntries t) (sym c.deref.ensures.value) c.in_ok-entries.ensures in
    let r = c.in_ok-first_rows.ensures t c.heights.level c.states-states.ensures.lawful es i.nodes i.old in
    let m = making_start t c.args.most c.heights.level c.heights.low c.len-end.result c.heights.kept c.deref.result.now (heap_items c.first_rows.new.heads) no_head c.states-states.ensures.lawful es i.nodes i.old i.few c.len-end.ensures r in
    solutions_at t c.args.height c.args.most c.make_nodes.new.kept.dag c.answer-then-branch.result.dag c.make_nodes.new.kept.accepted.items c.answer-then-branch.result.nodes.items true c.answer-then-branch.result.more c.answer-then-branch.ensures.dag c.answer-then-branch.ensures.nodes c.answer-then-branch.ensures.more
    (c.in_ok-make_nodes.ensures.more c.if-branch.true c.heights.level c.args.height m i.up)

pub returns-then-level-height : goal.returns-then-level-height
returns-then-level-height c =
    let t = listed_table c.args.table.now in
    let i = c.heights.invariant in
    let es : AreEntries t c.deref.result.now = subst (AreEntries t) (sym c.deref.ensures.value) c.in_ok-entries.ensures in
    let r = c.in_ok-first_rows.ensures t c.heights.level c.states-states.ensures.lawful es i.nodes i.old in
    let m = making_start t c.args.most c.heights.level c.heights.low c.len-end.result c.heights.kept c.deref.result.now (heap_items c.first_rows.new.heads) no_head c.states-states.ensures.lawful es i.nodes i.old i.few c.len-end.ensures r in
    let done = c.in_ok-make_nodes.ensures.done c.if-branch.false c.heights.level m in
    let e : c.heights.level ≡ c.args.height = omega (arith, c.if-level-height.true) in
    solutions_at t c.args.height c.args.most c.make_nodes.new.kept.dag c.answer-then-level-height.result.dag c.make_nodes.new.kept.accepted.items c.answer-then-level-height.result.nodes.items false c.answer-then-level-height.result.more c.answer-then-level-height.ensures.dag c.answer-then-level-height.ensures.nodes c.answer-then-level-height.ensures.more
    (subst (λ h. AreSolutions t h c.args.most c.make_nodes.new.kept.dag c.make_nodes.new.kept.accepted.items false) e (all_done t c.args.most c.heights.level c.heights.low c.len-end.result c.make_nodes.new.kept c.states-states.ensures.lawful done))

pub heights-preserved : goal.heights-preserved
heights-preserved c =
    let t = listed_table c.args.table.now in
    let i = c.heights.invariant in
    let es : AreEntries t c.deref.result.now = subst (AreEntries t) (sym c.deref.ensures.value) c.in_ok-entries.ensures in
    let r = c.in_ok-first_rows.ensures t c.heights.level c.states-states.ensures.lawful es i.nodes i.old in
    let m = making_start t c.args.most c.heights.level c.heights.low c.len-end.result c.heights.kept c.deref.result.now (heap_items c.first_rows.new.heads) no_head c.states-states.ensures.lawful es i.nodes i.old i.few c.len-end.ensures r in
    let done = c.in_ok-make_nodes.ensures.done c.if-branch.false c.heights.level m in
    let e : suc c.heights.level ≡ c.heights.level + 1 = omega arith in
    let none = c.in_ok-make_nodes.ensures.empty c.if-branch.false in
    record {
      nodes = done.nodes;
      old = subst (λ h. AreOld t (suc c.args.most) h c.len-end.result (tuples_of c.make_nodes.new.kept.dag)) e (making_done t c.args.most c.heights.level c.heights.low c.len-end.result c.make_nodes.new.kept c.states-states.ensures.lawful done);
      few = done.few;
      none = none;
      heap = subst (IsHeap head_cmp) (sym none) done.ordered;
      up = omega (arith, i.up, c.if-level-height.false);
    }
