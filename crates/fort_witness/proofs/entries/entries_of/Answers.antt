use Rattle.std.proofs.Common.{◌≡◌, ℕ, ◌<◌, List, length, ap, sym, ◌∙◌, subst, arith}
use Rattle.fort_tables.specs.Entries.{Entry}
use Rattle.fort_tables.specs.Tables.{IsListed, listed_table}
use Rattle.fort_witness.specs.declared.head.Head.{Head}
use Rattle.fort_witness.specs.RowsLeft.{rows_after}
use Rattle.fort_witness.specs.Solving.{AreEntriesTo}
use Rattle.fort_witness.proofs.EntriesToLaws.{entries_none, entries_more, entries_all, last_at}
use Rattle.fort_witness.proofs.RowsLeftLaws.{fewer_after}
use Rattle.fort_witness.proofs.NodesLaws.{next_at}
use Rattle.fort_witness.proofs.entries.entries_of.Goals as goal

pub entries-init : goal.entries-init
entries-init c = record {
  to = entries_none (listed_table c.args.table.now) c.new-all.result.items c.entries-entries.result.last (ap (λ (xs : List Head). length xs) c.new-all.ensures.items) c.entries-entries.ensures.start;
  signature = c.entries-entries.ensures.signature;
  columns_are = c.entries-entries.ensures.columns;
}

pub next-requires : goal.next-requires
next-requires c = omega (arith, ap (λ (xs : List ℕ). length xs) (c.as_slice.ensures.value ∙ c.in_ok-presences.ensures), c.states-states.ensures.count)

pub entries-smaller : goal.entries-smaller
entries-smaller c =
    let l = c.args.table.now in
    let t = listed_table l in
    let row = c.in-Some.row in
    let next = next_at c.entries.entries.signature t.signature c.entries.entries.columns t.columns c.as_slice.result.now t.presences c.entries.entries.last row c.entries.invariant.signature c.entries.invariant.columns_are (c.as_slice.ensures.value ∙ c.in_ok-presences.ensures) c.in-Some.ensures.next in
    let lawful : IsListed l = c.entries-entries.ensures.lawful in
    subst (λ (x : Entry). rows_after x l.entries < rows_after c.entries.entries.last l.entries) (sym c.in-Some.ensures.given)
    (fewer_after l.signature l.columns l.presences l.entries c.entries.entries.last row lawful.all (λ k d m. (lawful.order.are k d m).symbol.width) next)

pub entries-preserved : goal.entries-preserved
entries-preserved c =
    let t = listed_table c.args.table.now in
    let row = c.in-Some.row in
    let next = next_at c.entries.entries.signature t.signature c.entries.entries.columns t.columns c.as_slice.result.now t.presences c.entries.entries.last row c.entries.invariant.signature c.entries.invariant.columns_are (c.as_slice.ensures.value ∙ c.in_ok-presences.ensures) c.in-Some.ensures.next in
    let x : Head = record { row = row; state = c.target-state.result } in
    let target : t.target row ≡ c.target-state.result = ap t.target (λ i. record { symbol = sym c.sym.ensures i; kids = sym c.kids.ensures.states i }) ∙ sym c.target-state.ensures in
    record {
      to = subst (AreEntriesTo t c.push.new.self.items) (sym c.in-Some.ensures.given) (entries_more t c.entries.all.items c.push.new.self.items c.entries.entries.last x c.entries.invariant.to next target c.in_ok-push-in-Some.ensures.items);
      signature = c.in-Some.ensures.signature ∙ c.entries.invariant.signature;
      columns_are = c.in-Some.ensures.columns ∙ c.entries.invariant.columns_are;
    }

pub returns-in-None : goal.returns-in-None
returns-in-None c =
    let t = listed_table c.args.table.now in
    entries_all t c.entries.all.items c.entries.entries.last c.entries.invariant.to
    (last_at c.entries.entries.signature t.signature c.entries.entries.columns t.columns c.as_slice.result.now t.presences c.entries.entries.last c.entries.invariant.signature c.entries.invariant.columns_are (c.as_slice.ensures.value ∙ c.in_ok-presences.ensures) c.in-None.ensures.none)
