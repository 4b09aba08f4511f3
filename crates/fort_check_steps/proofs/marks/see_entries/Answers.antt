use Rattle.std.proofs.Common.{◌≡◌, ◌<◌, ◌+◌, ◌^◌, ℕ, Bool, List, map, length, get_or, false, ap, sym, subst, ◌∙◌, arith}
use Rattle.std.proofs.lemmas.List.{length-map}
use Rattle.fort_tables.specs.Tuples.{presence}
use Rattle.fort_tables.specs.Entries.{Entry, no_entry}
use Rattle.fort_tables.specs.Counts.{count_at}
use Rattle.fort_findings.specs.FindingView.{as_count}
use Rattle.fort_check_steps.specs.Marks.{mark_in, entry_next, IsSeenTo}
use Rattle.fort_check_steps.proofs.ListedWalks.{advanced, before_more}
use Rattle.fort_check_steps.proofs.MarkLaws.{IsSeenTo-none, IsSeenTo-entry, IsSeenTo-others}
use Rattle.fort_check_steps.proofs.MarkSearch.{starts_are}
use Rattle.fort_check_steps.proofs.PureStates.{alone_is}
use Rattle.fort_check_steps.proofs.marks.see_entries.Goals.{then-presence-column, else-presence-column}
use Rattle.fort_check_steps.proofs.marks.see_entries.Goals as goal

pub targets-init : goal.targets-init
targets-init c =
    let t = c.args.table.now.table in
    let marks = map as_count c.args.marks.now in
    record {
      signature = c.new-entries.ensures.signature ∙ c.signature.ensures;
      columns = c.new-entries.ensures.columns ∙ c.columns.ensures.count;
      last = c.new-entries.ensures.start ∙ ap no_entry c.columns.ensures.count;
      seen = IsSeenTo-none t c.args.column c.args.states.now marks c.args.holds.now (length-map c.args.marks.now as_count ∙ c.requires.sizes) (c.requires.holds ∙ starts_are c.args.marks.now);
    }

pub targets-preserved : goal.targets-preserved
targets-preserved c =
    let t = c.args.table.now.table in
    let n = c.targets.place in
    let states = c.args.states.now in
    let marks = map as_count c.args.marks.now in
    let inv = c.targets.invariant in
    let lawful = c.presences-presences.ensures.lawful in
    let narrow : c.args.column < 16 = omega (arith, c.requires.column, lawful.table.narrow) in
    let low : n < length t.entries = omega (arith, c.targets-test.true, c.targets.auto.place-end, ap length c.targets-targets.ensures.targets, lawful.count) in
    let here = λ (d : Entry).
    advanced t n c.targets.entries.last c.advance-is_there.new.self.last d c.advance-is_there.result c.targets.entries.signature c.targets.entries.columns c.presences-presences.result.now lawful low
    inv.signature inv.columns c.presences-presences.ensures.presences inv.last c.advance-is_there.ensures.next c.advance-is_there.ensures.none in
    let e = get_or t.entries n (no_entry 0) in
    let at : c.row-row.result.now ≡ e = c.row-row.ensures ∙ here (no_entry 0) in
    let F : List Bool → Type 0 = λ holds. IsSeenTo t c.args.column states marks (n + 1) holds in
    let seen : F c.if-presence-column.holds = elim c.if-presence-column.branch [
      | then-presence-column w ↦
          let pure : presence e.symbol ≡ 2 ^ c.args.column =
          ap (λ (x : Entry). presence x.symbol) (sym at) ∙ (sym c.presence.ensures ∙ (w.if-presence-column.true ∙ alone_is c.args.column narrow)) in
          let kids : e.kids ≡ w.kids.result.now = ap (λ (x : Entry). x.kids) (sym at) ∙ sym w.kids.ensures.states in
          let target : get_or c.targets-targets.result.now n 0 ≡ get_or t.targets n 0 = ap (λ (xs : List ℕ). get_or xs n 0) c.targets-targets.ensures.targets in
          subst F (sym w.holds-is)
          (IsSeenTo-entry t c.args.column states marks n c.targets.holds w.see_entry.new.holds low inv.seen w.see_entry.auto.holds
          (λ i inside. w.see_entry.ensures e c.args.column pure kids i inside
          ∙ (λ k. entry_next (count_at states marks) c.args.column (get_or states i 0) (mark_in marks i) e (target k) (get_or c.targets.holds i false))))
      | else-presence-column w ↦ subst F (sym w.holds-is)
          (IsSeenTo-others t c.args.column states marks n (n + 1) c.targets.holds (omega arith) (omega (arith, low))
          (λ k from to pure.
          let same : k ≡ n = omega (arith, from, to) in
          w.if-presence-column.false (c.presence.ensures
          ∙ (ap (λ (x : Entry). presence x.symbol) at ∙ (ap (λ (j : ℕ). presence (get_or t.entries j (no_entry 0)).symbol) (sym same) ∙ (pure ∙ sym (alone_is c.args.column narrow))))))
          inv.seen)
    ] in
    record {
      signature = c.advance-is_there.ensures.signature ∙ inv.signature;
      columns = c.advance-is_there.ensures.columns ∙ inv.columns;
      last = before_more t n c.advance-is_there.new.self.last (here (no_entry t.columns));
      seen = seen;
    }
