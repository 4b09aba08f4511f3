use Rattle.std.proofs.Common.{ℕ, List, None, length, take, ap, sym, ◌∙◌, arith, subst}
use Rattle.std.specs.List.{insert}
use Rattle.fort_tables.specs.Entries.{entry}
use Rattle.fort_tables.specs.Tables.{IsTableEntry}
use Rattle.fort_tables.proofs.ManyEntryLaws.{kid_within, absent_entry, absent_state_small}
use Rattle.fort_infinity.specs.ManyCounts.{is_many}
use Rattle.fort_infinity.proofs.many_entry.absent_target.Goals as goal

pub absent_states-states-requires-clause-kids : goal.absent_states-states-requires-clause-kids
absent_states-states-requires-clause-kids g c =
    kid_within (g.T.Table.table c.args.body.now) c.args.column (is_many c.args.alone.now c.args.counts.now) c.args.rows.now.labels c.args.row.now c.states-states.ensures.lawful c.states-states.ensures.reached c.requires

pub absent_states-states-requires-clause-small : goal.absent_states-states-requires-clause-small
absent_states-states-requires-clause-small g c = λ j l.
    let body = g.T.Table.table c.args.body.now in
    omega (arith, absent_state_small body c.args.column (is_many c.args.alone.now c.args.counts.now) c.args.rows.now.labels c.args.row.now c.states-states.ensures.lawful c.states-states.ensures.reached c.requires j l, c.states-states.ensures.count, c.states-states.type_inv)

pub target-requires : goal.target-requires
target-requires g c =
    let body = g.T.Table.table c.args.body.now in
    let p = sym (c.with_column-symbol.ensures ∙ ap (λ s. insert s c.args.column None) c.sym.ensures) in
    let q = sym (ap (λ (ks : List ℕ). take (length ks) c.absent_states-states.result) c.kids.ensures.states ∙ c.absent_states-states.ensures) in
    subst (IsTableEntry body) (λ i. entry (p i) (q i)) (absent_entry body c.args.column (is_many c.args.alone.now c.args.counts.now) c.args.rows.now.labels c.args.row.now c.states-states.ensures.lawful c.states-states.ensures.reached c.requires)
