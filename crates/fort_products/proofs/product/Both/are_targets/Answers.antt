use Rattle.std.proofs.Common.{◌+◌, refl, sym, arith, subst}
use Rattle.fort_target_lists.specs.Places.{AreCounts}
use Rattle.fort_target_lists.specs.Walks.{IsTakenUp, AreStageBegins}
use Rattle.fort_products.specs.HeldWalks.{operands_of}
use Rattle.fort_target_lists.proofs.LayLaws.{walk_taken}
use Rattle.fort_products.proofs.HoldLaws.{presences_small, table_held, held_covered, held_begun, held_from}
use Rattle.fort_products.proofs.product.Both.are_targets.Goals as goal

pub take_states-requires-clause-within : goal.take_states-requires-clause-within
take_states-requires-clause-within g c =
    let b = c.args.self.now in
    presences_small (operands_of g.T.Table.table b.first b.second) b.columns c.args.rows.now.labels c.args.presences.now c.requires.labels c.requires.presences

pub begin_cursors-requires-clause-table : goal.begin_cursors-requires-clause-table
begin_cursors-requires-clause-table g c =
    let sig = c.args.signature.now in
    let columns = c.args.self.now.columns in
    let ps = c.args.presences.now in
    let targets = c.args.targets.now in
    let counts = subst (AreCounts ps) (sym c.as_slice-counts.ensures.value) c.take_states.ensures.counts in
    let size = c.has_entries.ensures.yes ps counts c.if-not-has_entries.false in (
      table_held sig columns ps targets,
      record {
        listed = held_covered sig columns ps targets c.args.self.now.narrow c.requires.few size;
        signature = refl;
        columns_are = refl;
        base_is = omega (arith, c.len-base.ensures.count);
        chains_are = c.take_states.ensures.chains;
        targets_are = refl;
      },
    )

pub hold_all-requires-clause-between : goal.hold_all-requires-clause-between
hold_all-requires-clause-between g c =
    let b = c.args.self.now in
    let o = operands_of g.T.Table.table b.first b.second in
    let sig = c.args.signature.now in
    let columns = b.columns in
    let ps = c.args.presences.now in
    let targets = c.args.targets.now in
    let t = table_held sig columns ps targets in
    let counts = subst (AreCounts ps) (sym c.as_slice-counts.ensures.value) c.take_states.ensures.counts in
    let size = c.has_entries.ensures.yes ps counts c.if-not-has_entries.false in
    let taken : IsTakenUp t sig columns (c.len-base.result + 1) targets c.take_states.new.self = record {
      listed = held_covered sig columns ps targets b.narrow c.requires.few size;
      signature = refl;
      columns_are = refl;
      base_is = omega (arith, c.len-base.ensures.count);
      chains_are = c.take_states.ensures.chains;
      targets_are = refl;
    } in
    let begins = c.as_mut_slice.result.now in
    let begun : AreStageBegins t begins = subst (AreStageBegins t) (sym c.as_mut_slice.ensures.value) (c.begin_cursors.ensures.begins t taken) in
    (t, begins, held_begun o t _ begins (record { lays = refl; signature = sym c.requires.signature; operands = b.operands; presences = c.requires.presences; labels = c.requires.labels }) (walk_taken t _ c.take_states.new.self taken c.begin_cursors.ensures.chains) begun)

pub returns-clause-held : goal.returns-clause-held
returns-clause-held g c = λ fine.
    let b = c.args.self.now in
    let o = operands_of g.T.Table.table b.first b.second in
    let sig = c.args.signature.now in
    let columns = b.columns in
    let ps = c.args.presences.now in
    let targets = c.args.targets.now in
    let t = table_held sig columns ps targets in
    let counts = subst (AreCounts ps) (sym c.as_slice-counts.ensures.value) c.take_states.ensures.counts in
    let size = c.has_entries.ensures.yes ps counts c.if-not-has_entries.false in
    let taken : IsTakenUp t sig columns (c.len-base.result + 1) targets c.take_states.new.self = record {
      listed = held_covered sig columns ps targets b.narrow c.requires.few size;
      signature = refl;
      columns_are = refl;
      base_is = omega (arith, c.len-base.ensures.count);
      chains_are = c.take_states.ensures.chains;
      targets_are = refl;
    } in
    let begins = c.as_mut_slice.result.now in
    let begun : AreStageBegins t begins = subst (AreStageBegins t) (sym c.as_mut_slice.ensures.value) (c.begin_cursors.ensures.begins t taken) in
    held_from o sig columns ps targets begins _ c.in-Some.count c.hold_all.new.cursors size (c.hold_all.ensures t begins
    (held_begun o t _ begins (record { lays = refl; signature = sym c.requires.signature; operands = b.operands; presences = c.requires.presences; labels = c.requires.labels }) (walk_taken t _ c.take_states.new.self taken c.begin_cursors.ensures.chains) begun) fine) c.in-Some.ensures.1
