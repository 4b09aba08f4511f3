use Rattle.std.proofs.Common.{refl, ◌∙◌}
use Rattle.fort_tables.specs.Projections.{has_state}
use Rattle.fort_tables.proofs.ManySearchLaws.{below_turn}
use Rattle.fort_target_lists.specs.LabelLists.{labels_at}
use Rattle.fort_projections.specs.Scopes.{gives_in}
use Rattle.fort_projections.proofs.projection.mark.Goals as goal

pub loop-g-preserved : goal.loop-g-preserved
loop-g-preserved g c =
    let body = g.T.Table.table c.args.body.now in
    let labels = labels_at c.args.rows.now.labels c.args.row.now.kids in
    let i = c.loop-g.invariant in
    let here = c.loop-g.g in
    record {
      size = c.mark_under.auto.out ∙ i.size;
      first = c.mark_under.ensures.first ∙ i.first;
      second = c.mark_under.ensures.second ∙ i.second;
      marked = λ q.
          let gives = gives_in body c.args.column c.args.row.now.symbol labels c.args.scope q in
          below_turn here gives (gives here) (has_state c.mark_under.new.out q) (has_state c.loop-g.out q) (has_state c.args.out.now q) refl (c.mark_under.ensures.marked q) (i.marked q);
    }
