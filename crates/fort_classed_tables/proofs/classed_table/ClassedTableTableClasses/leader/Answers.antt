use Rattle.std.proofs.Common.{ap, arith, sym, ◌∙◌, subst}
use Rattle.fort_tables.specs.Tables.{listed_table}
use Rattle.fort_target_lists.specs.ClassLists.{IsClassed}
use Rattle.fort_classed_tables.specs.TableViews.{AreTableViews, number_in}
use Rattle.fort_classed_tables.proofs.classed_table.ClassedTableTableClasses.leader.Goals as goal

pub leader-requires-clause-classed : goal.leader-requires-clause-classed
leader-requires-clause-classed c =
    let s = c.args.self.now in
    let t = listed_table s.table.now in
    let l = c.in-Kept.list.now in
    let r = c.requires in
    let is = subst (AreTableViews t s.list.now) c.in-Kept.is s.views_are in
    subst (λ n. IsClassed l n c.args.state) (sym (ap (λ v. number_in t v r.symbol r.place) c.in-Kept.is) ∙ r.view_is)
    (is.kept.classed r.symbol r.place c.args.state r.may)

pub leader-requires-clause-state : goal.leader-requires-clause-state
leader-requires-clause-state c =
    let s = c.args.self.now in
    let is = subst (AreTableViews (listed_table s.table.now) s.list.now) c.in-Kept.is s.views_are in
    omega (arith, c.requires.may.within, is.kept.ranks_are.size)
