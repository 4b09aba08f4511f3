use Rattle.std.proofs.Common.{Bool, length, arith, ap, sym, subst}
use Rattle.std.proofs.lemmas.Result.{err_from_is_err_and}
use Rattle.fort_tables.specs.Tables.{Listed, listed_table}
use Rattle.fort_tables.specs.Labels.{IsTableOf}
use Rattle.fort_explore.specs.ListedTargets.{AreListedTargets}
use Rattle.fort_explore.proofs.ExploreLaws.{exploring_table, exploring_few}
use Rattle.fort_explore.proofs.table.Exploration.explore_on.Goals as goal

pub returns-in_err-is_whole-clause-over : goal.returns-in_err-is_whole-clause-over
returns-in_err-is_whole-clause-over g c =
    let p = err_from_is_err_and c.from_residual.result c.from_residual.ensures.1 in
    rw (p.1, p.2) tt

pub returns-then-not-is_whole-clause-over : goal.returns-then-not-is_whole-clause-over
returns-then-not-is_whole-clause-over g c = rw c.take_firsts.ensures (c.in_ok-is_whole.ensures.over c.if-not-is_whole.true)

pub finish-requires : goal.finish-requires
finish-requires g c =
    let w = c.in_ok-is_whole.ensures.whole c.if-not-is_whole.false in
    record {
      exploring = (c.args.self.maker.signature, c.requires.served, w.exploring);
      complete = w.complete;
      few = omega (arith, w.few, c.ranges.cap.fits);
      targets = c.in_ok-is_whole.ensures.listed;
    }

pub returns-in_err-explored-clause-over : goal.returns-in_err-explored-clause-over
returns-in_err-explored-clause-over g c =
    let p = err_from_is_err_and c.from_residual-in_err-explored.result c.from_residual-in_err-explored.ensures.1 in
    rw (p.1, p.2) tt

pub returns : goal.returns
returns g c =
    let sig = c.args.self.maker.signature in
    let m = c.give_all.new.self.maker in
    let f = c.give_all.new.self.found in
    let n = g.L.Labeller.column_count c.args.labeller.now in
    let label = g.L.Labeller.label c.args.labeller.now in
    let accepting = g.L.Labeller.accepting c.args.labeller.now in
    let tells = g.met.L.Labeller.tells_presence c.args.labeller.now sig c.requires.served in
    let w = c.in_ok-is_whole.ensures.whole c.if-not-is_whole.false in
    let made = c.in_ok-explored.ensures.made in
    let by_label = exploring_table sig n label accepting m f.firsts f.labels.labels _ tells w.exploring w.complete c.in_ok-explored.ensures.finals in
    record {
      table = record {
        table = subst (λ (t : Listed). IsTableOf sig n label accepting (listed_table t)) (sym made) by_label;
        listed = c.in_ok-explored.ensures.listed;
        few = exploring_few sig n label m f.firsts f.labels.labels c.args.cap tells w.exploring w.complete w.few;
      };
      targets = subst (λ (b : Bool). AreListedTargets b c.in_ok-explored.explored) c.in_ok-is_whole.ensures.there c.in_ok-explored.ensures.targets;
      over = tt;
      steps = omega (arith, c.in_ok-is_whole.ensures.steps c.if-not-is_whole.false, w.exploring.count, ap (λ (t : Listed). length t.entries) made);
      grows = c.give_all.ensures.grows;
    }
