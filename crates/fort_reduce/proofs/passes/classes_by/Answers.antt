use Rattle.std.proofs.Common.{◌≡◌, length, subst, arith}
use Rattle.std.proofs.lemmas.Result.{IfOk-weaker}
use Rattle.fort_tables.specs.Tables.{listed_table}
use Rattle.fort_tables.specs.Refinement.{IsRenumbered}
use Rattle.fort_reduce.proofs.PassLaws.{leaders_few, more_leaders, kept_from}
use Rattle.fort_reduce.proofs.WholeLaws.{coarsest_whole}
use Rattle.fort_reduce.proofs.passes.classes_by.Goals as goal

pub returns-then-len-count : goal.returns-then-len-count
returns-then-len-count c =
    let t = listed_table c.args.table.now in
    let o = c.sweep.new.classes.of.items in
    let l = c.sweep.new.classes.leaders.items in
    let same : length c.pass.new.classes.leaders.items ≡ length l =
    omega (arith, c.if-len-count.true, c.len.ensures, c.len-count.ensures, c.pass.new.classes.leaders.ok.0, c.sweep.new.classes.leaders.ok.0) in
    let kept = kept_from _ o l c.pass.new.classes.of.items c.pass.new.classes.leaders.items c.in_ok-pass.ensures.walked same in
    IfOk-weaker c.renumber.result _ _
    (λ new renumbered.
    coarsest_whole t o l c.entries-listed.ensures.lawful.table c.in_ok-sweep.ensures.refined new.items kept.1.1
    (subst (λ xs. IsRenumbered xs new.items) kept.0 (subst (λ xs. IsRenumbered xs new.items) c.as_slice-then-len-count.ensures.value renumbered)))
    c.renumber.ensures

pub passes-smaller : goal.passes-smaller
passes-smaller c =
    let t = listed_table c.args.table.now in
    let more = more_leaders _ c.sweep.new.classes.of.items c.sweep.new.classes.leaders.items c.pass.new.classes.of.items c.pass.new.classes.leaders.items c.in_ok-pass.ensures.walked
    (λ e. c.if-len-count.false (omega (arith, e, c.len.ensures, c.len-count.ensures, c.pass.new.classes.leaders.ok.0, c.sweep.new.classes.leaders.ok.0))) in
    omega (arith, more, c.in_ok-sweep.ensures.more, leaders_few t c.pass.new.classes.of.items c.pass.new.classes.leaders.items c.in_ok-pass.ensures.refined)
