use Rattle.std.proofs.Common.{map}
use Rattle.std.specs.Prelude.{vec_items}
use Rattle.fort_relation_exprs.proofs.LeadRowLaws.{HasGathered-itself, HasGathered-onward, NameRows-gathered}
use Rattle.fort_relation_exprs.proofs.leads.settle.Goals as goal

pub passes-init : goal.passes-init
passes-init c = HasGathered-itself c.args.nta.now (map vec_items c.args.rows.now.items)

pub pass-requires-clause-named : goal.pass-requires-clause-named
pass-requires-clause-named c =
    NameRows-gathered c.args.nta.now c.args.nta.now.silent.items (map vec_items c.args.rows.now.items) (map vec_items c.passes.rows.items) c.requires.named c.passes.invariant

pub passes-preserved : goal.passes-preserved
passes-preserved c =
    HasGathered-onward c.args.nta.now (map vec_items c.args.rows.now.items) (map vec_items c.passes.rows.items) (map vec_items c.pass.new.rows.items) c.passes.invariant c.pass.ensures.gathered
