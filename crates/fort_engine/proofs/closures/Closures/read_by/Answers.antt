use Rattle.std.proofs.Common.{◌∙◌, sym, true≢false}
use Rattle.fort_relations.specs.RelView.{as_rel}
use Rattle.fort_findings.specs.FindingView.{as_which}
use Rattle.fort_context_closure.proofs.ClosureReads.{reaching_from_reads, reaching_none}
use Rattle.fort_engine.proofs.ClosureLaws.{ListsPasses-found}
use Rattle.fort_engine.proofs.closures.Closures.read_by.Goals as goal

pub returns-in-Some-clause-passes : goal.returns-in-Some-clause-passes
returns-in-Some-clause-passes c system parts x y are own among =
    ListsPasses-found system parts (as_which c.in-Some.which) (as_rel c.args.rel) c.args.index x y c.args.self.now.list.items c.entries.result.now c.in-Some.ensures.some
    (c.entries.ensures system) are own among

pub returns-in-Some-clause-none : goal.returns-in-Some-clause-none
returns-in-Some-clause-none c plain = absurd (true≢false (sym (reaching_from_reads (as_which c.in-Some.which) (as_rel c.args.rel) c.in-Some.ensures.some) ∙ plain))

pub returns-in-None-clause-passes : goal.returns-in-None-clause-passes
returns-in-None-clause-passes c system parts x y are own among reaching = absurd (true≢false (sym reaching ∙ reaching_none (as_rel c.args.rel) c.in-None.ensures.none))
