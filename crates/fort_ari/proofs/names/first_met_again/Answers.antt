use Rattle.std.proofs.Common.{rules}
use Rattle.fort_ari.proofs.NameSets.{met_none, met_again, met_more}
use Rattle.fort_ari.proofs.names.first_met_again.Goals as goal

pub names-init : goal.names-init
names-init c = rw c.new-met.ensures.empty (met_none (λ x. x.now) _)

pub returns-then-not-branch-clause-again : goal.returns-then-not-branch-clause-again
returns-then-not-branch-clause-again c =
    let added = c.in_ok-insert.ensures.added in
    met_again (λ x. x.now) c.args.names.now c.names.i _ (c.names-test.true) c.names.met.keys (search rules) c.names.invariant

pub names-preserved : goal.names-preserved
names-preserved c =
    let added = c.in_ok-insert.ensures.added in
    met_more (λ x. x.now) c.args.names.now c.names.i _ (c.names-test.true) c.names.met.keys c.insert.new.self.keys c.in_ok-insert.ensures.updates.0
    (search rules) c.names.invariant
