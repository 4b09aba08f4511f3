use Rattle.std.proofs.Common.{sym, ◌∙◌}
use Rattle.std.proofs.lemmas.List.{take_all}
use Rattle.fort_ari.proofs.NameSets.{same_more, found_also, found_more}
use Rattle.fort_ari.proofs.names.first_also.Goals as goal

pub others-preserved : goal.others-preserved
others-preserved c =
    same_more (λ x. x.now) c.args.others.now c.others.other-index _ (c.others-test.true) c.others.there.keys c.insert.new.self.keys c.in_ok-insert.ensures.updates.0
    c.others.invariant

pub returns-then-contains-clause-also : goal.returns-then-contains-clause-also
returns-then-contains-clause-also c =
    found_also (λ x. x.now) c.args.names.now c.names.i _ (c.names-test.true) c.others.there.keys c.args.others.now
    (rw (take_all c.others.other-index c.args.others.now c.others-test.false) at c.others.invariant) (sym c.contains.ensures ∙ c.if-contains.true) c.names.invariant

pub names-preserved : goal.names-preserved
names-preserved c =
    found_more (λ x. x.now) c.args.names.now c.names.i _ (c.names-test.true) c.others.there.keys c.args.others.now
    (rw (take_all c.others.other-index c.args.others.now c.others-test.false) at c.others.invariant) (sym c.contains.ensures ∙ c.if-contains.false) c.names.invariant

pub returns-clause-apart : goal.returns-clause-apart
returns-clause-apart c = rw (take_all c.names.i c.args.names.now c.names-test.false) at c.names.invariant
