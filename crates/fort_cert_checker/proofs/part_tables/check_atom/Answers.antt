use Rattle.std.proofs.Common.{subst}
use Rattle.fort_theory.specs.Signatures.{Signature}
use Rattle.fort_context_closure.specs.AtomLabelsView.{rule_by, accepted_by}
use Rattle.fort_context_closure.specs.SignedAtoms.{signature_by}
use Rattle.fort_cert_checker.specs.Pasts.{IsPartStep}
use Rattle.fort_cert_checker.proofs.part_tables.check_atom.Goals as goal

pub check_part_by_entry-requires-clause-signature : goal.check_part_by_entry-requires-clause-signature
check_part_by_entry-requires-clause-signature c = signature_by c.signature-signature.result.now c.args.labels.now

pub returns-clause-step : goal.returns-clause-step
returns-clause-step c =
    let l = c.args.labels.now in
    subst (λ (s : Signature). IsPartStep (record { rule = rule_by s l; accepting = accepted_by s l }) c.args.targets.now c.check_part_by_entry.new.room c.check_part_by_entry.result) c.signature-signature.ensures.same
    (record { outcome = c.check_part_by_entry.ensures.outcome; plain = c.check_part_by_entry.ensures.not_merged; held = c.check_part_by_entry.ensures.held })
