use Rattle.std.proofs.Common.{sym, subst, ◌∙◌}
use Rattle.fort_theory.specs.Signatures.{Signature}
use Rattle.fort_context_closure.specs.AtomLabelsView.{rule_by, label_by, accepted_by}
use Rattle.fort_context_closure.specs.SignedAtoms.{signature_by}
use Rattle.fort_engine.specs.Deciding.{AreLabelsFor}
use Rattle.fort_engine.proofs.atoms.by_labels.Goals as goal

pub explored-requires : goal.explored-requires
explored-requires c = sym (signature_by c.signature-signature.result.now c.args.labels.now ∙ c.signature-signature.ensures.same)

pub returns : goal.returns
returns c f are =
    let l = c.args.labels.now in
    c.explored_by_keys.ensures f
    (subst (λ (s : Signature). AreLabelsFor c.args.system.now c.args.options.now.reduces f (rule_by s l).columns (label_by s l) (accepted_by s l)) (sym c.signature-signature.ensures.same) are)
