use Rattle.std.proofs.Common.{Some, ap, ◌∙◌}
use Rattle.std.proofs.lemmas.Option.{IfSome_then}
use Rattle.std.proofs.lemmas.Result.{IfErr-weaker, err_from_is_err_and}
use Rattle.fort_certificate.specs.VersionView.{as_version}
use Rattle.fort_certificate_theory.specs.CertificateFaults.{NoHead}
use Rattle.fort_certificate.specs.declared.slot.Head.TheVariants.{Closure, Part, Merge, Counts, Value}
use Rattle.fort_certificate.specs.ReadView.{as_wrong}
use Rattle.fort_certificate.proofs.WrongLaws.{list_bad}
use Rattle.fort_certificate.proofs.build.step.Goals as goal

pub returns-in_default-clause-wrong : goal.returns-in_default-clause-wrong
returns-in_default-clause-wrong c = λ i. NoHead c.in_default.ensures.none

pub returns-in-Closure-clause-wrong : goal.returns-in-Closure-clause-wrong
returns-in-Closure-clause-wrong c =
    IfErr-weaker c.closure.result _ _ (λ e h. IfSome_then (as_wrong e) h (λ kind bad. list_bad c.args.form.now.bytes c.in-Some-split_first.elements.bytes (as_version c.args.version) c.args.form.now.form c.in-Some.head Closure
    c.in-Some-split_first._head.form c.in-Some-split_first.elements.forms (c.in-Some-split_first.ensures.bytes.1 ∙ c.in-Some-elements.ensures.bytes) c.in-Closure.is
    c.in-Some.ensures.allowed c.in-Some.ensures.some (c.in-Some-elements.ensures.some ∙ ap Some c.in-Some-split_first.ensures.some) kind bad))
    c.closure.ensures.wrong

pub returns-in-Part-clause-wrong : goal.returns-in-Part-clause-wrong
returns-in-Part-clause-wrong c =
    IfErr-weaker c.part.result _ _ (λ e h. IfSome_then (as_wrong e) h (λ kind bad. list_bad c.args.form.now.bytes c.in-Some-split_first.elements.bytes (as_version c.args.version) c.args.form.now.form c.in-Some.head Part
    c.in-Some-split_first._head.form c.in-Some-split_first.elements.forms (c.in-Some-split_first.ensures.bytes.1 ∙ c.in-Some-elements.ensures.bytes) c.in-Part.is
    c.in-Some.ensures.allowed c.in-Some.ensures.some (c.in-Some-elements.ensures.some ∙ ap Some c.in-Some-split_first.ensures.some) kind (bad (as_version c.args.version))))
    c.part.ensures.wrong

pub returns-in-Merge-clause-wrong : goal.returns-in-Merge-clause-wrong
returns-in-Merge-clause-wrong c =
    IfErr-weaker c.merge.result _ _ (λ e h. IfSome_then (as_wrong e) h (λ kind bad. list_bad c.args.form.now.bytes c.in-Some-split_first.elements.bytes (as_version c.args.version) c.args.form.now.form c.in-Some.head Merge
    c.in-Some-split_first._head.form c.in-Some-split_first.elements.forms (c.in-Some-split_first.ensures.bytes.1 ∙ c.in-Some-elements.ensures.bytes) c.in-Merge.is
    c.in-Some.ensures.allowed c.in-Some.ensures.some (c.in-Some-elements.ensures.some ∙ ap Some c.in-Some-split_first.ensures.some) kind (bad (as_version c.args.version))))
    c.merge.ensures.wrong

pub returns-in-Counts-clause-wrong : goal.returns-in-Counts-clause-wrong
returns-in-Counts-clause-wrong c =
    IfErr-weaker c.counts_step.result _ _ (λ e h. IfSome_then (as_wrong e) h (λ kind bad. list_bad c.args.form.now.bytes c.in-Some-split_first.elements.bytes (as_version c.args.version) c.args.form.now.form c.in-Some.head Counts
    c.in-Some-split_first._head.form c.in-Some-split_first.elements.forms (c.in-Some-split_first.ensures.bytes.1 ∙ c.in-Some-elements.ensures.bytes) c.in-Counts.is
    c.in-Some.ensures.allowed c.in-Some.ensures.some (c.in-Some-elements.ensures.some ∙ ap Some c.in-Some-split_first.ensures.some) kind (bad (as_version c.args.version))))
    c.counts_step.ensures.wrong

pub returns-in_err-value-in-Value-clause-wrong : goal.returns-in_err-value-in-Value-clause-wrong
returns-in_err-value-in-Value-clause-wrong c =
    let p = err_from_is_err_and c.from_residual.result c.from_residual.ensures.1 in
    rw (p.1, p.2) (list_bad c.args.form.now.bytes c.in-Some-split_first.elements.bytes (as_version c.args.version) c.args.form.now.form c.in-Some.head Value
    c.in-Some-split_first._head.form c.in-Some-split_first.elements.forms (c.in-Some-split_first.ensures.bytes.1 ∙ c.in-Some-elements.ensures.bytes) c.in-Value.is
    c.in-Some.ensures.allowed c.in-Some.ensures.some (c.in-Some-elements.ensures.some ∙ ap Some c.in-Some-split_first.ensures.some) _
    (c.in_err-value-in-Value.ensures.wrong (as_version c.args.version)))
