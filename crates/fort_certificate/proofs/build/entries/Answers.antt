use Rattle.std.proofs.Common.{length, refl, ap, ◌∙◌, arith}
use Rattle.std.proofs.lemmas.Result.{err_from_is_err_and}
use Rattle.fort_grammar.specs.Forms.{Form}
use Rattle.fort_certificate_theory.specs.CertificateForms.{IsPairForm}
use Rattle.fort_certificate_theory.specs.CertificateFaults.{PairSlot}
use Rattle.fort_findings.specs.declared.closure.ClosureEntry.{ClosureEntry}
use Rattle.fort_findings.specs.FindingView.{as_pair}
use Rattle.fort_certificate.proofs.BuildLaws.{read_none, read_more, read_all, each_map}
use Rattle.fort_certificate.proofs.WrongLaws.{along_none, along_more, along_bad}
use Rattle.fort_certificate.proofs.build.entries.Goals as goal

pub elements-init : goal.elements-init
elements-init c = (
  read_none _ c.args.elements.forms c.in_ok-entries.entries.items c.in_ok-entries.ensures.items,
  refl,
  omega (arith, c.in_ok-entries.ensures.len, c.in_ok-entries.ensures.capacity, c.len.ensures),
  along_none c.args.elements.bytes PairSlot c.args.elements.forms,
)

pub push_reserved-requires : goal.push_reserved-requires
push_reserved-requires c = omega (arith, c.elements.invariant.2, ap (λ fs. length fs) c.in-Some.ensures.some)

pub elements-preserved : goal.elements-preserved
elements-preserved c =
    let elements = c.args.elements in
    let bytes = elements.bytes in
    let R : Form → ClosureEntry → Type 0 = λ f x. IsPairForm bytes f (as_pair x) in
    let same = c.in-Some.ensures.bytes.0 ∙ c.elements.invariant.1 in (
      rw c.push_reserved.ensures.items
          (read_more R elements.forms c.elements.rest.forms c.in-Some.behind.forms c.in-Some.form.form c.elements.entries.items _
          c.elements.invariant.0 c.in-Some.ensures.some (rw same at c.in_ok-entry_in.ensures.ok)),
      c.in-Some.ensures.bytes.1 ∙ c.elements.invariant.1,
      omega (arith, c.elements.invariant.2, ap (λ fs. length fs) c.in-Some.ensures.some, c.push_reserved.ensures.len, c.push_reserved.ensures.capacity),
      along_more bytes PairSlot elements.forms c.elements.rest.forms c.in-Some.behind.forms c.in-Some.form.form c.elements.invariant.3
          c.in-Some.ensures.some (_, rw same at c.in_ok-entry_in.ensures.ok),
    )

pub returns-in_err-entry_in-clause-wrong : goal.returns-in_err-entry_in-clause-wrong
returns-in_err-entry_in-clause-wrong c =
    let p = err_from_is_err_and c.from_residual-in_err-entry_in.result c.from_residual-in_err-entry_in.ensures.1 in
    let same = c.in-Some.ensures.bytes.0 ∙ c.elements.invariant.1 in
    rw (p.1, p.2) (along_bad c.args.elements.bytes PairSlot c.args.elements.forms c.elements.rest.forms c.in-Some.behind.forms c.in-Some.form.form
    c.elements.invariant.3 c.in-Some.ensures.some _ (rw same at c.in_err-entry_in.ensures.err))

pub returns-clause-ok : goal.returns-clause-ok
returns-clause-ok c =
    let elements = c.args.elements in
    let bytes = elements.bytes in
    let R : Form → ClosureEntry → Type 0 = λ f x. IsPairForm bytes f (as_pair x) in
    each_map (IsPairForm bytes) as_pair elements.forms c.elements.entries.items
    (read_all R elements.forms c.elements.rest.forms c.elements.entries.items c.elements.invariant.0 c.in_default.ensures.none)
