use Rattle.std.proofs.Common.{ℕ, length, ap, ◌∙◌, arith}
use Rattle.std.proofs.lemmas.Result.{err_from_is_err_and}
use Rattle.fort_grammar.specs.Forms.{Form}
use Rattle.fort_certificate_theory.specs.CertificateForms.{IsNumberForm}
use Rattle.fort_certificate_theory.specs.CertificateFaults.{NumberSlot}
use Rattle.fort_certificate.proofs.BuildLaws.{read_more, read_all}
use Rattle.fort_certificate.proofs.WrongLaws.{along_more, along_bad}
use Rattle.fort_certificate.proofs.build.numbers.Goals as goal

pub elements-preserved : goal.elements-preserved
elements-preserved c =
    let elements = c.args.elements in
    let rest = c.elements.rest in
    let behind = c.in-Some.behind in
    let R : Form → ℕ → Type 0 = λ f x. IsNumberForm elements.bytes f x in
    let same = c.elements.invariant.1 in
    let read = rw (c.in-Some.is, same) at c.in_ok-number.ensures.some in
    let bytes = rw c.in-Some.is at c.in_ok-number.ensures.bytes in (
      rw c.push_reserved.ensures.items
          (read_more R elements.forms rest.forms behind.forms read.0 c.elements.numbers.items _ c.elements.invariant.0 read.1 read.2),
      bytes ∙ same,
      omega (arith, c.elements.invariant.2, ap (λ fs. length fs) read.1, c.push_reserved.ensures.len, c.push_reserved.ensures.capacity),
      along_more elements.bytes NumberSlot elements.forms rest.forms behind.forms read.0 c.elements.invariant.3 read.1 (_, read.2),
    )

pub returns-in_err-number-clause-wrong : goal.returns-in_err-number-clause-wrong
returns-in_err-number-clause-wrong c =
    let p = err_from_is_err_and c.from_residual-in_err-number.result c.from_residual-in_err-number.ensures.1 in
    let bad = rw c.elements.invariant.1 at c.in_err-number.ensures.err in
    rw (p.1, p.2) (along_bad c.args.elements.bytes NumberSlot c.args.elements.forms c.elements.rest.forms bad.1 bad.0
    c.elements.invariant.3 bad.2 _ bad.3)

pub returns-clause-ok : goal.returns-clause-ok
returns-clause-ok c =
    let elements = c.args.elements in
    let R : Form → ℕ → Type 0 = λ f x. IsNumberForm elements.bytes f x in
    let none = rw c.in_default.is at c.in_ok-number.ensures.none in
    read_all R elements.forms c.elements.rest.forms c.elements.numbers.items c.elements.invariant.0 none
