use Rattle.std.proofs.Common.{◌≡◌, ◌+◌, length, refl, sym, ap, subst, ◌∙◌, arith}
use Rattle.fort_certificate_theory.specs.Made.{nothing_made}
use Rattle.fort_cert_checker.specs.StepCheckers.{HasFailure}
use Rattle.fort_cert_checker.proofs.StepCheckLaws.{start, step_count, too_many, done, fits_along}
use Rattle.fort_cert_checker.proofs.step_checker.StepChecker.check.Goals as goal

pub dues-init : goal.dues-init
dues-init c = record {
  at = λ system f first ss h. (nothing_made, start system f first ss c.args.self.now h);
  first = refl;
  steps = refl;
  root = refl;
  dues = refl;
}

pub check_due-requires : goal.check_due-requires
check_due-requires c =
    let r = c.requires in
    let at = c.dues.invariant.at r.0 r.1 r.2 r.3 r.4 in
    record { due = (r.0, r.1, r.2, r.3, at.0, at.1, omega (arith, c.dues-test.true, c.len-place-end.ensures, ap (λ ds. length ds.items) c.dues.invariant.dues)) }

pub dues-preserved : goal.dues-preserved
dues-preserved c = record {
  at = λ system f first ss h.
      let at = c.dues.invariant.at system f first ss h in
      c.in_default.ensures.fine system f first ss at.0 at.1;
  first = c.check_due.ensures.first ∙ c.dues.invariant.first;
  steps = c.check_due.ensures.steps ∙ c.dues.invariant.steps;
  root = c.check_due.ensures.root ∙ c.dues.invariant.root;
  dues = c.check_due.ensures.dues ∙ c.dues.invariant.dues;
}

pub rejected_at-requires : goal.rejected_at-requires
rejected_at-requires c =
    let r = c.requires in
    let at = c.dues.invariant.at r.0 r.1 r.2 r.3 r.4 in
    omega (arith, at.1.checker.forms, at.1.loop.place.within, at.1.checker.first_is, c.check_due.ensures.first)

pub returns-in-Err-clause-failing : goal.returns-in-Err-clause-failing
returns-in-Err-clause-failing c = λ system f first ss h.
    let at = c.dues.invariant.at system f first ss h in
    subst (HasFailure system f first ss) (sym c.rejected_at.ensures)
    record {
      behind = c.dues.place;
      form_is = ap (λ m. m + 1 + c.dues.place) (c.check_due.ensures.first ∙ at.1.checker.first_is);
      failure = c.in-Err.ensures.failing system f first ss at.0 at.1;
    }

pub returns-in-Err-clause-again : goal.returns-in-Err-clause-again
returns-in-Err-clause-again c = λ system f first ss h.
    let at = c.dues.invariant.at system f first ss h in
    c.check_due.ensures.same system f first ss at.0 at.1

pub returns-in-Err-clause-room : goal.returns-in-Err-clause-room
returns-in-Err-clause-room c = fits_along c.args.self.now c.check_due.new.self (c.check_due.ensures.steps ∙ c.dues.invariant.steps) (c.check_due.ensures.root ∙ c.dues.invariant.root)

pub rejected_at-requires-then-due-self : goal.rejected_at-requires-then-due-self
rejected_at-requires-then-due-self c =
    let r = c.requires in
    let at = c.dues.invariant.at r.0 r.1 r.2 r.3 r.4 in
    omega (arith, at.1.checker.forms, at.1.checker.first_is, step_count r.0 r.1 r.2 r.3 c.dues.self at.1.checker, c.if-due-self.true)

pub returns-then-due-self-clause-failing : goal.returns-then-due-self-clause-failing
returns-then-due-self-clause-failing c = λ system f first ss h.
    let at = c.dues.invariant.at system f first ss h in
    let due = ap (λ ds. length ds.items) c.dues.invariant.dues in
    let here : c.dues.place ≡ c.len-due.result = omega (arith, due, c.dues-test.false, c.dues.auto.place-end, c.len-place-end.ensures, c.len-due.ensures) in
    subst (HasFailure system f first ss) (sym c.rejected_at-then-due-self.ensures)
    record {
      behind = c.dues.place;
      form_is = omega (arith, here, at.1.checker.first_is);
      failure = too_many system f first ss c.dues.self at.1.checker c.dues.place at.0 at.1.loop (omega (arith, due, c.dues-test.false, c.len-place-end.ensures)) (omega (arith, here, c.if-due-self.true));
    }

pub returns-then-due-self-clause-again : goal.returns-then-due-self-clause-again
returns-then-due-self-clause-again c = λ system f first ss h. (c.dues.invariant.at system f first ss h).1.checker

pub returns-then-due-self-clause-room : goal.returns-then-due-self-clause-room
returns-then-due-self-clause-room c = fits_along c.args.self.now c.dues.self c.dues.invariant.steps c.dues.invariant.root

pub returns-clause-fine : goal.returns-clause-fine
returns-clause-fine c = λ system f first ss h.
    let at = c.dues.invariant.at system f first ss h in
    let due = ap (λ ds. length ds.items) c.dues.invariant.dues in (
      at.0,
      done system f first ss c.dues.self at.1.checker c.dues.place at.0 at.1.loop (omega (arith, due, c.dues-test.false, c.len-place-end.ensures))
          (omega (arith, due, c.dues-test.false, c.len-place-end.ensures, c.if-due-self.false, c.len-due.ensures)),
    )

pub returns-clause-again : goal.returns-clause-again
returns-clause-again c = λ system f first ss h. (c.dues.invariant.at system f first ss h).1.checker

pub returns-clause-room : goal.returns-clause-room
returns-clause-room c = fits_along c.args.self.now c.dues.self c.dues.invariant.steps c.dues.invariant.root
