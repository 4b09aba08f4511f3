use Rattle.std.proofs.Common.{Err, ◌≡◌, refl, ap, subst, sym, arith}
use Rattle.std.specs.Prelude.{codes}
use Rattle.std.proofs.lemmas.Option.{IfSome_then}
use Rattle.std.proofs.lemmas.Result.{err_from_is_err_and}
use Rattle.fort_grammar.specs.Declarations.{IsHeaded}
use Rattle.fort_ari.specs.declared.fault.ProblemFault.TheVariants.{Memory}
use Rattle.fort_ari.specs.Faults.{as_fault}
use Rattle.fort_ari.specs.Reading.{AtDeclaration}
use Rattle.fort_ari.proofs.FormTexts.{below_from_BeginsHeaded, headed_at, drop-form_at}
use Rattle.fort_ari.proofs.Declared.{declares_more, fault_in_declaration}
use Rattle.fort_ari.proofs.declaration.read_declarations.Goals as goal

pub form-requires : goal.form-requires
form-requires c = below_from_BeginsHeaded _ _ c.args.forms.now.forms c.declarations.next (c.declarations-test.ensures.headed refl)

pub overflow_cast-next : goal.overflow_cast-next
overflow_cast-next c =
    let below = below_from_BeginsHeaded _ _ c.args.forms.now.forms c.declarations.next (c.declarations-test.ensures.headed refl) in
    omega (arith, c.requires.few)

pub declare-requires : goal.declare-requires
declare-requires c =
    let headed = headed_at _ _ c.args.forms.now.forms c.declarations.next c.form.result.form (c.declarations-test.ensures.headed refl) c.form.ensures.form in
    record { headed = subst (λ bytes. IsHeaded bytes (codes "fun") c.form.result.form) (sym c.form.ensures.bytes) headed }

pub returns-in_err-declare-clause-fault : goal.returns-in_err-declare-clause-fault
returns-in_err-declare-clause-fault c =
    let p = err_from_is_err_and c.from_residual.result c.from_residual.ensures.1 in
    rw (p.1, p.2) (IfSome_then (as_fault c.in_err-declare.field-0.0) (rw c.form.ensures.bytes at c.in_err-declare.ensures.fault)
    (λ fault bad. fault_in_declaration _ _ _ _ _ fault c.requires.format c.declarations.invariant
    (drop-form_at c.args.forms.now.forms c.declarations.next _ c.form.ensures.form)
    (headed_at _ _ c.args.forms.now.forms c.declarations.next _ (c.declarations-test.ensures.headed refl) c.form.ensures.form) bad))

pub overflow_add-next : goal.overflow_add-next
overflow_add-next c =
    let below = below_from_BeginsHeaded _ _ c.args.forms.now.forms c.declarations.next (c.declarations-test.ensures.headed refl) in
    omega (arith, c.requires.few)

pub declarations-smaller : goal.declarations-smaller
declarations-smaller c =
    let below = below_from_BeginsHeaded _ _ c.args.forms.now.forms c.declarations.next (c.declarations-test.ensures.headed refl) in
    omega arith

pub declarations-preserved : goal.declarations-preserved
declarations-preserved c =
    declares_more _ _ _ _ _ _ c.declarations.invariant (drop-form_at c.args.forms.now.forms c.declarations.next _ c.form.ensures.form)
    (headed_at _ _ c.args.forms.now.forms c.declarations.next _ (c.declarations-test.ensures.headed refl) c.form.ensures.form)
    (rw c.form.ensures.bytes at c.in_ok-declare.ensures.ok)

pub returns-in_err-declare-clause-memory : goal.returns-in_err-declare-clause-memory
returns-in_err-declare-clause-memory c =
    let p = err_from_is_err_and c.from_residual.result c.from_residual.ensures.1 in
    rw (p.1, p.2) (λ memory. let same : c.in_err-declare.field-0.0 ≡ Memory = cc in
    let d = c.in_err-declare.ensures.memory (ap Err same) in
    AtDeclaration _ d.0 c.declarations.next _ c.requires.format c.declarations.invariant
    (drop-form_at c.args.forms.now.forms c.declarations.next _ c.form.ensures.form) (rw c.form.ensures.bytes at d.1))
