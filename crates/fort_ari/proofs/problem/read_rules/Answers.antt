use Rattle.std.proofs.Common.{Err, ap, ◌≡◌, refl, arith}
use Rattle.std.proofs.lemmas.Option.{IfSome_then}
use Rattle.std.proofs.lemmas.Result.{err_from_is_err_and}
use Rattle.fort_sexpr.proofs.FormLists.{node_count-AreFormsOf}
use Rattle.fort_ari.specs.declared.fault.ProblemFault.TheVariants.{Memory}
use Rattle.fort_ari.specs.Faults.{as_fault}
use Rattle.fort_ari.specs.Reading.{BehindDeclarations}
use Rattle.fort_ari.proofs.FormTexts.{below_from_BeginsHeaded, headed_at, drop-form_at, form_count-as_list}
use Rattle.fort_ari.proofs.Formats.{begins_low}
use Rattle.fort_ari.proofs.Ruled.{rules_none, so_far_in_rule, rules_more, forms_count, forms_count-le, fault_in_rule, is_problem, next-le}
use Rattle.fort_ari.proofs.problem.read_rules.Goals as goal

pub form-requires : goal.form-requires
form-requires c = below_from_BeginsHeaded _ _ c.args.forms.now.forms c.rules.next (c.rules-test.ensures.headed refl)

pub overflow_cast-next : goal.overflow_cast-next
overflow_cast-next c =
    let below = below_from_BeginsHeaded _ _ c.args.forms.now.forms c.rules.next (c.rules-test.ensures.headed refl) in
    omega (arith, c.requires.few)

pub push_rule-requires-clause-headed : goal.push_rule-requires-clause-headed
push_rule-requires-clause-headed c =
    rw c.form.ensures.bytes (headed_at _ _ c.args.forms.now.forms c.rules.next _ (c.rules-test.ensures.headed refl) c.form.ensures.form)

pub overflow_sub-next : goal.overflow_sub-next
overflow_sub-next c = let so_far = c.rules.invariant.up_to.count in omega arith

pub push_rule-requires-clause-counted : goal.push_rule-requires-clause-counted
push_rule-requires-clause-counted c = forms_count _ _ _ _ _ _ _ c.rules.invariant

pub push_rule-requires-clause-few : goal.push_rule-requires-clause-few
push_rule-requires-clause-few c = forms_count-le _ _ _ _ _ _ _ c.rules.invariant

pub push_rule-requires-clause-small : goal.push_rule-requires-clause-small
push_rule-requires-clause-small c =
    omega (arith, node_count-AreFormsOf _ _ _ _ c.len-count.ensures.lawful c.form.ensures.form, c.len-count.ensures.few)

pub returns-in_err-push_rule-clause-fault : goal.returns-in_err-push_rule-clause-fault
returns-in_err-push_rule-clause-fault c =
    let p = err_from_is_err_and c.from_residual-in_err-push_rule.result c.from_residual-in_err-push_rule.ensures.1 in
    rw (p.1, p.2) (IfSome_then (as_fault c.in_err-push_rule.field-0.0) (rw c.form.ensures.bytes at c.in_err-push_rule.ensures.fault)
    (λ fault bad. fault_in_rule _ _ _ _ _ _ c.rules.system _ fault c.requires.format c.requires.declared c.requires.constant c.rules.invariant
    (drop-form_at c.args.forms.now.forms c.rules.next _ c.form.ensures.form)
    (headed_at _ _ c.args.forms.now.forms c.rules.next _ (c.rules-test.ensures.headed refl) c.form.ensures.form) bad))

pub overflow_add-next : goal.overflow_add-next
overflow_add-next c =
    let below = below_from_BeginsHeaded _ _ c.args.forms.now.forms c.rules.next (c.rules-test.ensures.headed refl) in
    omega (arith, c.requires.few)

pub rules-smaller : goal.rules-smaller
rules-smaller c =
    let below = below_from_BeginsHeaded _ _ c.args.forms.now.forms c.rules.next (c.rules-test.ensures.headed refl) in
    omega arith

pub rules-preserved : goal.rules-preserved
rules-preserved c =
    rules_more _ _ _ _ _ _ _ _ _ (begins_low _ _ _ c.requires.format) c.rules.invariant (drop-form_at c.args.forms.now.forms c.rules.next _ c.form.ensures.form)
    (headed_at _ _ c.args.forms.now.forms c.rules.next _ (c.rules-test.ensures.headed refl) c.form.ensures.form)
    (rw c.form.ensures.bytes at c.in_ok-push_rule.ensures.ok) c.in_ok-push_rule.ensures.few

pub overflow_cast-result : goal.overflow_cast-result
overflow_cast-result c =
    let most = next-le _ _ _ _ _ _ _ c.requires.format c.requires.declared c.rules.invariant in
    omega (arith, c.requires.few, form_count-as_list c.args.forms.now.forms)

pub returns-clause-ok : goal.returns-clause-ok
returns-clause-ok c =
    is_problem _ _ _ _ _ _ _ c.requires.format c.requires.declared c.requires.constant c.rules.invariant (c.rules-test.ensures.otherwise refl)

pub rules-init : goal.rules-init
rules-init c = rules_none _ _ _ _ _ _ c.in_ok-system.ensures.signature c.in_ok-system.ensures.rules

pub returns-in_err-system-clause-memory : goal.returns-in_err-system-clause-memory
returns-in_err-system-clause-memory c _ = BehindDeclarations _ _ (c.args.number, c.requires.format) c.requires.declared c.requires.constant

pub returns-in_err-push_rule-clause-memory : goal.returns-in_err-push_rule-clause-memory
returns-in_err-push_rule-clause-memory c =
    let p = err_from_is_err_and c.from_residual-in_err-push_rule.result c.from_residual-in_err-push_rule.ensures.1 in
    rw (p.1, p.2) (λ memory. let same : c.in_err-push_rule.field-0.0 ≡ Memory = cc in
    so_far_in_rule _ _ _ _ _ _ c.rules.system _ c.requires.format c.requires.declared c.requires.constant c.rules.invariant
    (drop-form_at c.args.forms.now.forms c.rules.next _ c.form.ensures.form)
    (rw c.form.ensures.bytes at (c.in_err-push_rule.ensures.memory (ap Err same))))
