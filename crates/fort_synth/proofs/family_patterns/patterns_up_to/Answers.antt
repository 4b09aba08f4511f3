use Rattle.std.proofs.Common.{◌≡◌, ◌∙◌, ◌<◌, Err, ap, arith, map, subst, sym, suc, length}
use Rattle.std.proofs.lemmas.Result.{err_from_is_err_and}
use Rattle.fort_answers.specs.FamilyRules.{most_family_rules}
use Rattle.fort_terms.specs.PatternView.{as_pattern}
use Rattle.fort_synth.specs.FamilyLists.{higher_patterns}
use Rattle.fort_synth.specs.declared.family_rules.FamilyFault.TheVariants.{TooLarge}
use Rattle.fort_synth.proofs.FamilySizes.{too_many_low, settled}
use Rattle.fort_synth.proofs.FamilySteps.{same_patterns}
use Rattle.fort_synth.proofs.family_patterns.patterns_up_to.Goals as goal

pub returns-in_err-patterns-clause-too_large : goal.returns-in_err-patterns-clause-too_large
returns-in_err-patterns-clause-too_large c =
    let p = err_from_is_err_and c.from_residual.result c.from_residual.ensures.1 in
    rw (p.1, p.2) (λ large.
    let same : c.in_err-patterns.field-0.0 ≡ TooLarge = cc in
    too_many_low c.args.signature.now 0 c.args.height most_family_rules (omega arith) (c.in_err-patterns.ensures.too_large (ap Err same)))

pub returns-in_err-next-clause-too_large : goal.returns-in_err-next-clause-too_large
returns-in_err-next-clause-too_large c =
    let p = err_from_is_err_and c.from_residual-in_err-next.result c.from_residual-in_err-next.ensures.1 in
    let from = ap (map as_pattern) c.deref.ensures.value ∙ c.loop.invariant.are in
    rw (p.1, p.2) (λ large.
    let same : c.in_err-next.field-0.0 ≡ TooLarge = cc in
    too_many_low c.args.signature.now (suc c.loop.counter) c.args.height most_family_rules (omega arith)
    (subst (λ ps. most_family_rules < length (higher_patterns c.args.signature.now ps)) from (c.in_err-next.ensures.too_large (ap Err same))))

pub returns-then-eq-clause-patterns : goal.returns-then-eq-clause-patterns
returns-then-eq-clause-patterns c =
    let from = ap (map as_pattern) c.deref.ensures.value ∙ c.loop.invariant.are in
    let next = c.in_ok-next.ensures.patterns ∙ ap (higher_patterns c.args.signature.now) from in
    let equal : map as_pattern c.in_ok-next.next.items ≡ map as_pattern c.loop.patterns.items =
    same_patterns c.in_ok-next.next.items c.loop.patterns.items (sym c.eq.ensures ∙ c.if-eq.true) in
    c.loop.invariant.are ∙ sym (settled c.args.signature.now c.loop.counter (sym next ∙ (equal ∙ c.loop.invariant.are)) c.args.height (omega arith))
