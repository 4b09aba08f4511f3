use Rattle.std.proofs.Common.{◌≡◌, List, ◌∙◌, ap, sym, subst}
use Rattle.std.proofs.lemmas.Result.{err_from_is_err_and}
use Rattle.fort_theory.specs.Sides.{pushed_at, IsIndexOf}
use Rattle.fort_theory.specs.Signatures.{HasConstant}
use Rattle.fort_theory.specs.Patterns.{Pair, PatternSystem, pattern_of}
use Rattle.fort_theory.proofs.PatternFits.{FitsPattern-pattern_of}
use Rattle.fort_theory.proofs.SystemLaws.{IsSystem-pushed}
use Rattle.fort_terms.specs.SideView.{as_side}
use Rattle.fort_terms.proofs.OverlapsLaws.{IsLinearSeparated-nowhere}
use Rattle.fort_terms.proofs.PatternViewLaws.{as_rules-kept, as_rules-pushed}
use Rattle.fort_terms.proofs.RuleStepsLaws.{patterns_have_steps}
use Rattle.fort_terms.proofs.system.System.push.Goals as goal

pub returns-clause-separated : goal.returns-clause-separated
returns-clause-separated c =
    IsLinearSeparated-nowhere _ _ _ _ (c.deref.ensures.value ∙ c.in_ok-left_variables.ensures) (c.deref-2.ensures.value ∙ c.in_ok-right_variables.ensures) c.in-None.ensures.none

pub returns-clause-root_steps : goal.returns-clause-root_steps
returns-clause-root_steps c =
    patterns_have_steps _ _ _ (subst (λ s. HasConstant s.signature) c.self.view_is c.self.invariant.constant) (returns-clause-separated c)

pub invariant_of-self : goal.invariant_of-self
invariant_of-self c =
    let kept = as_rules-kept c.self.inside.rules.items _ c.index_mut.result.now c.push.new.self c.index_mut.ensures.value c.in_err-push.ensures.items in
    rw kept c.self.invariant

pub returns-in_err-push-clause-err : goal.returns-in_err-push-clause-err
returns-in_err-push-clause-err c =
    let p = err_from_is_err_and c.from_residual-in_err-push.result c.from_residual-in_err-push.ensures.1 in
    let kept = as_rules-kept c.self.inside.rules.items _ c.index_mut.result.now c.push.new.self c.index_mut.ensures.value c.in_err-push.ensures.items in
    let over : List (List Pair) → PatternSystem = λ rules. record { signature = c.self.inside.signature; rules = rules } in
    rw p.1 (ap over kept ∙ c.self.view_is)

pub invariant_of-self-2 : goal.invariant_of-self-2
invariant_of-self-2 c =
    let signature : c.self.inside.signature ≡ c.args.self.now.signature = ap (λ s. s.signature) c.self.view_is in
    let within = subst (λ s. IsIndexOf s.rules c.args.index) (sym c.self.view_is) c.requires.index in
    let more = as_rules-pushed c.self.inside.rules.items c.args.index c.index_mut.result.now c.push.new.self (c.in_ok-pattern.field-0, c.in_ok-pattern-2.field-0) within c.index_mut.ensures.value c.in_ok-push.ensures.items in
    IsSystem-pushed _ _ _ c.args.index _ c.self.invariant
    (rw (c.in_ok-pattern.ensures, c.in_ok-pattern-2.ensures, signature) (FitsPattern-pattern_of _ _ c.requires.left_fits, FitsPattern-pattern_of _ _ c.requires.right_fits)) more

pub returns-clause-ok : goal.returns-clause-ok
returns-clause-ok c =
    let within = subst (λ s. IsIndexOf s.rules c.args.index) (sym c.self.view_is) c.requires.index in
    let more = as_rules-pushed c.self.inside.rules.items c.args.index c.index_mut.result.now c.push.new.self (c.in_ok-pattern.field-0, c.in_ok-pattern-2.field-0) within c.index_mut.ensures.value c.in_ok-push.ensures.items in
    (rw (c.in_ok-pattern.ensures, c.in_ok-pattern-2.ensures) at more) ∙ ap (λ s. pushed_at c.args.index (pattern_of (as_side c.args.left.now), pattern_of (as_side c.args.right.now)) s.rules) c.self.view_is
