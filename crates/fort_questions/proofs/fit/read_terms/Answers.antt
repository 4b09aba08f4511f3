use Rattle.std.proofs.Common.{get_or, sym, ap, subst, ◌∙◌}
use Rattle.std.specs.Prelude.{IfSome, IfNone}
use Rattle.fort_theory.specs.Trees.{Tree}
use Rattle.fort_grammar.specs.GroundForms.{IsGroundText}
use Rattle.fort_answers.specs.Lines.{formula_term}
use Rattle.fort_formula_parser.specs.ParsedView.{as_ground}
use Rattle.fort_questions.proofs.Fitting.{AreTermsOf-push, IsFirstWithoutTerm-at}
use Rattle.fort_questions.proofs.fit.read_terms.Goals as goal

pub returns-in-None-clause-refused : goal.returns-in-None-clause-refused
returns-in-None-clause-refused c =
    let signature = c.args.signature.now in
    let text = c.deref.ensures.value ∙ ap (λ g. g.text.items) c.ground-item.is in
    let none = subst (λ r. IfNone r ((t : Tree) → IsGroundText signature c.deref.result.now t → ⊥)) c.in-None.is c.in_ok-term.ensures.none in
    record {
      braces = as_ground (get_or c.args.grounds.now c.loop-ground.ground-index c.ground-item.result);
      first = IsFirstWithoutTerm-at signature c.args.grounds.now c.loop-ground.ground-index c.ground-item.result c.loop-ground.terms.items c.loop-ground-test.true
          c.loop-ground.invariant (λ t h. none t (subst (λ bs. IsGroundText signature bs t) (sym text) h));
      says = c.in_ok-line-in-None.ensures ∙ ap (λ g. formula_term g.at) c.ground-item.is;
    }

pub loop-ground-preserved : goal.loop-ground-preserved
loop-ground-preserved c =
    let signature = c.args.signature.now in
    let text = c.deref.ensures.value ∙ ap (λ g. g.text.items) c.ground-item.is in
    let some = subst (λ r. IfSome r (λ t. IsGroundText signature c.deref.result.now t)) c.in-Some.is c.in_ok-term.ensures.some in
    AreTermsOf-push signature c.args.grounds.now c.loop-ground.ground-index c.ground-item.result c.loop-ground.terms.items c.push.new.self.items c.in-Some.term c.loop-ground-test.true
    c.loop-ground.invariant (subst (λ bs. IsGroundText signature bs c.in-Some.term) text some) c.in_ok-push-in-Some.ensures.items
