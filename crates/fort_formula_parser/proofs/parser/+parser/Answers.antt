use Rattle.std.proofs.Common.{◌≡◌, ◌+◌, ◌<◌, ◌≤◌, length, refl, ap, subst, ◌∙◌, arith}
use Rattle.std.proofs.lemmas.Result.{err_from_is_err_and, IfOk-weaker, IfErr-weaker}
use Rattle.fort_logic.specs.Formulas as theory
use Rattle.fort_formula_grammar.specs.Tokens.{Open, Not, Exists, Forall, Infinite, True, False, Nf, Join, Sn, Has, Com}
use Rattle.fort_formula_grammar.specs.FormulaGrammar.{Truth, Falsity, Commuting}
use Rattle.fort_formula_grammar.specs.Continuations.{HasNoArgument}
use Rattle.fort_formula_grammar.specs.Stuck.{starts_unary, StuckFormula, OnTheLeft, StuckImplication, InPremise, StuckDisjunction, InFirstOr, StuckConjunction, InFirstAnd, StuckUnary, StuckBinders, StuckBody}
use Rattle.fort_formulas.specs.FormulaView.{as_property}
use Rattle.fort_formula_parser.specs.TokenView.{as_token}
use Rattle.fort_formula_parser.specs.Parsing.{as_quantifier}
use Rattle.fort_formula_parser.proofs.Cursors.{rest_of-at, rest_of-end, IsTokenAt-lexeme}
use Rattle.fort_formula_parser.proofs.Levels.{IsStuckAt-as, handed_on, conjunction-first, conjunction-more, conjunction-over, disjunction-first, disjunction-more, disjunction-over, implication-alone, implication-joined, implication-over, formula-alone, formula-joined, formula-no_right, formula-twice}
use Rattle.fort_formula_parser.proofs.Bodies.{IsParsed-body, stuck_unopened, stuck_inside, stuck_unclosed, IsParsed-last_binder, IsParsed-more_binders, stuck_no_binder, stuck_behind_binders, stuck_more_binders, IsParsed-negated, IsParsed-some, IsParsed-every, IsParsed-enclosed, IsParsed-infinite, stuck_not, stuck_exists, stuck_forall, stuck_infinite_unnamed, stuck_infinite, stuck_within, stuck_no_unary, IsParsed-constant, begins_unary-other}
use Rattle.fort_formula_parser.proofs.parser.+parser.Goals as goal

pub formula-returns-in_err-left-clause-err : goal.formula-returns-in_err-left-clause-err
formula-returns-in_err-left-clause-err t c =
    let p = err_from_is_err_and c.from_residual.result c.from_residual.ensures.1 in
    handed_on StuckImplication StuckFormula c.args.lexemes.now c.args.at c.args.at c.from_residual.result p.0 c.in_err-left.field-0.0 (λ us h. OnTheLeft h) p.1 p.2 c.in_err-left.ensures.err

pub formula-returns-then-not-is_next-clause-ok : goal.formula-returns-then-not-is_next-clause-ok
formula-returns-then-not-is_next-clause-ok t c =
    formula-alone c.args.lexemes.now c.args.at c.in_ok-left.left c.in_ok-left.ensures.ok c.if-not-is_next.ensures

pub formula-returns-in_err-right-clause-err : goal.formula-returns-in_err-right-clause-err
formula-returns-in_err-right-clause-err t c =
    let p = err_from_is_err_and c.from_residual-in_err-right.result c.from_residual-in_err-right.ensures.1 in
    handed_on StuckImplication StuckFormula c.args.lexemes.now (c.in_ok-left.left.next + 1) c.args.at c.from_residual-in_err-right.result p.0 c.in_err-right.field-0.0 (formula-no_right c.args.lexemes.now c.args.at c.in_ok-left.left c.in_ok-left.ensures.ok c.if-not-is_next.ensures) p.1 p.2 c.in_err-right.ensures.err

pub formula-returns-then-is_next-clause-err : goal.formula-returns-then-is_next-clause-err
formula-returns-then-is_next-clause-err t c =
    formula-twice c.args.lexemes.now c.args.at c.in_ok-left.left c.in_ok-right.right c.in_ok-left.ensures.ok c.if-not-is_next.ensures c.in_ok-right.ensures.ok c.if-is_next.ensures

pub formula-returns-clause-ok : goal.formula-returns-clause-ok
formula-returns-clause-ok t c =
    formula-joined c.args.lexemes.now c.args.at c.in_ok-left.left c.in_ok-right.right c.joined.result c.in_ok-left.ensures.ok c.if-not-is_next.ensures c.in_ok-right.ensures.ok
    c.if-is_next.ensures c.joined.ensures

pub implication-returns-in_err-premise-clause-err : goal.implication-returns-in_err-premise-clause-err
implication-returns-in_err-premise-clause-err t c =
    let p = err_from_is_err_and c.from_residual.result c.from_residual.ensures.1 in
    handed_on StuckDisjunction StuckImplication c.args.lexemes.now c.args.at c.args.at c.from_residual.result p.0 c.in_err-premise.field-0.0 (λ us h. InPremise h) p.1 p.2 c.in_err-premise.ensures.err

pub implication-returns-then-not-is_next-clause-ok : goal.implication-returns-then-not-is_next-clause-ok
implication-returns-then-not-is_next-clause-ok t c =
    implication-alone c.args.lexemes.now c.args.at c.in_ok-premise.premise c.in_ok-premise.ensures.ok c.if-not-is_next.ensures

pub implication-returns-in_err-conclusion-clause-err : goal.implication-returns-in_err-conclusion-clause-err
implication-returns-in_err-conclusion-clause-err t c =
    let p = err_from_is_err_and c.from_residual-in_err-conclusion.result c.from_residual-in_err-conclusion.ensures.1 in
    handed_on StuckImplication StuckImplication c.args.lexemes.now (c.in_ok-premise.premise.next + 1) c.args.at c.from_residual-in_err-conclusion.result p.0 c.in_err-conclusion.field-0.0 (implication-over c.args.lexemes.now c.args.at c.in_ok-premise.premise c.in_ok-premise.ensures.ok c.if-not-is_next.ensures) p.1 p.2 c.in_err-conclusion.ensures.err

pub implication-returns-clause-ok : goal.implication-returns-clause-ok
implication-returns-clause-ok t c =
    implication-joined c.args.lexemes.now c.args.at c.in_ok-premise.premise c.in_ok-conclusion.conclusion c.joined.result c.in_ok-premise.ensures.ok c.if-not-is_next.ensures c.in_ok-conclusion.ensures.ok
    c.joined.ensures

pub disjunction-returns-in_err-left-clause-err : goal.disjunction-returns-in_err-left-clause-err
disjunction-returns-in_err-left-clause-err t c =
    let p = err_from_is_err_and c.from_residual.result c.from_residual.ensures.1 in
    handed_on StuckConjunction StuckDisjunction c.args.lexemes.now c.args.at c.args.at c.from_residual.result p.0 c.in_err-left.field-0.0 (λ us h. InFirstOr h) p.1 p.2 c.in_err-left.ensures.err

pub disjunction-more-init : goal.disjunction-more-init
disjunction-more-init t c =
    disjunction-first c.args.lexemes.now c.args.at c.in_ok-left.left c.in_ok-left.ensures.ok

pub disjunction-returns-in_err-right-clause-err : goal.disjunction-returns-in_err-right-clause-err
disjunction-returns-in_err-right-clause-err t c =
    let p = err_from_is_err_and c.from_residual-in_err-right.result c.from_residual-in_err-right.ensures.1 in
    handed_on StuckConjunction StuckDisjunction c.args.lexemes.now (c.more.left.next + 1) c.args.at c.from_residual-in_err-right.result p.0 c.in_err-right.field-0.0 (disjunction-over c.args.lexemes.now c.args.at c.more.left c.more.invariant c.more-test.ensures) p.1 p.2 c.in_err-right.ensures.err

pub disjunction-more-preserved : goal.disjunction-more-preserved
disjunction-more-preserved t c =
    disjunction-more c.args.lexemes.now c.args.at c.more.left c.in_ok-right.right c.joined-left.result c.more.invariant c.more-test.ensures c.in_ok-right.ensures.ok c.joined-left.ensures

pub conjunction-returns-in_err-left-clause-err : goal.conjunction-returns-in_err-left-clause-err
conjunction-returns-in_err-left-clause-err t c =
    let p = err_from_is_err_and c.from_residual.result c.from_residual.ensures.1 in
    handed_on StuckUnary StuckConjunction c.args.lexemes.now c.args.at c.args.at c.from_residual.result p.0 c.in_err-left.field-0.0 (λ us h. InFirstAnd h) p.1 p.2 c.in_err-left.ensures.err

pub conjunction-more-init : goal.conjunction-more-init
conjunction-more-init t c =
    conjunction-first c.args.lexemes.now c.args.at c.in_ok-left.left c.in_ok-left.ensures.ok

pub conjunction-returns-in_err-right-clause-err : goal.conjunction-returns-in_err-right-clause-err
conjunction-returns-in_err-right-clause-err t c =
    let p = err_from_is_err_and c.from_residual-in_err-right.result c.from_residual-in_err-right.ensures.1 in
    handed_on StuckUnary StuckConjunction c.args.lexemes.now (c.more.left.next + 1) c.args.at c.from_residual-in_err-right.result p.0 c.in_err-right.field-0.0 (conjunction-over c.args.lexemes.now c.args.at c.more.left c.more.invariant c.more-test.ensures) p.1 p.2 c.in_err-right.ensures.err

pub conjunction-more-preserved : goal.conjunction-more-preserved
conjunction-more-preserved t c =
    conjunction-more c.args.lexemes.now c.args.at c.more.left c.in_ok-right.right c.joined-left.result c.more.invariant c.more-test.ensures c.in_ok-right.ensures.ok c.joined-left.ensures

pub enclosed-returns-then-not-is_next-2-clause-err : goal.enclosed-returns-then-not-is_next-2-clause-err
enclosed-returns-then-not-is_next-2-clause-err t c =
    stuck_unclosed c.args.lexemes.now c.args.at c.in_ok-made.field-0 c.if-not-is_next.ensures c.in_ok-made.ensures.ok c.if-not-is_next-2.ensures

pub enclosed-returns-clause-ok : goal.enclosed-returns-clause-ok
enclosed-returns-clause-ok t c =
    IsParsed-body c.args.lexemes.now c.args.at c.in_ok-made.field-0 _ c.if-not-is_next.ensures c.in_ok-made.ensures.ok c.if-not-is_next-2.ensures refl refl

pub binders-returns-in_err-others-clause-err : goal.binders-returns-in_err-others-clause-err
binders-returns-in_err-others-clause-err t c =
    let p = err_from_is_err_and c.from_residual.result c.from_residual.ensures.1 in
    handed_on StuckBinders StuckBinders c.args.lexemes.now (c.args.at + 2) c.args.at c.from_residual.result p.0 c.in_err-others.field-0.0 (stuck_more_binders c.args.lexemes.now c.args.at c.in-Some.x.now c.in-Some.ensures c.if-is_next.ensures) p.1 p.2 c.in_err-others.ensures.err

pub binders-returns-then-is_next-clause-ok : goal.binders-returns-then-is_next-clause-ok
binders-returns-then-is_next-clause-ok t c =
    IsParsed-more_binders c.args.lexemes.now c.args.at (as_quantifier c.args.quantifier) c.in-Some.x.now c.in_ok-others.others c.bound.result c.in-Some.ensures c.if-is_next.ensures
    c.in_ok-others.ensures.ok c.bound.ensures

pub binders-returns-in_err-body-clause-err : goal.binders-returns-in_err-body-clause-err
binders-returns-in_err-body-clause-err t c =
    let p = err_from_is_err_and c.from_residual-in_err-body.result c.from_residual-in_err-body.ensures.1 in
    handed_on StuckBody StuckBinders c.args.lexemes.now (c.args.at + 1) c.args.at c.from_residual-in_err-body.result p.0 c.in_err-body.field-0.0 (stuck_behind_binders c.args.lexemes.now c.args.at c.in-Some.x.now c.in-Some.ensures c.if-is_next.ensures) p.1 p.2 c.in_err-body.ensures.err

pub binders-returns-clause-ok : goal.binders-returns-clause-ok
binders-returns-clause-ok t c =
    IsParsed-last_binder c.args.lexemes.now c.args.at (as_quantifier c.args.quantifier) c.in-Some.x.now c.in_ok-body.body c.bound-2.result c.in-Some.ensures c.in_ok-body.ensures.ok c.bound-2.ensures

pub unary-returns-in_default-clause-err : goal.unary-returns-in_default-clause-err
unary-returns-in_default-clause-err t c =
    stuck_no_unary c.args.lexemes.now c.args.at c.requires.within (ap starts_unary (rest_of-end c.args.lexemes.now c.args.at c.in_default.ensures.lookup.3))

pub unary-returns-in_default-argument_at-clause-err : goal.unary-returns-in_default-argument_at-clause-err
unary-returns-in_default-argument_at-clause-err t c =
    let at = c.in-Some.ensures.lookup.3 in
    let other = c.in_default-token in
    let here = rest_of-at c.args.lexemes.now c.args.at c.in-Some.lexeme.now at.0 at.1 in
    stuck_no_unary c.args.lexemes.now c.args.at c.requires.within
    (ap starts_unary here ∙ begins_unary-other c.in-Some.lexeme.now.token _ other.not-Open other.not-Not other.not-Exists other.not-Forall other.not-Infinite
    other.not-True other.not-False other.not-Com other.not-Nf other.not-Join other.not-Sn other.not-Has (subst (λ ts. HasNoArgument ts) here c.in_default-argument_at.ensures))

pub unary-returns-in_err-unary-in-Not-clause-err : goal.unary-returns-in_err-unary-in-Not-clause-err
unary-returns-in_err-unary-in-Not-clause-err t c =
    let at = c.in-Some.ensures.lookup.3 in
    let next = IsTokenAt-lexeme c.args.lexemes.now c.args.at c.in-Some.lexeme.now Not at.0 at.1 (ap as_token c.in-Not.is) in
    let p = err_from_is_err_and c.from_residual.result c.from_residual.ensures.1 in
    handed_on StuckUnary StuckUnary c.args.lexemes.now (c.args.at + 1) c.args.at c.from_residual.result p.0 c.in_err-unary-in-Not.field-0.0 (stuck_not c.args.lexemes.now c.args.at next) p.1 p.2 c.in_err-unary-in-Not.ensures.err

pub unary-returns-in_ok-unary-in-Not-clause-ok : goal.unary-returns-in_ok-unary-in-Not-clause-ok
unary-returns-in_ok-unary-in-Not-clause-ok t c =
    let at = c.in-Some.ensures.lookup.3 in
    let next = IsTokenAt-lexeme c.args.lexemes.now c.args.at c.in-Some.lexeme.now Not at.0 at.1 (ap as_token c.in-Not.is) in
    IsParsed-negated c.args.lexemes.now c.args.at c.in_ok-unary-in-Not.field-0 c.negated.result next c.in_ok-unary-in-Not.ensures.ok c.negated.ensures

pub unary-returns-in-Exists-clause-ok : goal.unary-returns-in-Exists-clause-ok
unary-returns-in-Exists-clause-ok t c =
    let at = c.in-Some.ensures.lookup.3 in
    let next = IsTokenAt-lexeme c.args.lexemes.now c.args.at c.in-Some.lexeme.now Exists at.0 at.1 (ap as_token c.in-Exists.is) in
    IfOk-weaker c.binders.result _ _ (λ p h. IsParsed-some c.args.lexemes.now c.args.at p next h) c.binders.ensures.ok

pub unary-returns-in-Exists-clause-err : goal.unary-returns-in-Exists-clause-err
unary-returns-in-Exists-clause-err t c =
    let at = c.in-Some.ensures.lookup.3 in
    let next = IsTokenAt-lexeme c.args.lexemes.now c.args.at c.in-Some.lexeme.now Exists at.0 at.1 (ap as_token c.in-Exists.is) in
    IfErr-weaker c.binders.result _ _ (λ e h. IsStuckAt-as StuckBinders StuckUnary c.args.lexemes.now (c.args.at + 1) c.args.at e (stuck_exists c.args.lexemes.now c.args.at next) h) c.binders.ensures.err

pub unary-returns-in-Forall-clause-ok : goal.unary-returns-in-Forall-clause-ok
unary-returns-in-Forall-clause-ok t c =
    let at = c.in-Some.ensures.lookup.3 in
    let next = IsTokenAt-lexeme c.args.lexemes.now c.args.at c.in-Some.lexeme.now Forall at.0 at.1 (ap as_token c.in-Forall.is) in
    IfOk-weaker c.binders-in-Forall.result _ _ (λ p h. IsParsed-every c.args.lexemes.now c.args.at p next h) c.binders-in-Forall.ensures.ok

pub unary-returns-in-Forall-clause-err : goal.unary-returns-in-Forall-clause-err
unary-returns-in-Forall-clause-err t c =
    let at = c.in-Some.ensures.lookup.3 in
    let next = IsTokenAt-lexeme c.args.lexemes.now c.args.at c.in-Some.lexeme.now Forall at.0 at.1 (ap as_token c.in-Forall.is) in
    IfErr-weaker c.binders-in-Forall.result _ _ (λ e h. IsStuckAt-as StuckBinders StuckUnary c.args.lexemes.now (c.args.at + 1) c.args.at e (stuck_forall c.args.lexemes.now c.args.at next) h) c.binders-in-Forall.ensures.err

pub unary-returns-in_default-variable_at-clause-err : goal.unary-returns-in_default-variable_at-clause-err
unary-returns-in_default-variable_at-clause-err t c =
    let at = c.in-Some.ensures.lookup.3 in
    let next = IsTokenAt-lexeme c.args.lexemes.now c.args.at c.in-Some.lexeme.now Infinite at.0 at.1 (ap as_token c.in-Infinite.is) in
    stuck_infinite_unnamed c.args.lexemes.now c.args.at next c.in_default-variable_at.ensures

pub unary-returns-in_err-enclosed-in-Infinite-clause-err : goal.unary-returns-in_err-enclosed-in-Infinite-clause-err
unary-returns-in_err-enclosed-in-Infinite-clause-err t c =
    let at = c.in-Some.ensures.lookup.3 in
    let next = IsTokenAt-lexeme c.args.lexemes.now c.args.at c.in-Some.lexeme.now Infinite at.0 at.1 (ap as_token c.in-Infinite.is) in
    let p = err_from_is_err_and c.from_residual-in_err-enclosed-in-Infinite.result c.from_residual-in_err-enclosed-in-Infinite.ensures.1 in
    handed_on StuckBody StuckUnary c.args.lexemes.now (c.args.at + 2) c.args.at c.from_residual-in_err-enclosed-in-Infinite.result p.0 c.in_err-enclosed-in-Infinite.field-0.0 (stuck_infinite c.args.lexemes.now c.args.at c.in-Some-variable_at.x.now next c.in-Some-variable_at.ensures) p.1 p.2 c.in_err-enclosed-in-Infinite.ensures.err

pub unary-returns-in_ok-enclosed-in-Infinite-clause-ok : goal.unary-returns-in_ok-enclosed-in-Infinite-clause-ok
unary-returns-in_ok-enclosed-in-Infinite-clause-ok t c =
    let at = c.in-Some.ensures.lookup.3 in
    let next = IsTokenAt-lexeme c.args.lexemes.now c.args.at c.in-Some.lexeme.now Infinite at.0 at.1 (ap as_token c.in-Infinite.is) in
    IsParsed-infinite c.args.lexemes.now c.args.at c.in-Some-variable_at.x.now c.in_ok-enclosed-in-Infinite.field-0 c.infinite.result next c.in-Some-variable_at.ensures
    c.in_ok-enclosed-in-Infinite.ensures.ok c.infinite.ensures

pub unary-returns-in-Open-clause-ok : goal.unary-returns-in-Open-clause-ok
unary-returns-in-Open-clause-ok t c =
    IfOk-weaker c.enclosed-in-Open.result _ _ (λ p h. IsParsed-enclosed c.args.lexemes.now c.args.at p h) c.enclosed-in-Open.ensures.ok

pub unary-returns-in-Open-clause-err : goal.unary-returns-in-Open-clause-err
unary-returns-in-Open-clause-err t c =
    let at = c.in-Some.ensures.lookup.3 in
    let next = IsTokenAt-lexeme c.args.lexemes.now c.args.at c.in-Some.lexeme.now Open at.0 at.1 (ap as_token c.in-Open.is) in
    IfErr-weaker c.enclosed-in-Open.result _ _ (λ e h. IsStuckAt-as StuckBody StuckUnary c.args.lexemes.now c.args.at c.args.at e (stuck_within c.args.lexemes.now c.args.at next) h) c.enclosed-in-Open.ensures.err

pub unary-returns-in-True-clause-ok : goal.unary-returns-in-True-clause-ok
unary-returns-in-True-clause-ok t c =
    let at = c.in-Some.ensures.lookup.3 in
    let next = IsTokenAt-lexeme c.args.lexemes.now c.args.at c.in-Some.lexeme.now True at.0 at.1 (ap as_token c.in-True.is) in
    IsParsed-constant c.args.lexemes.now c.args.at True theory.True c.constant.result next (λ us. Truth) c.constant.ensures.made c.constant.ensures.next

pub unary-returns-in-False-clause-ok : goal.unary-returns-in-False-clause-ok
unary-returns-in-False-clause-ok t c =
    let at = c.in-Some.ensures.lookup.3 in
    let next = IsTokenAt-lexeme c.args.lexemes.now c.args.at c.in-Some.lexeme.now False at.0 at.1 (ap as_token c.in-False.is) in
    IsParsed-constant c.args.lexemes.now c.args.at False theory.False c.constant-in-False.result next (λ us. Falsity) c.constant-in-False.ensures.made c.constant-in-False.ensures.next

pub unary-returns-in-Com-clause-ok : goal.unary-returns-in-Com-clause-ok
unary-returns-in-Com-clause-ok t c =
    let at = c.in-Some.ensures.lookup.3 in
    let next = IsTokenAt-lexeme c.args.lexemes.now c.args.at c.in-Some.lexeme.now Com at.0 at.1 (ap as_token c.in-Com.is) in
    IsParsed-constant c.args.lexemes.now c.args.at Com theory.Com c.constant-in-Com.result next (λ us. Commuting) c.constant-in-Com.ensures.made c.constant-in-Com.ensures.next

pub unary-property_formula-requires : goal.unary-property_formula-requires
unary-property_formula-requires t c =
    let at = c.in-Some.ensures.lookup.3 in
    IsTokenAt-lexeme c.args.lexemes.now c.args.at c.in-Some.lexeme.now (Has (as_property c.in-Has.property)) at.0 at.1 (ap as_token c.in-Has.is)

pub unary-normal_form-requires : goal.unary-normal_form-requires
unary-normal_form-requires t c =
    let at = c.in-Some.ensures.lookup.3 in
    record { here = IsTokenAt-lexeme c.args.lexemes.now c.args.at c.in-Some.lexeme.now Nf at.0 at.1 (ap as_token c.in-Nf.is); few = c.requires.few }

pub unary-terminating-requires : goal.unary-terminating-requires
unary-terminating-requires t c =
    let at = c.in-Some.ensures.lookup.3 in
    record { here = IsTokenAt-lexeme c.args.lexemes.now c.args.at c.in-Some.lexeme.now Sn at.0 at.1 (ap as_token c.in-Sn.is); few = c.requires.few }

pub unary-joinable-requires : goal.unary-joinable-requires
unary-joinable-requires t c =
    let at = c.in-Some.ensures.lookup.3 in
    record { here = IsTokenAt-lexeme c.args.lexemes.now c.args.at c.in-Some.lexeme.now Join at.0 at.1 (ap as_token c.in-Join.is); few = c.requires.few }

pub enclosed-returns-then-not-is_next-clause-err : goal.enclosed-returns-then-not-is_next-clause-err
enclosed-returns-then-not-is_next-clause-err t c = stuck_unopened c.args.lexemes.now c.args.at c.requires.within c.if-not-is_next.ensures

pub enclosed-returns-in_err-made-clause-err : goal.enclosed-returns-in_err-made-clause-err
enclosed-returns-in_err-made-clause-err t c =
    let p = err_from_is_err_and c.from_residual.result c.from_residual.ensures.1 in
    handed_on StuckFormula StuckBody c.args.lexemes.now (c.args.at + 1) c.args.at c.from_residual.result p.0 c.in_err-made.field-0.0
    (stuck_inside c.args.lexemes.now c.args.at c.if-not-is_next.ensures) p.1 p.2 c.in_err-made.ensures.err

pub binders-returns-in_default-clause-err : goal.binders-returns-in_default-clause-err
binders-returns-in_default-clause-err t c = stuck_no_binder c.args.lexemes.now c.args.at c.requires.within c.in_default.ensures

pub conjunction-more-smaller : goal.conjunction-more-smaller
conjunction-more-smaller t c =
    let left = c.more.invariant in
    let right = c.in_ok-right.ensures.ok in
    let further : c.more.left.next + 1 < c.in_ok-right.right.next = right.further in
    let within : c.in_ok-right.right.next ≤ length c.args.lexemes.now = right.within in
    let place : c.joined-left.result.next ≡ c.in_ok-right.right.next = (c.joined-left.ensures left.formula right.formula left.is_made right.is_made).place in
    omega (arith, further, within, place)

pub disjunction-more-smaller : goal.disjunction-more-smaller
disjunction-more-smaller t c =
    let left = c.more.invariant in
    let right = c.in_ok-right.ensures.ok in
    let further : c.more.left.next + 1 < c.in_ok-right.right.next = right.further in
    let within : c.in_ok-right.right.next ≤ length c.args.lexemes.now = right.within in
    let place : c.joined-left.result.next ≡ c.in_ok-right.right.next = (c.joined-left.ensures left.formula right.formula left.is_made right.is_made).place in
    omega (arith, further, within, place)
