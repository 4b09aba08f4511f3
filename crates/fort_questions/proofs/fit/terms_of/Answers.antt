use Rattle.std.proofs.Common.{map, subst}
use Rattle.std.proofs.lemmas.Result.{err_from_is_err_and}
use Rattle.fort_logic.specs.Mentions.{indices, IsFirstAbove, AreWithin}
use Rattle.fort_formulas.specs.FormulaView.{as_formula}
use Rattle.fort_formula_parser.specs.ParsedView.{as_ground}
use Rattle.fort_answers.specs.FitAnswer.{NoIndex, NotRightGround}
use Rattle.fort_answers.specs.Said.{AreTermsOf}
use Rattle.fort_questions.specs.Refusals.{Refuses, NamesTerm}
use Rattle.fort_questions.proofs.Fitting.{number_is, signature_is, term_refused, right_ground_of, not_right_ground_of}
use Rattle.fort_questions.proofs.fit.terms_of.Goals as goal

pub returns-in-Some-clause-refused : goal.returns-in-Some-clause-refused
returns-in-Some-clause-refused c = λ text p grounds is.
    let f = as_formula c.args.parsed.now.formula in
    let number = number_is c.number.result c.args.system.now p c.number.ensures.count is in
    NoIndex c.in-Some.index (subst (λ n. IsFirstAbove n (indices f) c.in-Some.index) number c.in-Some.ensures.first) c.in_ok-line.ensures

pub returns-in_err-terms-clause-refused : goal.returns-in_err-terms-clause-refused
returns-in_err-terms-clause-refused c =
    let e = err_from_is_err_and c.from_residual-in_err-terms.result c.from_residual-in_err-terms.ensures.1 in
    rw (e.1, e.2) (λ text p grounds is.
    let f = as_formula c.args.parsed.now.formula in
    let number = number_is c.number.result c.args.system.now p c.number.ensures.count is in
    let signature = signature_is c.signature.result.now c.args.system.now p c.signature.ensures.same is in
    term_refused text f p (map as_ground c.args.parsed.now.grounds.items) c.in_err-terms.field-0.0
    (subst (λ n. AreWithin n (indices f)) number c.in_default.ensures.within) grounds
    (subst (λ gs. Refuses (NamesTerm p.signature (map as_ground gs)) c.in_err-terms.field-0.0) c.deref.ensures.value
    (subst (λ s. Refuses (NamesTerm s (map as_ground c.deref.result.now)) c.in_err-terms.field-0.0) signature c.in_err-terms.ensures.refused)))

pub returns-in-Some-not_right_ground-clause-refused : goal.returns-in-Some-not_right_ground-clause-refused
returns-in-Some-not_right_ground-clause-refused c = λ text p grounds is.
    let f = as_formula c.args.parsed.now.formula in
    let number = number_is c.number.result c.args.system.now p c.number.ensures.count is in
    let signature = signature_is c.signature.result.now c.args.system.now p c.signature.ensures.same is in
    NotRightGround (subst (λ n. AreWithin n (indices f)) number c.in_default.ensures.within)
    (map as_ground c.args.parsed.now.grounds.items) grounds c.in_ok-terms.terms.items
    (subst (λ gs. AreTermsOf p.signature (map as_ground gs) c.in_ok-terms.terms.items) c.deref.ensures.value
    (subst (λ s. AreTermsOf s (map as_ground c.deref.result.now) c.in_ok-terms.terms.items) signature c.in_ok-terms.ensures.ok))
    c.in-Some-not_right_ground.index (not_right_ground_of c.args.system.now p f is c.in-Some-not_right_ground.index c.in-Some-not_right_ground.ensures.first) c.in_ok-line-2.ensures

pub returns-clause-ok : goal.returns-clause-ok
returns-clause-ok c = λ text p grounds is.
    let f = as_formula c.args.parsed.now.formula in
    let number = number_is c.number.result c.args.system.now p c.number.ensures.count is in
    let signature = signature_is c.signature.result.now c.args.system.now p c.signature.ensures.same is in
    record {
      within = subst (λ n. AreWithin n (indices f)) number c.in_default.ensures.within;
      grounds = map as_ground c.args.parsed.now.grounds.items;
      are_grounds = grounds;
      are_terms = subst (λ gs. AreTermsOf p.signature (map as_ground gs) c.in_ok-terms.terms.items) c.deref.ensures.value
          (subst (λ s. AreTermsOf s (map as_ground c.deref.result.now) c.in_ok-terms.terms.items) signature c.in_ok-terms.ensures.ok);
      right_ground = right_ground_of c.args.system.now p f is c.in_default-not_right_ground.ensures.right;
    }
