use Rattle.std.proofs.Common.{◌≡◌, ◌≢◌, length, sym, ap, ◌∙◌, subst, append-nil, arith}
use Rattle.std.proofs.lemmas.Bool.{eqb-true, eqb-false}
use Rattle.fort_theory.specs.Patterns.{FitsPattern, FitPatterns}
use Rattle.fort_terms.specs.PatternView.{as_pattern, as_patterns, node_count, node_counts}
use Rattle.fort_answers.specs.FamilySystems.{any_count, any_counts}
use Rattle.fort_synth.proofs.TextPatterns.{size_at, fits_at, any_counts-more, any_counts-within, text_more, text_constant, text_closed, counted_all, symbol_there}
use Rattle.fort_synth.proofs.text.+push_pattern.Goals as goal

pub returns-then-is_empty-clause-text : goal.returns-then-is_empty-clause-text
returns-then-is_empty-clause-text t c =
    let none : length c.as_slice-args.result.now ≡ 0 = eqb-true _ 0 (sym c.is_empty.ensures ∙ c.if-is_empty.true) in
    rw c.in-App.is
    (text_constant c.args.signature.now c.args.next.now c.in-App.sym.0 c.as_slice-args.result.now c.in-App.args c.name.result.now c.args.text.now.items _
    c.as_slice-args.ensures none c.name.ensures c.in_ok-extend_from_slice-in-App.ensures.items)

pub name-requires-in-App : goal.name-requires-in-App
name-requires-in-App t c =
    let fits = subst (λ p. FitsPattern c.args.signature.now (as_pattern p)) c.in-App.is c.requires.fits in
    symbol_there c.args.signature.now c.in-App.sym.0 _ fits.0

pub loop-arg-init : goal.loop-arg-init
loop-arg-init t c = record {
  written = sym (append-nil c.extend_from_slice-in-App.new.self.items);
  counted = omega arith;
}

pub push_pattern-requires : goal.push_pattern-requires
push_pattern-requires t c =
    let fits = subst (λ p. FitsPattern c.args.signature.now (as_pattern p)) c.in-App.is c.requires.fits in
    let inner : FitPatterns c.args.signature.now (as_patterns c.as_slice-args.result.now) = subst (FitPatterns c.args.signature.now) (sym c.as_slice-args.ensures) fits.1 in (
      omega (arith, size_at _ _ _ c.loop-arg-test.true c.arg-item.is, ap node_counts c.as_slice-args.ensures, ap (λ p. node_count (as_pattern p)) c.in-App.is),
      (
        fits_at _ _ _ _ c.loop-arg-test.true c.arg-item.is inner,
        (
          omega (arith, any_counts-within _ _ _ c.loop-arg-test.true c.arg-item.is, ap any_counts c.as_slice-args.ensures, ap (λ p. any_count (as_pattern p)) c.in-App.is, c.loop-arg.invariant.counted),
          c.requires.names,
        ),
      ),
    )

pub loop-arg-preserved : goal.loop-arg-preserved
loop-arg-preserved t c = record {
  written = text_more c.args.signature.now c.args.next.now c.as_slice-args.result.now c.loop-arg.arg-index c.arg-item.result _ _ _ _ _ c.loop-arg-test.true c.arg-item.is
      c.loop-arg.invariant.written c.loop-arg.invariant.counted c.in_ok-push-in-App-2.ensures.items c.in_ok-push_pattern-in-App.ensures.text;
  counted = omega (arith, any_counts-more _ _ _ c.loop-arg-test.true c.arg-item.is, c.loop-arg.invariant.counted, c.in_ok-push_pattern-in-App.ensures.next);
}

pub returns-in_ok-push-in-App-3-clause-text : goal.returns-in_ok-push-in-App-3-clause-text
returns-in_ok-push-in-App-3-clause-text t c =
    let some : length c.as_slice-args.result.now ≢ 0 = eqb-false _ 0 (sym c.is_empty.ensures ∙ c.if-is_empty.false) in
    rw c.in-App.is
    (text_closed c.args.signature.now c.args.next.now c.in-App.sym.0 c.loop-arg.arg-index c.as_slice-args.result.now c.in-App.args c.name-in-App.result.now _ _ _ _ _
    c.as_slice-args.ensures (omega arith) c.loop-arg-test.false c.name-in-App.ensures
    c.in_ok-push-in-App.ensures.items c.in_ok-extend_from_slice-in-App-2.ensures.items c.loop-arg.invariant.written c.in_ok-push-in-App-3.ensures.items)

pub returns-in_ok-push-in-App-3-clause-next : goal.returns-in_ok-push-in-App-3-clause-next
returns-in_ok-push-in-App-3-clause-next t c =
    rw c.in-App.is (counted_all c.loop-arg.arg-index c.args.next.now c.loop-arg.next c.as_slice-args.result.now c.in-App.args c.as_slice-args.ensures c.loop-arg-test.false c.loop-arg.invariant.counted)
