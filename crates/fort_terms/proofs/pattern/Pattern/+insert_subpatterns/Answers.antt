use Rattle.std.proofs.Common.{◌≡◌, [], ◌∷◌, take}
use Rattle.std.proofs.lemmas.List.{take_more, take_all}
use Rattle.fort_theory.specs.Patterns.{At}
use Rattle.fort_theory.specs.PatternOrder.{all_subpatterns}
use Rattle.fort_terms.proofs.SubpatternsLaws.{HasMore-inserted, HasMore-append, all_subpatterns-push}
use Rattle.fort_terms.proofs.pattern.Pattern.+insert_subpatterns.Goals as goal

pub returns-in-Any : goal.returns-in-Any
returns-in-Any t c =
    let itself = HasMore-inserted c.args.found.now.keys _ _ c.in_ok-insert.ensures.keys in
    rw c.in-Any.is (rw (c.in_ok-copy.ensures, c.in-Any.is) at itself)

pub loop-arg-preserved : goal.loop-arg-preserved
loop-arg-preserved t c =
    rw (take_more _ _ c.arg-item.result c.loop-arg-test.true, ← c.arg-item.is, all_subpatterns-push)
    (HasMore-append _ _ _ _ _ c.loop-arg.invariant c.in_ok-insert_subpatterns-in-App.ensures)

pub returns-after-loop-arg : goal.returns-after-loop-arg
returns-after-loop-arg t c =
    let whole : take c.loop-arg.arg-index c.deref-arg-items.result.now ≡ c.deref-arg-items.result.now = take_all _ _ c.loop-arg-test.false in
    let within = rw (whole, c.deref-arg-items.ensures.value, c.args-in-App.view_is) at c.loop-arg.invariant in
    let itself = HasMore-inserted c.args.found.now.keys _ _ c.in_ok-insert.ensures.keys in
    rw c.in-App.is (HasMore-append (At c.in-App.field-0.0 c.in-App.args ∷ []) (all_subpatterns c.in-App.args) _ _ _ (rw (c.in_ok-copy.ensures, c.in-App.is) at itself) within)
