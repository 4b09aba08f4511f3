use Rattle.std.proofs.Common.{◌≡◌, map, take, ap}
use Rattle.std.proofs.lemmas.List.{take_all}
use Rattle.fort_theory.specs.Patterns.{pattern_of, At}
use Rattle.fort_terms.specs.PatternView.{as_pattern}
use Rattle.fort_terms.specs.SideView.{as_side}
use Rattle.fort_terms.proofs.PatternViewLaws.{as_patterns-from_map}
use Rattle.fort_terms.proofs.side.Side.+pattern.Goals as goal

pub returns-after-loop-arg : goal.returns-after-loop-arg
returns-after-loop-arg t c =
    let whole : take c.loop-arg.arg-index c.deref-arg-items.result.now ≡ c.deref-arg-items.result.now = take_all _ _ c.loop-arg-test.false in
    let all : map as_pattern c.loop-arg.patterns.items ≡ map (λ s. pattern_of (as_side s)) c.args-in-App.inside.items.items =
    rw (← c.deref-arg-items.ensures.value) (rw whole at c.loop-arg.invariant) in
    rw (c.in-App.is, c.new.ensures, ← c.args-in-App.view_is) (ap (At c.in-App.sym.0) (as_patterns-from_map _ _ all))
