use Rattle.std.proofs.Common.{◌≡◌, sym, ◌∙◌, ap, arith}
use Rattle.std.proofs.lemmas.List.{map-append}
use Rattle.fort_theory.specs.Sides.{empty_lists}
use Rattle.fort_theory.proofs.IndexPlaces.{empty_lists-more}
use Rattle.fort_theory.proofs.SystemLaws.{IsSystem-empty}
use Rattle.fort_terms.proofs.system.System.new.Goals as goal

pub loop-i-preserved : goal.loop-i-preserved
loop-i-preserved c = rw (c.in_ok-push.ensures.items, map-append, c.loop-i.invariant, c.new.ensures.items) (sym (empty_lists-more c.loop-i.i))

pub invariant_of-result : goal.invariant_of-result
invariant_of-result c =
    let whole : c.loop-i.i ≡ c.args.number = omega arith in
    IsSystem-empty _ _ _ c.requires.constant c.requires.some c.requires.few (c.loop-i.invariant ∙ ap empty_lists whole)
