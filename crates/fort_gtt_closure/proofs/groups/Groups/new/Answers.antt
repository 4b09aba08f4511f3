use Rattle.std.proofs.Common.{sym}
use Rattle.std.proofs.lemmas.List.{map-append}
use Rattle.fort_theory.proofs.IndexPlaces.{empty_lists-more}
use Rattle.fort_gtt_closure.proofs.groups.Groups.new.Goals as goal

pub loop-i-preserved : goal.loop-i-preserved
loop-i-preserved c = rw (c.in_ok-push.ensures.items, map-append, c.loop-i.invariant, c.new.ensures.items) (sym (empty_lists-more c.loop-i.i))
