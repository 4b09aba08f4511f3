use Rattle.std.proofs.lemmas.List.{map-append}
use Rattle.fort_terms.proofs.SubpatternsLaws.{HasMore-inserted, HasMore-append}
use Rattle.fort_context_closure.proofs.rule_list.insert_all.Goals as goal

pub loop-pattern-preserved : goal.loop-pattern-preserved
loop-pattern-preserved c =
    rw map-append (HasMore-append _ _ _ _ _ c.loop-pattern.invariant (HasMore-inserted c.loop-pattern.found.keys _ _ c.in_ok-insert.ensures.keys))
