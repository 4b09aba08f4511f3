use Rattle.fort_terms.proofs.BothWaysLaws.{IsSystem-both_ways}
use Rattle.fort_terms.proofs.system.System.both_ways.Goals as goal

pub invariant_of-result : goal.invariant_of-result
invariant_of-result c =
    rw (c.in_ok-copy.ensures, c.signature.ensures.same, c.in_ok-vec.ensures.items, c.in_ok-push_exchanged.ensures, c.in_ok-push_copies.ensures, c.new-rules.ensures.items, c.rules.ensures.pairs, c.rules-2.ensures.pairs)
    (IsSystem-both_ways _ _ c.rules.ensures.lawful)
